use Rattle.std.proofs.Common.{ap, take, ◌∙◌, ◌^◌, arith}
use Rattle.block.proofs.Placing.{bytes-placed, length-u32, low-u32}
use Rattle.block.proofs.Unsigning.{low-i32, bits-within, bits-placed}
use Rattle.model_files.specs.Bytes.{i32_bytes}
use Rattle.block.proofs.build.put_i32.Goals as goal

pub returns : goal.returns
unfolding i32_bytes
returns c =
    let z = c.args.z in
    let h = c.requires.1 in
    bits-placed z (2 ^ 31) h (omega arith)
    (bytes-placed _ (ap (take 4) c.to_le_bytes.ensures ∙ low-u32 _ ∙ low-i32 _ (bits-within z (2 ^ 31) h (omega arith))) (length-u32 _) c.put.ensures)
