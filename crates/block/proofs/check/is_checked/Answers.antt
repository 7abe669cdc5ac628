use Rattle.std.proofs.Common.{◌∙◌}
use Rattle.model_files.specs.Bytes.{check_offset}
use Rattle.block.proofs.Reading.{u32-is}
use Rattle.block.proofs.Checking.{check-test}
use Rattle.block.proofs.check.is_checked.Goals as goal

pub returns : goal.returns
returns c =
    let b = c.args.b.now in
    check-test b c.args.k _ _ c.checksum.ensures (c.from_le_bytes.ensures ∙ u32-is b c.bytes_at.result check_offset c.bytes_at.ensures)
