-- `writing::write` meets its contract: its returns by the laws that it names. Assumes nothing.
use Rattle.writing.proofs.WriteCascade.{writable}
use Rattle.writing.proofs.write.Goals as goal

pub write_blocks-requires : goal.write_blocks-requires
write_blocks-requires c = writable _ c.in_ok-check.ensures _ c.if-buffer-problem.false
