use Rattle.fields.proofs.FileTests.{whole-short, whole_long}
use Rattle.file_tests.proofs.is_whole.Goals as goal

pub returns-then-file-ge-LENGTH : goal.returns-then-file-ge-LENGTH
returns-then-file-ge-LENGTH c = whole_long _ c.if-file-ge-LENGTH.true

pub returns-else-file-ge-LENGTH : goal.returns-else-file-ge-LENGTH
returns-else-file-ge-LENGTH c = whole-short _ c.if-file-ge-LENGTH.false
