-- The theorems of the file format, on the model's definitions.
pub mod Errors
pub mod Within
pub mod ByteLaws
pub mod BlockLaws
pub mod FileShape
pub mod AcceptedShape
pub mod RecordCut
pub mod FileIsWritten
pub mod BlocksRead
pub mod WrittenIsRead
pub mod BufferKept
