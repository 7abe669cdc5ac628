-- Laws of writing: the cascade of its errors, and the bytes that are written.
pub mod WriteCascade
