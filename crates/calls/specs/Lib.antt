-- The definitions of `calls`, file by file.
pub mod Header
pub mod Answer
