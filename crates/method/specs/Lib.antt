-- The definitions of `method`, file by file.
pub mod Method
pub mod Samples
