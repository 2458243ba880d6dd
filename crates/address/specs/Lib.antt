-- The definitions of `address`, file by file.
pub mod Identity
