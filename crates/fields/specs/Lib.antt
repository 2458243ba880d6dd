-- The definitions of `fields`, file by file.
pub mod Fields
