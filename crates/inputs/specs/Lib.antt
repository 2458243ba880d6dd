-- The definitions of `inputs`, file by file.
pub mod Input
