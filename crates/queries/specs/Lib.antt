-- The definitions of `queries`, file by file.
pub mod Result
