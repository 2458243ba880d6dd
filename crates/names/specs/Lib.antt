-- The definitions of `names`, file by file.
pub mod Names
