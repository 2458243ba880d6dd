-- The definitions of `wrapper`, file by file.
pub mod Starts
