-- The definitions of `rounds`, file by file.
pub mod Rounds
pub mod Samples
