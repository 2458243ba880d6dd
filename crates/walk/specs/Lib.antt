-- The definitions of `walk`, file by file.
pub mod Digits
pub mod Frames
