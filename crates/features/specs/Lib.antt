-- The definitions of `features`, file by file.
pub mod Features
pub mod Bits
