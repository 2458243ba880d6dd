-- The definitions of `octets`, file by file.
pub mod Octets
pub mod Write
