-- The definitions of `frames`, file by file.
pub mod Packets
