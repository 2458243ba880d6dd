-- The definitions of `setups`, file by file.
pub mod Setup
