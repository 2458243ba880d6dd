-- What is shown of `octets` beside the proofs of its functions, file by file.
pub mod Octets
pub mod Write
pub mod Settles
pub mod Unique
