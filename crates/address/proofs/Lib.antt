-- What is shown of `address` beside the proofs of its functions, file by file.
pub mod Identity
pub mod Unique
