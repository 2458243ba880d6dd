-- What is shown of `wrapper` beside the proofs of its functions, file by file.
pub mod Starting
pub mod Unique
