-- What is shown of `rounds` beside the proofs of its functions, file by file.
pub mod Rounds
pub mod Samples
pub mod Unique
