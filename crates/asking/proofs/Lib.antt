-- What is shown of `asking` beside the proofs of its functions, file by file.
pub mod Unique
