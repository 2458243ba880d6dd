-- What is shown of `method` beside the proofs of its functions, file by file.
pub mod Method
pub mod Samples
pub mod Unique
