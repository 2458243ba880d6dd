-- What is shown of `inputs` beside the proofs of its functions, file by file.
pub mod Rows
pub mod Return
pub mod Unique
