-- What is shown of `calls` beside the proofs of its functions, file by file.
pub mod Headers
pub mod Return
pub mod Unique
