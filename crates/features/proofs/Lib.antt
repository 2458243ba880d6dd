-- What is shown of `features` beside the proofs of its functions, file by file.
pub mod Features
pub mod Unique
