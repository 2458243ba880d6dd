-- What is shown of `front` beside the proofs of its functions, file by file.
mod Other
pub mod Unique
