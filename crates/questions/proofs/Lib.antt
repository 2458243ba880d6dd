-- What is shown of `questions` beside the proofs of its functions, file by file.
mod Asks
mod Other
pub mod Unique
