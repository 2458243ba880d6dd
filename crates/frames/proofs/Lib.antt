-- What is shown of `frames` beside the proofs of its functions, file by file.
pub mod Frames
pub mod Unique
