-- What is shown of `payloads` beside the proofs of its functions, file by file.
pub mod Unique
