-- What is shown of `responder` beside the proofs of its functions, file by file.
pub mod Handed
pub mod Unique
