-- What is shown of `fields` beside the proofs of its functions, file by file.
pub mod Parts
pub mod Cut
pub mod Flags
pub mod Unique
