-- What is shown of `setups` beside the proofs of its functions, file by file.
pub mod Starts
pub mod Rows
pub mod Return
pub mod Unique
