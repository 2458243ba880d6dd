-- What is shown of `walk` beside the proofs of its functions, file by file.
mod Frames
