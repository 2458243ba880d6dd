-- What is shown in `machine`, file by file.
pub mod Ends
pub mod Kept
pub mod Refusals
pub mod Failures
pub mod Finished
pub mod Reading
pub mod Asking
pub mod Room
pub mod Samples
pub mod Awaited
pub mod Bound
pub mod Exact
pub mod Sent
pub mod Success
pub mod Witness
