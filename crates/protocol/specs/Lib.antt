-- The definitions of `protocol`, file by file.
pub mod Numbers
pub mod Plan
pub mod Parts
pub mod Exchanged
pub mod Role
pub mod Next
pub mod Met
pub mod Draws
pub mod Ends
pub mod Values
pub mod Samples
pub mod Marks
