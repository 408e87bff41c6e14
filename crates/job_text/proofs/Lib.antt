-- The laws of the reader of a job's text.
pub mod Branches
pub mod Digits
pub mod Runs
pub mod Lines
pub mod Keeping
pub mod SoFar
pub mod Behind
pub mod Rows
pub mod Accepted
