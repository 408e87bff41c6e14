-- The laws of decimal numbers.
pub mod Pushing
pub mod Digits
pub mod Back
pub mod Copying
