-- What the cutset's functions promise.
pub mod Views
pub mod Trace
pub mod Steps
pub mod Clearing
pub mod Whole
