-- Laws of stored layers.
pub mod Stored
pub mod Whole
