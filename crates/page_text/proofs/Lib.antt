-- The laws of what is put into a buffer, of a path's bytes, of an answer's length and of what an output says.
pub mod Putting
pub mod Lines
pub mod Taking
pub mod Sign
pub mod Counts
pub mod Pages
pub mod Says
