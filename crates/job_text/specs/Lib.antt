-- A job's text, read byte by byte.
pub mod Machine
pub mod Kept
pub mod Reads
