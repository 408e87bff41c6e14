-- What stored layers stand for.
pub mod Layer
pub mod Places
pub mod Stored
