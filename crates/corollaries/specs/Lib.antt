-- Corollaries of compile's promise, for its callers.
pub mod Called
pub mod Statements
pub mod Starred
