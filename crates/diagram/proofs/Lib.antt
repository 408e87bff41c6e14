-- What is computed from the definitions.
pub mod Computing
pub mod Starred
pub mod Traps
