-- Laws of the steps after the last layer.
pub mod Terminals
pub mod Walks
pub mod Paths
pub mod Rewriting
pub mod Raising
pub mod Upwards
pub mod Grown
pub mod Depths
