-- What the steps after the last layer promise.
pub mod Sits
pub mod Terminals
pub mod Walks
pub mod Paths
pub mod Bounds
