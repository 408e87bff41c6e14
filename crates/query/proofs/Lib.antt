-- The bytes of a query's record that are its path.
pub mod Paths
