-- A job's run is a trace of a search that ends with an empty list.
pub mod Optimum
