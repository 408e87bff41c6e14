-- The number that a host's call returns, what a compile has found, what a refused call leaves, two calls on equal input, the calls of one search, and a job.
pub mod Numbers
pub mod Refused
pub mod Twice
pub mod Calls
pub mod Demand2
pub mod Layers
pub mod Job
