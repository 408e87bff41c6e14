-- What is said of the number that a host's call returns, of what a compile has found, of what a refused call leaves, of two calls on equal input, of the calls of one search and of a job.
pub mod Calls
pub mod Demand2
pub mod Job
pub mod Layers
pub mod Numbers
pub mod Refused
pub mod Twice
