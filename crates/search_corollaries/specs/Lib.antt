-- What is said of two picks on equal input, and of the calls of one search.
pub mod Calls
pub mod Twice
