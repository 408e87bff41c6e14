-- Two picks on equal input, and the calls of one search.
pub mod Calls
pub mod Twice
