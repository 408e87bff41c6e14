-- What is said of two calls of `run_job`, and of two calls of `answer`.
pub mod Statements
