-- What a job's run comes to.
pub mod Statements
