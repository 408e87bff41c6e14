-- What the run of a job's text promises.
pub mod Answered
