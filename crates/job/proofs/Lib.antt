-- Laws of the steps of a job's run: they make its answer.
pub mod Answering
pub mod Steps
