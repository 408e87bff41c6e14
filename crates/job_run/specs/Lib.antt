-- What the steps of a run make, and how its answer is read.
pub mod Runs
pub mod Twice
