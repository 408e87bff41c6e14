-- What a verdict of the code stands for, and what an accepted problem's limits are.
pub mod Verdict
pub mod Passed
