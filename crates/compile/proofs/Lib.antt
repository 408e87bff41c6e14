-- Laws of compile: the values that its functions make, and the run from its request to its answer.
pub mod Values
pub mod Ending
pub mod Running
pub mod Calling
