-- What a request of the code asks, what its answer stands for, and what `compile` promises.
pub mod Asked
pub mod Answered
