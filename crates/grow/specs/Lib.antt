-- What a growth of the code stands for, and what its functions promise.
pub mod Told
pub mod Growing
pub mod Turns
