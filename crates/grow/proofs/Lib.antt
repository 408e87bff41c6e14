-- The laws behind the growth's proofs.
pub mod Roots
pub mod Stopping
pub mod Storing
pub mod Squashing
pub mod Expanding
pub mod Turning
pub mod Rounds
