-- The proofs of the statements about the whole call `compile`.
pub mod View
pub mod Accepted
pub mod Refusals
pub mod Sizes
pub mod Tables
pub mod Layers
