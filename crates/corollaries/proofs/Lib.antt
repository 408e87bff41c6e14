-- Proofs of the corollaries: each is a law of the definition, read off a call's answer.
pub mod Reading
pub mod Output
pub mod Layers
pub mod Demand2
pub mod Starred
