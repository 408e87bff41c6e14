-- Laws of expanding.
pub mod Decisions
pub mod Nodes
pub mod Rounds
