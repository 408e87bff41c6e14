-- Laws of branching.
pub mod Same
pub mod Scan
pub mod Edges
pub mod Children
pub mod Branches
