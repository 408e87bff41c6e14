-- The proofs of demand 2's statements. Each file says on its first line what it is for.
-- ---- bridges from the theorems to the statements: numbers, accepted input, sums, selections and paths
pub mod Numbers
pub mod Accepted
pub mod Sums
pub mod Selections
-- ---- runs: what the theorems leave open, what an outcome promises, what is seen of it
pub mod Unsquashed
pub mod Outcomes
pub mod Seen
-- ---- the statements: 2 and 4, 1, 3, 5, 6
pub mod Achieved
pub mod Exact
pub mod Relaxed
pub mod Drained
pub mod Frames
