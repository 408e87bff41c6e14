-- The proofs of the statements about searches, in reading order. Each file says on its first line what it is for.
-- ---- what is needed of numbers and lists, and what no width changes
pub mod Order
pub mod Lists
pub mod Widths
-- ---- what a compile and a pick do
pub mod Compiled
pub mod Picks
-- ---- each number exactly when the table says
pub mod Table
-- ---- the invariant, and the optimum
pub mod Sound
pub mod Grown
pub mod Always
pub mod Ended
-- ---- how many picks
pub mod Few
-- ---- picks that are accepted
pub mod Refusals
pub mod Room
pub mod Empties
pub mod Hosts
-- ---- demand 3 in its own words
pub mod Turns
-- ---- what was taken for granted in Room and Empties, filled in
pub mod Enough
