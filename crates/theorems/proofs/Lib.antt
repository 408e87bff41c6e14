-- What the definition of the diagram promises, proved of the definition alone. Each file says on its first line what it is for.
-- ---- base: tests, runs that aren't refused, rows of a table, sorted rows
pub mod Bool
pub mod Holds
pub mod Rows
pub mod Sort
-- ---- one layer: an expansion as a trail of moves, a merge as a trail of flags and copies, what a squash leaves
pub mod Move
pub mod Arc
pub mod Merge
pub mod Squash
-- ---- the growth: layer upon layer
pub mod Growth
pub mod Tower
pub mod Steps
pub mod Links
pub mod Sound
pub mod Exactness
pub mod Layers
-- ---- after the last layer
pub mod Local
pub mod Terminals
pub mod Cutset
pub mod Drain
pub mod Path
pub mod Drained
pub mod Walk
pub mod Whole
pub mod Above
-- ---- whole runs: values, paths, drained records, refusals
pub mod Runs
pub mod Leads
pub mod Rooms
pub mod Ten
pub mod Fits
pub mod Frames
pub mod Once
pub mod Enough
