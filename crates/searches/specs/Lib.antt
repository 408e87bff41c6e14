-- The search: records in the places of a list, start, pick, their rows of the table of refusals, and what a host does with them one after the other.
pub mod Places
pub mod Search
pub mod Start
pub mod Pick
pub mod Rows
pub mod Trace
pub mod Figures
