-- Demand 3: what its statements speak of, and the statements; and that start and pick refuse by the table.
pub mod Searches
pub mod Statements
pub mod Refusals
