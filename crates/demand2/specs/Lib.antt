-- Demand 2: what its statements speak of, and the statements.
pub mod Records
pub mod Statements
