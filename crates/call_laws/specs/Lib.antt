-- The laws of the whole call `compile`, as statements.
pub mod Statements
