-- The definitions of `words`: a number of i64 in a 64-bit word of a table.
pub mod I64
