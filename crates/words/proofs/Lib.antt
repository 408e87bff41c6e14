-- The laws of `words`, and what the code's casts give.
pub mod Laws
pub mod Border
