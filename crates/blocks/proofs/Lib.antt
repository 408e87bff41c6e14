-- The laws of `blocks`.
pub mod Laws
