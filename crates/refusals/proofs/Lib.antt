-- The laws of `refusals`.
pub mod Lists
pub mod Sums
pub mod Checks
pub mod Accepted
