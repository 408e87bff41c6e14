-- The laws of `knapsack`.
pub mod Cases
pub mod Items
pub mod Best
pub mod FastBound
pub mod Limits
