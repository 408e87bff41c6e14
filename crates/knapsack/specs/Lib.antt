-- The definitions of `knapsack`: items and decisions, the public 0/1 knapsack, the best completion, the fast bound, the limits.
pub mod Items
pub mod Knapsack
pub mod Best
pub mod FastBound
pub mod Limits
