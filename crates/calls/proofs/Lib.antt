-- Laws of the table of refusals and of its rows 1 to 9, and the figures of `compile`.
pub mod Tests
pub mod Rows
pub mod Refusals
pub mod Computing
pub mod Figures
