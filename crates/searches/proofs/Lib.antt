-- The checks of start and pick are rows of the table, and the figures hold.
pub mod Refusals
pub mod Computing
pub mod Figures
