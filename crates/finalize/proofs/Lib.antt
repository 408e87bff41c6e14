-- Laws of finalisation.
pub mod Told
pub mod Verdict
pub mod Cut
pub mod Outcomes
pub mod LastLayer
pub mod Standing
pub mod Grown
pub mod Whole
