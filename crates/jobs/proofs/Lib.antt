-- Case R, computed.
pub mod Figures
