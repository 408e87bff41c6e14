-- Laws of the end of a pick.
pub mod Replacing
pub mod Kept
