-- Laws of what a pick's steps make.
pub mod Numbers
pub mod Ways
pub mod Whole
