-- Laws of a run: its places, its turns, and two runs of one problem.
pub mod Choosing
pub mod Leaving
pub mod Turning
pub mod Twice
