-- Laws of the decisions of start and pick.
pub mod Firsts
pub mod Asking
pub mod Starting
pub mod Twice
