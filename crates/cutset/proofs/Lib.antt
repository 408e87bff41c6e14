-- Laws of the cutset.
pub mod Commute
pub mod Handing
pub mod Listing
pub mod Steps
pub mod Inbound
pub mod Layered
pub mod Clearing
pub mod Whole
pub mod Outcomes
pub mod Asked
