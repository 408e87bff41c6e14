-- The numbers of the reasons.
pub mod Numbers
