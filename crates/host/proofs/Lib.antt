-- What a host is promised, from what is promised below.
pub mod Kept
