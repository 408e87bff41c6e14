-- Laws of record structs in a lent list, and in flat words.
pub mod Chosen
pub mod Drained
pub mod Filled
pub mod Lists
pub mod Places
pub mod Removing
pub mod Words
pub mod Written
