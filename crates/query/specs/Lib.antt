-- What a compile of a record struct is asked.
pub mod Queried
