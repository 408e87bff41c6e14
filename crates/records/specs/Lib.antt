-- Record structs in a lent list, and in flat words.
pub mod Structs
pub mod Moves
