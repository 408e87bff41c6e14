-- What the code's values of start and pick stand for, in the words of the search's definitions.
pub mod Held
pub mod Asked
pub mod Refused
pub mod Answered
pub mod Begins
