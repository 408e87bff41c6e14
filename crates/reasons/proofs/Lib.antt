-- Laws of the reasons' numbers.
pub mod Numbers
