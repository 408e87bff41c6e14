-- Laws of the structs that cross the border.
pub mod Arrays
