-- Laws of the layer list.
pub mod Below
pub mod Filling
pub mod Comparing
pub mod Inserting
pub mod Sorting
pub mod Layer
