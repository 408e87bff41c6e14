-- Laws of the layout.
pub mod Table
pub mod Rows
pub mod Records
pub mod Figures
