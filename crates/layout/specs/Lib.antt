-- The words of a table's rows.
pub mod Table
pub mod Rows
pub mod Records
pub mod Figures
