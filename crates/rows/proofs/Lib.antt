-- Laws of the rows' code.
pub mod Access
