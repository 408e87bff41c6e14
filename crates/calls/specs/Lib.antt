-- The call `compile`: what it is asked, document 01's refusals as rows and as tests, its answer, what it leaves, and figures. Start and pick are the crate `searches`.
pub mod Asked
pub mod Rows
pub mod Refusals
pub mod Compile
pub mod RunRows
pub mod Table
pub mod Figures
