-- A job's text, its run, and the text of its answer.
pub mod Text
pub mod Run
pub mod Left
pub mod Page
pub mod Figures
