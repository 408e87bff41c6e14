-- A job's answer as text.
pub mod Page
pub mod Put
pub mod Says
