-- What expanding promises.
pub mod State
