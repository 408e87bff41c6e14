-- What branching promises.
pub mod State
