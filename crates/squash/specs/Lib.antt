-- What squashing a layer promises.
pub mod Places
pub mod Merging
pub mod Squashing
