-- Laws of squashing a layer.
pub mod Changing
pub mod Deleting
pub mod Scanning
pub mod Tables
pub mod Copying
pub mod Absorbing
pub mod Layer
pub mod Twins
pub mod News
pub mod Relaxing
pub mod Callers
