-- What each call promises a host.
pub mod Promises
