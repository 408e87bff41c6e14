-- What crosses the border to a host.
pub mod Border
