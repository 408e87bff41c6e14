-- Two calls on one text have one output.
pub mod Alike
