-- What the rows' values stand for, and what reading and writing them promise.
pub mod Values
pub mod Access
