-- What `finalize` asks of a grown run, and what it promises.
pub mod Given
pub mod Ended
pub mod Judged
pub mod Standing
pub mod Answers
