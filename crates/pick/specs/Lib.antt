-- What a pick over lent lists promises.
pub mod Picks
