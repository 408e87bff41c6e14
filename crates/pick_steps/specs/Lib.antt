-- What the steps of a pick make: its numbers, what it compiles and finds; and what a pick promises but for its open list.
pub mod Steps
pub mod Changed
pub mod Tried
