-- The layer list: which rows it may hold, the two orders of a layer, and what sorting them promises.
pub mod Below
pub mod Order
