-- Decimal numbers as text.
pub mod Decimal
pub mod Read
pub mod Written
