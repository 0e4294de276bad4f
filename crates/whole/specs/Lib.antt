-- The laws of this crate's steps.
--   Mode       the mode of an output
--   Parity     odd and even by the language's own remainder
--   Rounding   a quotient rounded, as the code finds it
pub mod Mode
pub mod Parity
pub mod Rounding
