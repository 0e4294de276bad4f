-- The words of this crate's contracts, and the laws of its steps.
--   Narrow   a double cut to 32 bits or to 64
--   Taking   the steps of doubles in
pub mod Narrow
pub mod Taking
