-- The words of this crate's contracts, and the laws of its steps.
--   Ready     what the rest asks
--   Turning   a and -a - 1
pub mod Ready
pub mod Turning
