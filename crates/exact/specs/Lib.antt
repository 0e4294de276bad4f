-- The words of this crate's contracts, and the laws of its steps.
--   Converting   the steps of both conversions
pub mod Converting
