-- The words of this crate's contracts, and the laws of its steps.
--   Ready   what the steps of smoothing a picture ask
--   Steps   the steps of a smoothing
pub mod Ready
pub mod Steps
