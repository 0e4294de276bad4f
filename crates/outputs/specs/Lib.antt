-- The words of this crate's contracts, and the laws that its callers cite.
--   Ready   what the steps of an output ask
--   Steps   the steps of an output
pub mod Ready
pub mod Steps
