-- The words of this crate's contracts, and the laws of its steps.
--   Contract   what a call promises
--   Ready      what the steps of a smoothing ask
--   Steps      the steps of a call
pub mod Contract
pub mod Ready
pub mod Steps
