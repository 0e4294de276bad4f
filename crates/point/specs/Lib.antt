-- The words of this crate's contracts, and the laws of its steps.
--   Contract   what the call promises
--   Steps      the steps of the call
pub mod Contract
pub mod Steps
