-- The words of this crate's contracts.
--   Contract   what the writer promises
pub mod Contract
