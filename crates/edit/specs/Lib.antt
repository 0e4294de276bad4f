-- The words of this crate's contracts, and the laws of its steps.
--   Contract   what the call promises
--   Rows       the rows, in the parts that the code tests
--   Steps      the steps of the call
pub mod Contract
pub mod Rows
pub mod Steps
