-- The words of this crate's contracts, and the laws of its loop and calls.
--   Structs    the code's carry, as the definitions have it
--   Contract   what a call promises
--   Steps      one cell, and the two ends of a call
pub mod Structs
pub mod Contract
pub mod Steps
