-- The words of this crate's contracts, and the laws of its loop and calls.
--   Structs    the code's summary, as the definitions have it
--   Steps      the two ends of a call
pub mod Structs
pub mod Steps
