-- The words of this crate's contracts, and a law for who calls them.
--   Told       what a host is told
--   Untested   that none is bad where none is tested
pub mod Told
pub mod Untested
