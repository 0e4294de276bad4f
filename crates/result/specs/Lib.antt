-- The words of this crate's contracts, and the laws of its loop.
--   Shares   what samples hold of a result, by the taps
pub mod Shares
