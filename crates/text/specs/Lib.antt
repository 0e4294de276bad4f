-- The words of this crate's contracts.
--   Decimals   the library's words for decimals
pub mod Decimals
