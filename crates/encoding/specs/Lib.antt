-- The words of this crate's contracts.
--   Append   bytes put into a slice, one stretch behind the other
--   Bytes    the library's words for numbers as bytes
pub mod Append
pub mod Bytes
