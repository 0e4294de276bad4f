-- The words of this crate's contract, and the laws of its loop.
--   Rows   one row after another
pub mod Rows
