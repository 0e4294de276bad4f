-- The words of this crate's contracts.
--   Reading   a field that was taken off the front of a record
pub mod Reading
