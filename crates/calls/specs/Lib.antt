-- The words of this crate's contracts.
--   Numbers   the calls by their numbers
pub mod Numbers
