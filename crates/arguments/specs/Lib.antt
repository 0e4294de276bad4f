-- The words of this crate's contracts, and the laws of its steps.
--   Numbers   a plan's numbers, and the steps of taking them
--   Fields    the rows of a record's fields
pub mod Numbers
pub mod Fields
