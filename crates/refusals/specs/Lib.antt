-- The words of this crate's contracts.
--   Sides        the cells of a picture
--   Span         what lies within reach of a place
--   Acceptable   samples that pass row 11
--   Counted      the answer of so many bad samples
pub mod Sides
pub mod Span
pub mod Acceptable
pub mod Counted
