-- The words of this crate's contracts, and the laws of its steps.
--   Told      what a host is told besides an answer
--   Same      an outcome at the numbers that were taken
--   Held      what is answered besides is held by the number lent for it
--   Pointed   a point's two cases, as numbers
--   Found     what is told where a struct is not given
--   Writing   the writer behind the rows of a record's fields
pub mod Told
pub mod Same
pub mod Held
pub mod Pointed
pub mod Found
pub mod Writing
