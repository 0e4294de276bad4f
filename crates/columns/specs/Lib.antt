-- The words of this crate's contracts, and the laws of its loops.
--   Ready    what a pass down and its steps ask
--   Adding   rows added to a row
--   First    the first row
--   Down     each row from the one above it
pub mod Ready
pub mod Adding
pub mod First
pub mod Down
