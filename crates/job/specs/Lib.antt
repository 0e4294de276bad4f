-- The words of this crate's contracts.
--   Text   the text of smoothing a job
pub mod Text
