-- The words of this crate's proofs.
--   Text   the text of one job, of what was read
pub mod Text
