-- The words of this crate's contracts, and the laws of its steps.
--   Changes   what an edit makes of the stored results
pub mod Changes
