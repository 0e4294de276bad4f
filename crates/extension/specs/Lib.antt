-- The words of this crate's contracts.
--   Source   what a pass reads
pub mod Source
