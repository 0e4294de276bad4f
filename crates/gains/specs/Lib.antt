-- The words of this crate's contracts, and the laws of its loops.
--   Gains   what the results gain, by the taps
pub mod Gains
