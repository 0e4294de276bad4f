-- The words of this crate's contracts, and the laws of its loops.
--   Taps    the kernel from the centre outward
--   Weigh   the weight of a sample, by strided sums of taps
--   Lent    the taps that a call is lent
pub mod Taps
pub mod Weigh
pub mod Lent
