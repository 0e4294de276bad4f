-- Laws that functions name for their proofs.
--   Sums   for what is summed from 0 on
pub mod Sums
