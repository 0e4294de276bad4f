-- Laws that functions name for their proofs.
--   Sums   strided sums, and the four of a weight
pub mod Sums
