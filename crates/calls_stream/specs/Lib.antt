-- The words of this crate's contracts.
--   Checksum   what is printed of a long slice
--   Doubles    doubles and the words that they were read from
--   Ends       how a stream ends
--   Words      words read off what is left of the input
pub mod Checksum
pub mod Doubles
pub mod Ends
pub mod Words
