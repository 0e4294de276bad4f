-- The words of this crate's contracts.
--   Structs   the code's answer, as the definitions have it
--   Ready     what the rule asks
--   Sizes     how large its numbers grow
pub mod Structs
pub mod Ready
pub mod Sizes
