-- The words of the contracts over a record.
--   Structs   the code's job, as the definitions have it
pub mod Structs
