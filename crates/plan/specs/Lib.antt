-- The words of this crate's contracts.
--   Structs    the code's types as the definitions have them
--   Rows       rows tested one after the other
--   Capped     products that cannot wrap
--   Tested     what the tests say of a plan
--   Contract   what a conversion promises, in or out
pub mod Structs
pub mod Rows
pub mod Capped
pub mod Tested
pub mod Contract
