-- The laws that callers cite.
--   Mapped   cells that are each a function of another's
pub mod Mapped
