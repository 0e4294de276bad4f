-- Whole numbers and their sums: what the kit's libraries do not have, in the order the files build on each other.
--   Difference   every whole number as a difference of naturals
--   Ring         sums and products
--   Order        at most, below, and how `omega` reads them
--   Size         how far from 0
--   Expression, Polynomial, Solver   identities, by computing
--   Division     division that rounds down
--   Sum          sums from 0 up
--   Within       sums from the centre outward
pub mod Difference
pub mod Ring
pub mod Order
pub mod Size
pub mod Expression
pub mod Polynomial
pub mod Solver
pub mod Division
pub mod Sum
pub mod Within
