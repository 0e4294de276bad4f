-- What Dungdapple promises, in the order to read it. Document 01 is the page behind each definition; what stands in quotes is its own words.
--   Limits      the numbers of the table of bounds
--   Extension   a series beyond its ends
--   Kernel      plans, tap row, K-fold kernel, divisor, reach
--   Smoothing   results of a series; the weight of a sample in a result
--   Picture     results of a picture
--   Refusals    the table of numbers, and the lowest that applies; how many samples are bad is of document 02
--   Values      doubles in; whole numbers, doubles and summary out
--   Carry       whole numbers out that add up; its page is document 02
--   Exact       results as doubles that are the same numbers, and back
--   Calls       smoothing a series and a picture, an edit, a point: what each answers and leaves
--   Bounds      the table of bounds as inequalities, beside the rows
--   Planner     from standard deviation to radius and edge weight; which whole weight is taken is of document 02
--   Encoding    numbers as bytes and as text
--   Record      the job record: reader and writer
--   Program     what `smooth` prints
--   Arguments   what the doubles are taken as that a host lends
--   HostRecord  the writer as a host calls it
--   Examples    the page's examples, one table under one theorem
-- Document 01's calls are these with `fold` for every index map and `plan r b a K` for every list of stages.
-- A lent slice that an outcome does not name is only read.
-- Letters: φ, ψ index maps; s a stage, a shape, sigma or bytes; ss a plan's stages, hs and vs those across and down;
-- r, b, a, K the numbers of a plan; M the bound; N a length, W and H width and height; n and p positions;
-- f samples, r results, w work, nr and nw the lengths of the last two.
pub mod Limits
pub mod Extension
pub mod Kernel
pub mod Smoothing
pub mod Picture
pub mod Refusals
pub mod Values
pub mod Carry
pub mod Exact
pub mod Calls
pub mod Bounds
pub mod Planner
pub mod Encoding
pub mod Record
pub mod Program
pub mod Arguments
pub mod HostRecord
pub mod Examples
