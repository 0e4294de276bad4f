-- What is promised of the calls, each stated of the call's own contract: `Learnt`, what a caller learns of an answer and the slices left.
--   Smoothings     smoothing, of any shape
--   SmoothSeries   smoothing a series
--   Pictures       smoothing a picture
--   Edits          an edit of a stored smoothing
--   EditLists      any list of edits, and smoothing beside them
--   Points         a point
--   DoublesIn      doubles taken as samples
--   Outputs        putting results out, of any shape and in any form
--   WholeNumbers   results as whole numbers
--   Negation       negated samples, results and whole numbers
--   Carrying       results as whole numbers that add up
--   DoublesOut     results as doubles
--   Summaries      the lowest and the highest
--   Planner        the planner
--   Plans          a plan's constructor, divisor and reach
--   Refusals       a refusal's number, position and number of bad samples, and of any answer that rows give
--   Records        the job record's reader and writer, and that each undoes the other
--   Exact          results as doubles that are the same numbers, and back
--   Hosts          the calls that other languages have: any of them
--   HostSmoothing  smoothing, an edit and a point, as such calls
--   HostOutputs    values in and out, as such calls
--   HostRecords    the planner, a plan's divisor and reach, and the job record, as such calls
--   UselessBuilds  that no contract allows any of document 01's useless builds
pub mod Smoothings
pub mod SmoothSeries
pub mod Pictures
pub mod Edits
pub mod EditLists
pub mod Points
pub mod DoublesIn
pub mod Outputs
pub mod WholeNumbers
pub mod Negation
pub mod Carrying
pub mod DoublesOut
pub mod Summaries
pub mod Planner
pub mod Plans
pub mod Refusals
pub mod Records
pub mod Exact
pub mod Hosts
pub mod HostSmoothing
pub mod HostOutputs
pub mod HostRecords
pub mod UselessBuilds
