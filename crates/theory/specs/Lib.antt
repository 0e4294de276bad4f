-- Laws of the definitions in `meaning`, in the order they build on each other. Each file's head names its laws; their statements need no definition opened.
--   Folding      what an index map must be for the laws
--   Remainder    the remainder that is never negative
--   HalfSample   the map of document 01 is one
--   Lists        lists by their elements, and how large those are
--   Fill         a list written by a loop
--   Kernel       symmetric, never negative, 0 beyond the reach
--   Convolution  a stage in front, stages one after the other; linear; the kernel's sum
--   Stages       the numbers of stages one after the other, and of K equal ones
--   SameTaps     stages of one and the same tap row
--   Reach        where the kernel is above 0
--   Order        the order of stages does not matter
--   Moment       variances add
--   Passes       the law: passes are one convolution
--   Sizes        M times the divisor, after every pass
--   Slide        a pass by running sums, and how large they grow
--   Walk         the extension walked forward, by where one stands in its period
--   Period       sums from 0 on, whole periods at once
--   Tests        tests by what they test, and joined
--   Weights      results are linear in the samples
--   Local        what lies within reach, and nothing else
--   Shares       what the samples within reach hold of a result
--   Images       a weight as strided sums of taps
--   Picture      rows first or columns first
--   Totals       the sum of the results is the divisor times that of the samples
--   Refusals     which row answers, and what an answer of 0 says
--   Counts       at how many places a test is true, and how many results changed
--   Places       the first place where a test is true
--   Tally        row 11 by a loop that counts
--   BadSamples   what an answer says of the samples that row 11 tests
--   ShapeRows    rows 1 to 8 of any shape, and one row more
--   Edits        what an edit makes of results, and how many change
--   Nearest      a quotient to the nearest whole number
--   Rounded      the same by a mode, which says where a half goes
--   Carry        remainders carried on
--   Extremes     the first of the lowest, and of the highest
--   Values       a result over the divisor
--   Doubles      doubles that are whole, and what they are cut to
--   Encoding     numbers as bytes and as text
--   Records      the job record: what is written is read, what is read as done was written
--   Accepted     a call is done exactly where the bounds hold
--   AcceptedSmoothings   a smoothing, of a series or a picture, is done exactly where its bounds hold
--   AcceptedOutputs   so is an output, of a series or a picture
--   OwnRows      an output with rows of its own
--   ModeRow      row 21
--   Negated      negated samples and results
--   Placed       rows 1 to 9 of a call with a place, and what follows them
--   AcceptedEdits, AcceptedPoints   so are an edit and a point
--   AcceptedDoubles      and doubles in
--   Stored       what an edit leaves of a stored smoothing
--   Farthest     how far an accepted plan reaches at most
--   Programs     what the program prints
--   Widened      an edge weight that is the inner weight
--   Planner      the planner's rule
--   Survey       what the survey's edge weight is
--   Narrow       how large the numbers are that a call answers
--   Arguments    what a host's doubles are taken as
-- A law over an index map φ takes `F : Folding φ`, where it speaks of reach `C : Nearness φ`, and of totals `B : Balanced φ`:
-- for document 01, half_sample, half_sample_near and half_sample_balanced.
pub mod Folding
pub mod Remainder
pub mod HalfSample
pub mod Lists
pub mod Fill
pub mod Kernel
pub mod Convolution
pub mod Stages
pub mod SameTaps
pub mod Reach
pub mod Order
pub mod Moment
pub mod Passes
pub mod Sizes
pub mod Slide
pub mod Walk
pub mod Period
pub mod Tests
pub mod Weights
pub mod Local
pub mod Shares
pub mod Images
pub mod Picture
pub mod Totals
pub mod Refusals
pub mod Counts
pub mod Places
pub mod Tally
pub mod BadSamples
pub mod ShapeRows
pub mod Edits
pub mod Nearest
pub mod Rounded
pub mod Carry
pub mod Extremes
pub mod Values
pub mod Doubles
pub mod Encoding
pub mod Records
pub mod Accepted
pub mod AcceptedSmoothings
pub mod AcceptedOutputs
pub mod OwnRows
pub mod ModeRow
pub mod Negated
pub mod Placed
pub mod AcceptedEdits
pub mod AcceptedPoints
pub mod AcceptedDoubles
pub mod Stored
pub mod Farthest
pub mod Programs
pub mod Widened
pub mod Planner
pub mod Survey
pub mod Narrow
pub mod Arguments
