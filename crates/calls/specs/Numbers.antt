-- The calls by their numbers, those of the files in reference/vectors.
--   number_of call   a call's number
--   Decodes n r      r is the call of number n, or n is no call's number
use Rattle.std.specs.Prelude.{◌≡◌, ◌≢◌, ℕ, Result, MatchResult}
use Rattle.calls_stream.specs.declared.inner.stream.Ended.{Ended}
use Rattle.calls.specs.declared.call.Call.{Call}
use Rattle.calls.specs.declared.call.Call.TheVariants.{SmoothSeries, SmoothPicture, EditSeries, Point, PlanFor, DoublesIn, WholeSeriesBy, DoublesSeries, SummarySeries, WholePictureBy, DoublesPicture, SummaryPicture, ReadRecord, WriteRecord, CarrySeries, CarryPicture, ResultsToDoubles, DoublesToResults, DivisorAndReach, StretchAndSample, PlansForAll, WholeSeries, WholePicture}

abbrev pub number_of : Call → ℕ
number_of SmoothSeries = 1
number_of SmoothPicture = 2
number_of EditSeries = 3
number_of Point = 4
number_of PlanFor = 5
number_of DoublesIn = 6
number_of WholeSeriesBy = 7
number_of DoublesSeries = 8
number_of SummarySeries = 9
number_of WholePictureBy = 10
number_of DoublesPicture = 11
number_of SummaryPicture = 12
number_of ReadRecord = 13
number_of WriteRecord = 14
number_of CarrySeries = 15
number_of CarryPicture = 16
number_of ResultsToDoubles = 25
number_of DoublesToResults = 26
number_of DivisorAndReach = 100
number_of StretchAndSample = 101
number_of PlansForAll = 102
number_of WholeSeries = 107
number_of WholePicture = 110

abbrev pub Decodes : ℕ → Result Call Ended → Type 0
Decodes n r = MatchResult r (λ call. number_of call ≡ n) (λ _. (call : Call) → number_of call ≢ n)
