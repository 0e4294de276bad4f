-- How a stream ends.
--   EndsWell r   nothing that was to be written is missing
use Rattle.std.specs.Prelude.{Result, Ok, Err, ⊤}
use Rattle.calls_stream.specs.declared.inner.stream.Ended.{Ended}
use Rattle.calls_stream.specs.declared.inner.stream.Ended.TheVariants.{Closed, TooLong, OutOfMemory, Unwritten}

abbrev pub EndsWell : {A : Type 0} → Result A Ended → Type 0
EndsWell (Ok x) = ⊤
EndsWell (Err Closed) = ⊤
EndsWell (Err TooLong) = ⊤
EndsWell (Err OutOfMemory) = ⊥
EndsWell (Err (Unwritten e)) = ⊥
