-- The bounds of document 01, and of document 02 that of a mode.
--   least                            radius and edge weight go from 0, every other number of its table from this
--   max_passes, max_radius, max_inner   of a plan; the edge weight goes to one less than the inner weight
--   max_bound                         of the sample bound M
--   max_result                        of M times the divisor
--   max_length, max_side               of a series and of a picture's cells; of its width and height
--   max_taps                          of an accepted plan's taps from the centre outward; that no plan has more is a law
--   max_mode                          of whole output's mode, which goes from 0
--   max_sigma                         of the planner's sigma, in hundredths
--   max_samples, max_job               of a job: samples of its record, bytes of the program's input
use Rattle.std.specs.Prelude.{ℕ}

abbrev pub least : ℕ
least = 1

abbrev pub max_passes : ℕ
max_passes = 8

abbrev pub max_radius : ℕ
max_radius = 1023

abbrev pub max_inner : ℕ
max_inner = 255

abbrev pub max_bound : ℕ
max_bound = 2147483647

abbrev pub max_result : ℕ
max_result = 9007199254740991

abbrev pub max_length : ℕ
max_length = 65536

abbrev pub max_side : ℕ
max_side = 4096

abbrev pub max_taps : ℕ
max_taps = 4097

abbrev pub max_mode : ℕ
max_mode = 1

abbrev pub max_sigma : ℕ
max_sigma = 25600

abbrev pub max_samples : ℕ
max_samples = 1024

abbrev pub max_job : ℕ
max_job = 4123
