-- Document 01, "Settings and readings, V2": the text of a source and the text of a value as a bench setting.
use Rattle.std.specs.Prelude.{not, List, [], ◌∷◌, ℕ, ◌/◌, ◌%◌, ◌^◌, leb, eqb, Err, None, Ok, Option, Result, Some}
use Rattle.buffer.specs.First.{◌⇒◌, first}
use Rattle.buffer.specs.Byte.{same_text}
use Rattle.buffer.specs.Quoted.{bytes}
use Rattle.decimal.specs.Exact.{units}
use Rattle.decimal.specs.Form.{parsed_of}
use Rattle.error_texts.specs.Texts.{error_bytes}
use Rattle.error_texts.specs.declared.ErrorText.TheVariants.{Error1}
use Rattle.long_decimal.specs.Long.{decimal_of}
use Rattle.sources.specs.Source.{known_sources, source_of}
use Rattle.readings.specs.Reading.{under_text, over_text}
use Rattle.readings.specs.Bench.{bench_of, bench_number}
use Rattle.readings.specs.declared.Bench.TheVariants.{Reads, UnderRange, OverRange, Faulty, Status}
use Rattle.decimal.specs.declared.Exact.{Exact}
use Rattle.decimal.specs.declared.Number.{Number}
use Rattle.sources.specs.declared.SourceError.{SourceError}
use Rattle.decimal.specs.declared.NumberError.{NumberError}
use Rattle.readings.specs.declared.Bench.{Bench}

-- "a value of the decimal form above, at most six significant digits": the text may have more digits than the form (`1013.2500`), the value counts. Its
-- size and sign are left to the bench to judge
unfoldable pub number_at : ℕ → Option Exact → Option Bench
number_at code (Some x) = Some (Reads code x)
number_at code None = None

-- "A value is a number, `UR`, `OR` or `ERROR1`": a number, under range, over range, faulty
unfoldable pub value_at : ℕ → List ℕ → Option Bench
value_at code value =
    first
    (same_text value under_text ⇒ Some (UnderRange code)
    ∷ same_text value over_text ⇒ Some (OverRange code)
    ∷ same_text value (error_bytes Error1) ⇒ Some (Faulty code)
    ∷ [])
    (number_at code (decimal_of value))

-- "and FS, 0 to 3": the whole number that a decimal is by its value, in 10^-14; what is below zero, a fraction, or 256 and more, which the
-- type of FS does not hold, is no setting
unfoldable pub status_of : Result Number NumberError → Option Bench
status_of (Ok n) =
    first
    (n.negative ⇒ None
    ∷ not (eqb (units n % 10 ^ 14) 0) ⇒ None
    ∷ leb 256 (units n / 10 ^ 14) ⇒ None
    ∷ [])
    (Some (Status (units n / 10 ^ 14)))
status_of (Err e) = None

-- the value of a source: "The sources here are exactly `0 1 2 6 7 T2 T6`"
unfoldable pub source_at : Result ℕ SourceError → List ℕ → Option Bench
source_at (Ok code) value = value_at code value
source_at (Err SourceError.Unknown) value = None
source_at (Err SourceError.Malformed) value = None

-- "The bench sets the readings .. and FS"
unfoldable pub worded_of : List ℕ → List ℕ → Option Bench
worded_of source value =
    first
    (same_text source (bytes "FS") ⇒ status_of (parsed_of (decimal_of value))
    ∷ [])
    (source_at (source_of known_sources source) value)

-- the number of the bench's answer: "anything else is refused with 15 BENCH"
abbrev pub worded_number : Option Bench → ℕ
worded_number (Some setting) = bench_number (bench_of setting)
worded_number None = 15
