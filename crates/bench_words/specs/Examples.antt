-- Document 01, "Settings and readings, V2": worked cases of bench settings in words.
use Rattle.std.specs.Prelude.{Bool, cond, ◌&&◌, List, [], ◌∷◌, ℕ, eqb, None, Option, Some}
use Prim.Native.String.{String}
use Rattle.buffer.specs.Byte.{same_text}
use Rattle.buffer.specs.Quoted.{bytes}
use Rattle.readings.specs.declared.Bench.TheVariants.{Reads, UnderRange, OverRange, Faulty, Status}
use Rattle.bench_words.specs.Words.{worded_of, worded_number}
use Rattle.readings.specs.declared.Bench.{Bench}

-- the words of a setting, the number of the bench's answer, and the setting
pub record Case : Type 0 where
  pub source : String
  pub value : String
  pub number : ℕ
  pub shown : List ℕ

abbrev pub bench : String → String → ℕ → List ℕ → Case
bench source value number shown = record { source = source; value = value; number = number; shown = shown }

-- a value: the source's code, 1 for minus, and digits * 10 ^ up / 10 ^ down; 1 under range, 2 over range, 3 faulty; 4 and FS; none
abbrev pub shown_of : Option Bench → List ℕ
shown_of (Some (Reads code x)) = 0 ∷ code ∷ cond x.negative 1 0 ∷ x.digits ∷ x.up ∷ x.down ∷ []
shown_of (Some (UnderRange code)) = 1 ∷ code ∷ []
shown_of (Some (OverRange code)) = 2 ∷ code ∷ []
shown_of (Some (Faulty code)) = 3 ∷ code ∷ []
shown_of (Some (Status v)) = 4 ∷ v ∷ []
shown_of None = []

abbrev pub cases : List Case
cases =
    bench "0" "973.4" 0 (0 ∷ 0 ∷ 0 ∷ 9734 ∷ 0 ∷ 1 ∷ [])
    ∷ bench "1" "1E3" 0 (0 ∷ 1 ∷ 0 ∷ 1 ∷ 3 ∷ 0 ∷ [])
    ∷ bench "2" "UR" 0 (1 ∷ 2 ∷ [])
    ∷ bench "6" "OR" 0 (2 ∷ 6 ∷ [])
    ∷ bench "7" "-1.23456e-9" 0 (0 ∷ 7 ∷ 1 ∷ 123456 ∷ 0 ∷ 14 ∷ [])
    ∷ bench "7" "-0" 0 (0 ∷ 7 ∷ 1 ∷ 0 ∷ 1 ∷ 0 ∷ [])
    ∷ bench "T2" "-40.00" 0 (0 ∷ 8 ∷ 1 ∷ 4 ∷ 1 ∷ 0 ∷ [])
    ∷ bench "T6" "ERROR1" 0 (3 ∷ 9 ∷ [])
    ∷ bench "0" "ERROR1" 0 (3 ∷ 0 ∷ [])
    -- more digits than the form has: the value counts
    ∷ bench "0" "1000000" 0 (0 ∷ 0 ∷ 0 ∷ 1 ∷ 6 ∷ 0 ∷ [])
    ∷ bench "0" "1234560000" 0 (0 ∷ 0 ∷ 0 ∷ 123456 ∷ 4 ∷ 0 ∷ [])
    ∷ bench "0" "1013.2500" 0 (0 ∷ 0 ∷ 0 ∷ 101325 ∷ 0 ∷ 2 ∷ [])
    ∷ bench "0" "0.000000001" 0 (0 ∷ 0 ∷ 0 ∷ 1 ∷ 0 ∷ 9 ∷ [])
    ∷ bench "0" "100000000e-9" 0 (0 ∷ 0 ∷ 0 ∷ 1 ∷ 8 ∷ 9 ∷ [])
    ∷ bench "FS" "0000003.0000" 0 (4 ∷ 3 ∷ [])
    -- FS by value
    ∷ bench "FS" "2" 0 (4 ∷ 2 ∷ [])
    ∷ bench "FS" "2.0" 0 (4 ∷ 2 ∷ [])
    ∷ bench "FS" "30e-1" 0 (4 ∷ 3 ∷ [])
    ∷ bench "FS" "-0" 0 (4 ∷ 0 ∷ [])
    -- left to the bench, which refuses them: zero and below, a place below 10^-9, over range of a temperature, hundredths, FS above 3
    ∷ bench "6" "0" 15 (0 ∷ 6 ∷ 0 ∷ 0 ∷ 1 ∷ 0 ∷ [])
    ∷ bench "0" "-1" 15 (0 ∷ 0 ∷ 1 ∷ 1 ∷ 0 ∷ 0 ∷ [])
    ∷ bench "0" "9.9e-10" 15 (0 ∷ 0 ∷ 0 ∷ 99 ∷ 0 ∷ 11 ∷ [])
    ∷ bench "1" "1e10" 15 (0 ∷ 1 ∷ 0 ∷ 1 ∷ 10 ∷ 0 ∷ [])
    ∷ bench "T2" "OR" 15 (2 ∷ 8 ∷ [])
    ∷ bench "T2" "125.01" 15 (0 ∷ 8 ∷ 0 ∷ 12501 ∷ 0 ∷ 2 ∷ [])
    ∷ bench "T6" "20.005" 15 (0 ∷ 9 ∷ 0 ∷ 20005 ∷ 0 ∷ 3 ∷ [])
    ∷ bench "FS" "4" 15 (4 ∷ 4 ∷ [])
    ∷ bench "FS" "255" 15 (4 ∷ 255 ∷ [])
    -- no setting: FS below zero, a fraction, and more than its type holds; words for FS; over six significant digits; texts that are no decimal
    ∷ bench "FS" "256" 15 []
    ∷ bench "FS" "-1" 15 []
    ∷ bench "FS" "1.5" 15 []
    ∷ bench "FS" "1e-10" 15 []
    ∷ bench "FS" "UR" 15 []
    ∷ bench "0" "1234567" 15 []
    ∷ bench "0" "1.234567" 15 []
    ∷ bench "0" "1." 15 []
    ∷ bench "0" ".5" 15 []
    ∷ bench "0" "1.5.2" 15 []
    ∷ bench "0" "1e100" 15 []
    ∷ bench "0" "+1" 15 []
    ∷ bench "0" "ur" 15 []
    ∷ bench "0" "" 15 []
    -- no source
    ∷ bench "3" "1" 15 []
    ∷ bench "07" "1" 15 []
    ∷ bench "T1" "20" 15 []
    ∷ bench "fs" "1" 15 []
    ∷ bench "" "1" 15 []
    ∷ []

abbrev pub right : Case → Bool
right c =
    let w = worded_of (bytes c.source) (bytes c.value) in
    eqb (worded_number w) c.number && same_text (shown_of w) c.shown
