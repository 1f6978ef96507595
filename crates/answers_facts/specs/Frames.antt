-- Document 01, "Answer numbers of the text gauge": the number of any bytes as a frame, 2, 3, 4 or 6, and 0 for a frame.
use Rattle.std.specs.Prelude.{Bool, true, false, not, ◌&&◌, List, [], ◌∷◌, ℕ, Err, Ok, Result}
use Rattle.buffer.specs.First.{◌⇒◌, first}
use Rattle.buffer.specs.Byte.{at}
use Rattle.frames.specs.Frame.{is_letter, misshapen, wrong_sum, wrong_address, wrong_length}
use Rattle.frames.specs.declared.Frame.{Frame}
use Rattle.frames.specs.declared.Frame.TheVariants.{V1, Length, V2}
use Rattle.refusals.specs.declared.Refusal.{Refusal}

unfoldable pub is_frame : Result Frame Refusal → Bool
is_frame (Err k) = false
is_frame (Ok (V1 h)) = true
is_frame (Ok (Length h)) = false
is_frame (Ok (V2 h)) = true

-- the first that applies; 6 LENGTH is V2's
abbrev pub number_rows : List ℕ → ℕ
number_rows s =
    first
    (misshapen s ⇒ 2
    ∷ wrong_sum s ⇒ 3
    ∷ wrong_address s ⇒ 4
    ∷ (not (is_letter (at s 3)) && wrong_length s) ⇒ 6
    ∷ [])
    0
