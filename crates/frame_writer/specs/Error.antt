-- Document 01, "Answer numbers of the text gauge": the heads and data of error frames.
use Rattle.std.specs.Prelude.{List, [], ◌∷◌, ℕ, eqb}
use Rattle.buffer.specs.First.{◌⇒◌, first}
use Rattle.buffer.specs.Quoted.{bytes}
use Rattle.frames.specs.declared.HeadV1.{HeadV1}
use Rattle.frames.specs.declared.HeadV2.{HeadV2}
use Rattle.error_texts.specs.Texts.{error_bytes}
use Rattle.error_texts.specs.declared.ErrorText.TheVariants.{Logic, Range}

-- "any refused V2 request by 7"; "A V2 error frame repeats address and command."
unfoldable pub error_head_v2 : HeadV2 → HeadV2
error_head_v2 h = record { address = h.address; access = 55; first = h.first; second = h.second }

-- "V1 errors: 8 sends `NO_DEF` for letter and data; 10 and 12 send the request's letter and `_LOGIC`; 11 the letter and `_RANGE`.
-- V1's 13 sends `M` with the data `1`." (6, 7 and 9 are V2's alone, and are not asked.)
unfoldable pub error_letter_v1 : ℕ → ℕ → ℕ
error_letter_v1 number letter = first (eqb number 8 ⇒ 78 ∷ eqb number 13 ⇒ 77 ∷ []) letter

unfoldable pub error_data_v1 : ℕ → List ℕ
error_data_v1 number =
    first
    (eqb number 8 ⇒ bytes "O_DEF"
    ∷ eqb number 11 ⇒ error_bytes Range
    ∷ eqb number 13 ⇒ bytes "1"
    ∷ [])
    (error_bytes Logic)

unfoldable pub error_head_v1 : ℕ → HeadV1 → HeadV1
error_head_v1 number h = record { address = h.address; letter = error_letter_v1 number h.letter }
