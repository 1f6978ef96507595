-- Document 01, "Answer numbers of the text gauge": the reply column.
use Rattle.std.specs.Prelude.{List, [], ◌∷◌, ℕ, eqb}
use Rattle.buffer.specs.First.{◌⇒◌, first}
use Rattle.buffer.specs.Quoted.{bytes}
use Rattle.error_texts.specs.declared.ErrorText.{ErrorText}
use Rattle.error_texts.specs.declared.ErrorText.TheVariants.{Length, Logic, NoDef, Syntax, Range, Error1}

-- the six error texts
unfoldable pub error_bytes : ErrorText → List ℕ
error_bytes Length = bytes "LENGTH"
error_bytes Logic = bytes "_LOGIC"
error_bytes NoDef = bytes "NO_DEF"
error_bytes Syntax = bytes "SYNTAX"
error_bytes Range = bytes "_RANGE"
error_bytes Error1 = bytes "ERROR1"

-- the table's reply column, 6 to 13; below 6 nothing is sent, and this is not asked
unfoldable pub error_of : ℕ → ErrorText
error_of number =
    first
    (eqb number 6 ⇒ Length
    ∷ eqb number 7 ⇒ Logic
    ∷ eqb number 8 ⇒ NoDef
    ∷ eqb number 9 ⇒ Logic
    ∷ eqb number 10 ⇒ Syntax
    ∷ eqb number 11 ⇒ Range
    ∷ eqb number 12 ⇒ Logic
    ∷ [])
    Error1
