-- What is proved here, each statement as a type; proofs/ has the proofs.
use Rattle.std.specs.Prelude.{◌≡◌, List, ℕ, Some}
use Rattle.decimal.specs.Form.{scan_of}
use Rattle.decimal.specs.declared.Exact.{Exact}
use Rattle.long_decimal.specs.Long.{decimal_of}
use Rattle.long_decimal_facts.specs.Value.{ReadAs}

-- each text of document 01's form ("Decimal numbers") is read as its value by the reader that has no limit of six digits
abbrev pub AsTheForm : Type 0
AsTheForm = (s : List ℕ) (x : Exact) → scan_of s ≡ Some x → ReadAs x (decimal_of s)
