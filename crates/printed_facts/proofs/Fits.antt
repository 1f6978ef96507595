-- Lengths of the texts that reads of settings and refusals send.
use mathlib.Core.Bool.{Bool, true, false}
use mathlib.Core.List.{List}
use Prim.Native.Nat.{ℕ, ◌≤◌}
use native.Mathlib.Omega.{arith}
use lib.ListN.{length, length-append}
use Rattle.error_texts.specs.Texts.{error_bytes}
use Rattle.error_texts.specs.declared.ErrorText.TheVariants.{Length, Logic, NoDef, Syntax, Range, Error1}
use Rattle.decimal_text.proofs.Laws.{two_le}
use Rattle.sources.specs.Source.{capacity}
use Rattle.sources.proofs.Laws.{list_text_le}
use Rattle.settings.specs.Sent.{unit_text, stream_text, read_text}
use Rattle.settings.specs.declared.PressureUnit.{PressureUnit}
use Rattle.settings.specs.declared.PressureUnit.TheVariants.{Mbar, Torr, HPa}
use Rattle.settings.specs.declared.Key.TheVariants.{DA, DU, C1, CM, CC, FC, ST, SM}
use Rattle.settings.proofs.Laws.{transition_le}
use Rattle.printed_facts.specs.Theorems.{ErrorLe, ReadLe}

unit_le : (u : PressureUnit) → length (unit_text u) ≤ 4
unfolding unit_text
unit_le Mbar = omega arith
unit_le Torr = omega arith
unit_le HPa = omega arith

stream_le : (on : Bool) (list : List ℕ) → length list ≤ capacity → length (stream_text on list) ≤ 22
unfolding stream_text
stream_le true list few = simp length-append (omega (arith, list_text_le list))
stream_le false list few = omega arith

-- a list of at most as many sources as its array has places
pub read_le : ReadLe
unfolding read_text
read_le h few DA = omega arith
read_le h few DU = omega (arith, unit_le h.unit)
read_le h few C1 = omega (arith, two_le false h.factor)
read_le h few CM = omega arith
read_le h few CC = omega arith
read_le h few FC = omega arith
read_le h few ST = transition_le h.transition
read_le h few SM = omega (arith, stream_le h.streaming h.list few)

pub error_le : ErrorLe
unfolding error_bytes
error_le Length = omega arith
error_le Logic = omega arith
error_le NoDef = omega arith
error_le Syntax = omega arith
error_le Range = omega arith
error_le Error1 = omega arith
