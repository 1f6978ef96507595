-- Document 01, "Answer numbers of the text gauge": the number of each refusal; 14 and 15 are of "The master's side" and of the bench.
use Rattle.std.specs.Prelude.{ℕ, Result, Ok, Err}
use Rattle.refusals.specs.declared.Refusal.{Refusal}
use Rattle.refusals.specs.declared.Refusal.TheVariants.{Room, Shape, Checksum, Address, Other, Length, Code, NoDef, Access, Syntax, Range, Logic, Fault, Mismatch, Bench}

abbrev pub refusal_number : Refusal → ℕ
refusal_number Room = 1
refusal_number Shape = 2
refusal_number Checksum = 3
refusal_number Address = 4
refusal_number Other = 5
refusal_number Length = 6
refusal_number Code = 7
refusal_number NoDef = 8
refusal_number Access = 9
refusal_number Syntax = 10
refusal_number Range = 11
refusal_number Logic = 12
refusal_number Fault = 13
refusal_number Mismatch = 14
refusal_number Bench = 15

-- the number of what was done or refused: 0 where it was done
abbrev pub number_in : {A : Type 0} → Result A Refusal → ℕ
number_in (Ok a) = 0
number_in (Err k) = refusal_number k
