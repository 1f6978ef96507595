-- The number of the OPG reader's answer to any bytes.
use mathlib.Core.Path.{◌≡◌, refl, sym}
use mathlib.Core.Bool.{Bool, true, false, not, ◌&&◌}
use mathlib.Core.List.{List}
use Prim.Native.Nat.{ℕ}
use lib.Dec.{eqb}
use Rattle.buffer.specs.First.{pick}
use Rattle.opg_commands.specs.declared.Request.{Request}
use Rattle.opg_commands.specs.declared.Request.TheVariants.{ReadPressure, ReadUnit, WriteUnit, DetectionOff, DetectionOn}
use Rattle.std.proofs.Common.{Ok, Err}
use Rattle.opg_frames.specs.Number.{refusal_number}
use Rattle.opg_frames.specs.declared.Refusal.{Refusal}
use Rattle.opg_frames.specs.declared.Refusal.TheVariants.{Shape, Address, Crc, Header, Other, Length, Value}
use Rattle.opg_replies.specs.Reply.{ReadOpg, is_error, reply_value, read_of, read_shown}
use Rattle.opg_replies.specs.declared.Reply.{Reply}
use Rattle.opg_replies.specs.declared.Reply.TheVariants.{Pressure, Unit, Done, Error}
use Rattle.answers_facts.specs.Rows.{Told}
use Rattle.answers_facts.specs.ReadOpg.{read_number, is_read, bad_value}
use Rattle.answers_facts.specs.Theorems.{ReplyNumberOpg}
use Rattle.answers_facts.proofs.Rows.{row, to}

abbrev Numbered : ReadOpg → ℕ → Type 0
Numbered = Told read_number is_read 20

refused : (k : Refusal) → eqb (refusal_number k) 20 ≡ false → Numbered (Err k) (refusal_number k)
unfolding read_number is_read read_shown
refused k e = record { number_is = refl; exactly = sym e }

read : (x : Reply) → Numbered (Ok x) 20
unfolding read_number is_read read_shown
read (Pressure p) = record { number_is = refl; exactly = refl }
read (Unit u) = record { number_is = refl; exactly = refl }
read Done = record { number_is = refl; exactly = refl }
read (Error e) = record { number_is = refl; exactly = refl }

-- an error's value is not looked at
seen : (e b : Bool) → ◌≡◌ {A = ℕ} (pick e 20 (pick b 28 20)) (pick (not e && b) 28 20)
unfolding pick
seen true b = refl
seen false b = refl

never : ◌≡◌ {A = ℕ} 20 (pick false 28 20)
unfolding pick
never = refl

value_number : (r : Request) (s : List ℕ) → Numbered (reply_value r s) (pick (bad_value r s) 28 20)
unfolding reply_value bad_value refusal_number
value_number (ReadPressure u) s = row _ (refused Value refl) (read _)
value_number ReadUnit s = row _ (refused Value refl) (read _)
value_number (WriteUnit u) s = to never (read Done)
value_number DetectionOff s = to never (read Done)
value_number (DetectionOn n gas) s = to never (read Done)

-- the number of any bytes, read as the reply to any request; it is 20 exactly if a reply was read
pub reply_number : ReplyNumberOpg
unfolding read_of refusal_number
reply_number r s =
    row _ (refused Shape refl) (row _ (refused Address refl) (row _ (refused Crc refl) (row _ (refused Header refl) (row _ (refused Header refl) (row _ (refused Other refl)
    (row _ (refused Length refl) (to (seen (is_error s) (bad_value r s)) (row _ (read _) (value_number r s)))))))))
