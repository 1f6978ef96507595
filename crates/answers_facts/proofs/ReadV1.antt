-- The number of the V1 reader's answer to any bytes.
use mathlib.Core.Path.{◌≡◌, refl, sym}
use mathlib.Core.Bool.{Bool, true, false, not, ◌&&◌, ◌||◌}
use mathlib.Core.List.{List, [], ◌∷◌}
use Prim.Native.Nat.{ℕ, zero, suc}
use native.Mathlib.Omega.{arith}
use borrow.Author.Tests.{le-leb, leb-true, ne_eqb}
use lib.Dec.{eqb, leb}
use Rattle.std.specs.Prelude.{Err, Ok, Result}
use Rattle.buffer.specs.First.{◌⇒◌, first, pick}
use Rattle.buffer.specs.Byte.{same_text, numeral}
use Rattle.frames.specs.Frame.{data_from}
use Rattle.requests.specs.declared.RequestV1.{RequestV1}
use Rattle.requests.specs.declared.RequestV1.TheVariants.{Measure, ReadFactor, Unlock, SetFactor, ReadUnit, SetUnit}
use Rattle.request_texts.specs.RequestText.{data_v1}
use Rattle.replies_v1.specs.ReplyV1.{pressure_v1, measure_v1, factor_v1, unit_at, unit_v1, echo_v1, value_v1, read_v1, read_shown_v1}
use Rattle.replies_v1.specs.declared.ReplyV1.{ReplyV1}
use Rattle.replies_v1.specs.declared.ReplyV1.TheVariants.{Reads, UnderRange, OverRange, Factor, Unit, Done, Error}
use Rattle.answers_facts.specs.Rows.{Told}
use Rattle.answers_facts.specs.ReadV1.{read_number, is_read, special, bad_data, outside}
use Rattle.answers_facts.specs.Theorems.{ReplyNumberV1}
use Rattle.answers_facts.proofs.Rows.{row, to, not_0}
use Rattle.refusals.specs.Number.{refusal_number}
use Rattle.refusals.specs.declared.Refusal.{Refusal}

abbrev Numbered : Result ReplyV1 Refusal → ℕ → Type 0
Numbered = Told read_number is_read 0

-- six digits of a reading, and what stands for them
told : (a b c p q w : Bool)
    → ◌≡◌ {A = ℕ} (pick a 0 (pick b 0 (pick c 0 (pick p 10 (pick q 10 (pick w 11 0)))))) (pick (not (a || b || c) && (p || q)) 10 (pick (not (a || b || c) && w) 11 0))
unfolding pick
told true b c p q w = refl
told false true c p q w = refl
told false false true p q w = refl
told false false false true q w = refl
told false false false false true w = refl
told false false false false false true = refl
told false false false false false false = refl

unit_out : (n : ℕ) → leb 3 n ≡ true → Numbered (unit_at n) (pick (leb 3 n) 11 0)
unfolding unit_at read_number is_read read_shown_v1 pick
unit_out n e =
    let h = leb-true 3 n e in
    rw (e, ne_eqb n 0 (λ z. omega arith), ne_eqb n 1 (λ z. omega arith), ne_eqb n 2 (λ z. omega arith)) (record { number_is = refl; exactly = refl })

unit_is : (n : ℕ) → Numbered (unit_at n) (pick (leb 3 n) 11 0)
unfolding unit_at read_number is_read read_shown_v1 pick
unit_is zero = record { number_is = refl; exactly = refl }
unit_is (suc zero) = record { number_is = refl; exactly = refl }
unit_is (suc (suc zero)) = record { number_is = refl; exactly = refl }
unit_is (suc (suc (suc n))) = unit_out (suc (suc (suc n))) (le-leb 3 (suc (suc (suc n))) (omega arith))

-- nothing of a set reply is 11
never : (b : Bool) → ◌≡◌ {A = ℕ} (pick b 10 0) (pick b 10 (pick false 11 0))
unfolding pick
never b = refl

refused : (k : Refusal) → Numbered (Err k) (refusal_number k)
unfolding read_number is_read read_shown_v1
refused k = record { number_is = refl; exactly = sym (not_0 k) }

read : (x : ReplyV1) → Numbered (Ok x) 0
unfolding read_number is_read read_shown_v1
read (Reads mantissa exponent) = record { number_is = refl; exactly = refl }
read UnderRange = record { number_is = refl; exactly = refl }
read OverRange = record { number_is = refl; exactly = refl }
read (Factor n) = record { number_is = refl; exactly = refl }
read (Unit u) = record { number_is = refl; exactly = refl }
read Done = record { number_is = refl; exactly = refl }
read (Error e) = record { number_is = refl; exactly = refl }

echo_is : (r : RequestV1) (d : List ℕ) → Numbered (echo_v1 r d) (pick (not (same_text d (data_v1 r))) 10 (pick false 11 0))
unfolding echo_v1
echo_is r d = to (never (not (same_text d (data_v1 r)))) (row _ (refused Refusal.Syntax) (read Done))

value_number : (r : RequestV1) (d : List ℕ) → Numbered (value_v1 r d) (first (bad_data r d ⇒ 10 ∷ outside r d ⇒ 11 ∷ []) 0)
unfolding value_v1 bad_data outside special measure_v1 pressure_v1 factor_v1 unit_v1
value_number Measure d =
    to (told _ _ _ _ _ _) (row _ (read _) (row _ (read _) (row _ (read _) (row _ (refused Refusal.Syntax) (row _ (refused Refusal.Syntax) (row _ (refused Refusal.Range) (read _)))))))
value_number ReadFactor d = row _ (refused Refusal.Syntax) (row _ (refused Refusal.Range) (read _))
value_number ReadUnit d = row _ (refused Refusal.Syntax) (unit_is (numeral d))
value_number Unlock d = echo_is Unlock d
value_number (SetFactor n) d = echo_is (SetFactor n) d
value_number (SetUnit u) d = echo_is (SetUnit u) d

-- the number of any bytes, read as the reply to any request that was sent to any address; it is 0 exactly if a reply was read
pub reply_number : ReplyNumberV1
unfolding read_v1
reply_number address r s =
    row _ (refused Refusal.Shape) (row _ (refused Refusal.Checksum) (row _ (refused Refusal.Address) (row _ (refused Refusal.Other) (row _ (read _) (row _ (refused Refusal.Mismatch)
    (row _ (read _) (row _ (read _) (value_number r (data_from 4 s)))))))))
