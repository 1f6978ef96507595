-- Laws of V1 replies.
use mathlib.Core.Path.{◌≡◌, refl, ap, ◌∙◌}
use mathlib.Core.Bool.{Bool, true, false, not, and-eq-true_iff}
use mathlib.Core.List.{List, [], ◌∷◌}
use Prim.Native.Nat.{ℕ, ◌<◌, ◌≤◌}
use native.Mathlib.Numerals.{add-one}
use native.Mathlib.Omega.{arith}
use borrow.Author.Tests.{le-ltb}
use lib.ListN.{length, take, drop, length-drop}
use lib.Seq.{take_all}
use Rattle.std.specs.Prelude.{Err, Result, Ok}
use Rattle.buffer.specs.First.{pick}
use Rattle.buffer.specs.Byte.{at, within, is_digit, every, numeral, leading}
use Rattle.frames.specs.Frame.{is_letter, misshapen, wrong_sum, wrong_address, head_v1, frame_of}
use Rattle.frames.specs.declared.Frame.{Frame}
use Rattle.frames.specs.declared.Frame.TheVariants.{V1}
use Rattle.frames.proofs.Laws.{numeral_part}
use Rattle.decimal.proofs.Laws.{numeral_low}
use Rattle.requests.specs.AskV1.{six_digits}
use Rattle.requests.proofs.Laws.{six_told}
use Rattle.requests.specs.declared.RequestV1.{RequestV1}
use Rattle.replies_v1.specs.Inner.{body_v1, via_frame}
use Rattle.replies_v1.specs.declared.ReplyV1.TheVariants.{Reads}
use Rattle.replies_v1.specs.ReplyV1.{pressure_v1, not_v1, other_address, other_letter, read_v1}
use Rattle.refusals.specs.declared.Refusal.{Refusal}
use Rattle.replies_v1.specs.declared.ReplyV1.{ReplyV1}

-- ---- six digits

-- digits are leading digits
pub all_lead : (s : List ℕ) → every is_digit s ≡ true → leading s ≡ length s
unfolding every leading
all_lead [] e = refl
all_lead (x ∷ s) e =
    let h = (and-eq-true_iff (is_digit x) (every is_digit s)).0 e in
    rw (h.0, all_lead s h.1) (add-one (length s))

-- the first four spell less than 10000
pub four_low : (s : List ℕ) → six_digits s ≡ true → numeral (take 6 (take 4 s)) < 10000
four_low s e =
    let h = six_told s e in
    numeral_low s 4 (omega (arith, all_lead s h.1, h.0)) (omega arith)

-- all that is spelled is read
pub two_whole : (s : List ℕ) → six_digits s ≡ true → numeral (take 6 (drop 4 s)) ≡ numeral (drop 4 s)
two_whole s e = ap numeral (take_all 6 (drop 4 s) (simp length-drop (omega (arith, (six_told s e).0))))

-- a mantissa from 1000 on, and then an exponent
pub exponent_left : (d : List ℕ) (m e : ℕ) → six_digits d ≡ true → m ≡ numeral (take 6 (take 4 d)) → e ≡ numeral (take 6 (drop 4 d)) → 1000 ≤ m
    → pressure_v1 d ≡ pick (not (within 11 30 e)) (Err Refusal.Range) (Ok (Reads m e))
unfolding pressure_v1 pick
exponent_left d m e six mantissa exponent h =
    rw (six, ← (mantissa ∙ numeral_part 4 d (omega arith)), ← (exponent ∙ two_whole d six), le-ltb m 1000 h)

-- ---- a frame that has a letter at byte 3

pub no_letter : (address : ℕ) (r : RequestV1) (s : List ℕ) → is_letter (at s 3) ≡ false → read_v1 address r s ≡ Err Refusal.Shape
unfolding read_v1 not_v1 pick
no_letter address r s e = rw e

-- its head, and no other, fixes what it is
by_frame : (address : ℕ) (r : RequestV1) (s : List ℕ) → is_letter (at s 3) ≡ true → via_frame address r s (frame_of s) ≡ read_v1 address r s
unfolding via_frame frame_of read_v1 body_v1 not_v1 other_address other_letter head_v1 pick
by_frame address r s e = rw e (go (misshapen s) (wrong_sum s) (wrong_address s))
  where
    rest : Result ReplyV1 Refusal
    rest = body_v1 address r (head_v1 s) s

    go : (m w a : Bool)
        → via_frame address r s (pick m (Err Refusal.Shape) (pick w (Err Refusal.Checksum) (pick a (Err Refusal.Address) (Ok (V1 (head_v1 s))))))
        ≡ pick m (Err Refusal.Shape) (pick w (Err Refusal.Checksum) (pick a (Err Refusal.Address) rest))
    go true w a = refl
    go false true a = refl
    go false false true = refl
    go false false false = refl

pub at_frame : (address : ℕ) (r : RequestV1) (s : List ℕ) (f : Result Frame Refusal) → is_letter (at s 3) ≡ true → f ≡ frame_of s → via_frame address r s f ≡ read_v1 address r s
at_frame address r s f l e = ap (via_frame address r s) e ∙ by_frame address r s l
