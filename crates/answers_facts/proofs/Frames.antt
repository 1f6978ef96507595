-- The number of any bytes as a frame.
use mathlib.Core.Path.{◌≡◌, refl, sym}
use mathlib.Core.Bool.{Bool, true, false, not, ◌&&◌}
use Prim.Native.Nat.{ℕ}
use Rattle.std.specs.Prelude.{Err, Ok, Result}
use Rattle.buffer.specs.First.{pick}
use Rattle.frames.specs.Frame.{frame_of, frame_number}
use Rattle.frames.specs.declared.HeadV1.{HeadV1}
use Rattle.frames.specs.declared.HeadV2.{HeadV2}
use Rattle.frames.specs.declared.Frame.{Frame}
use Rattle.frames.specs.declared.Frame.TheVariants.{V1, Length, V2}
use Rattle.answers_facts.specs.Rows.{Told}
use Rattle.answers_facts.specs.Frames.{is_frame}
use Rattle.answers_facts.specs.Theorems.{FrameNumber}
use Rattle.answers_facts.proofs.Rows.{row, to, not_0}
use Rattle.refusals.specs.Number.{refusal_number}
use Rattle.refusals.specs.declared.Refusal.{Refusal}

abbrev Numbered : Result Frame Refusal → ℕ → Type 0
Numbered = Told frame_number is_frame 0

by_letter : (l w : Bool) → ◌≡◌ {A = ℕ} (pick l 0 (pick w 6 0)) (pick (not l && w) 6 0)
unfolding pick
by_letter true w = refl
by_letter false w = refl

of_silent : (k : Refusal) → Numbered (Err k) (refusal_number k)
unfolding frame_number is_frame
of_silent k = record { number_is = refl; exactly = sym (not_0 k) }

in_v1_lem : (h : HeadV1) → Numbered (Ok (V1 h)) 0
unfolding frame_number is_frame
in_v1_lem h = record { number_is = refl; exactly = refl }

in_length : (h : HeadV2) → Numbered (Ok (Length h)) 6
unfolding frame_number is_frame
in_length h = record { number_is = refl; exactly = refl }

in_v2_lem : (h : HeadV2) → Numbered (Ok (V2 h)) 0
unfolding frame_number is_frame
in_v2_lem h = record { number_is = refl; exactly = refl }

-- the number of any bytes; it is 0 exactly if they are a frame
pub frame_number_lem : FrameNumber
unfolding frame_of
frame_number_lem s =
    row _ (of_silent Refusal.Shape) (row _ (of_silent Refusal.Checksum) (row _ (of_silent Refusal.Address) (to (by_letter _ _) (row _ (in_v1_lem _) (row _ (in_length _) (in_v2_lem _))))))
