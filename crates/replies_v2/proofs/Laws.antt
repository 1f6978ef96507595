-- Laws of frames as replies, and of the list beside a reply.
use mathlib.Core.Path.{◌≡◌, refl, sym, ap, ◌∙◌}
use mathlib.Core.Bool.{Bool, true, false, not, cond}
use mathlib.Core.List.{List, [], ◌∷◌, map}
use Prim.Native.Nat.{ℕ}
use native.Mathlib.Omega.{arith}
use lib.Dec.{eqb}
use Rattle.std.specs.List.{find}
use Rattle.std.specs.Prelude.{Err, None, Ok, Option, Result, Some}
use Rattle.buffer.specs.First.{◌⇒◌, first, pick}
use Rattle.buffer.specs.Byte.{at, is_digit, same_text}
use Rattle.buffer.proofs.Laws.{within_true, within_below}
use Rattle.buffer.proofs.Rules.{each, stop}
use Rattle.frames.specs.Frame.{is_letter, data_from, misshapen, wrong_sum, wrong_address, wrong_length, head_v2, frame_of}
use Rattle.frames.specs.declared.HeadV2.{HeadV2}
use Rattle.frames.specs.declared.Frame.{Frame}
use Rattle.frames.specs.declared.Frame.TheVariants.{V1, Length, V2}
use Rattle.error_texts.specs.Texts.{error_bytes}
use Rattle.error_texts.specs.declared.ErrorText.{ErrorText}
use Rattle.sources.specs.Beside.{Beside}
use Rattle.sources.specs.declared.WithSources.{WithSources}
use Rattle.settings.specs.Limits.{ProfileLimits}
use Rattle.settings.specs.declared.Setting.{Setting}
use Rattle.settings.specs.declared.Key.TheVariants.{DA, DU, C1, CM, CC, FC, ST, SM}
use Rattle.forms.specs.Judged.{verdict_of, if_set, list_in}
use Rattle.forms.specs.Forms.{stream_data}
use Rattle.requests.specs.declared.Command.TheVariants.{MV, T2, FN, FS, Of}
use Rattle.requests.specs.declared.RequestV2.{RequestV2}
use Rattle.requests.specs.declared.RequestV2.TheVariants as request
use Rattle.replies_v2_values.specs.Value.{held_reply, setting_reply, value_reply, value_list}
use Rattle.replies_v2.specs.ReplyV2.{errors, not_v2, error_reply, data_reply, read_v2, beside, data_list, read_list, body_reply, ReadsV2, DataReads, BodyReads}
use Rattle.replies_v2_values.specs.declared.ReplyV2.TheVariants.{Measured, UnderRange, OverRange, Degrees, FilamentNumber, StatusNumber, Holds, Done, Error}
use Rattle.replies_v2_values.specs.declared.ReplyV2.{ReplyV2}
use Rattle.refusals.specs.declared.Refusal.{Refusal}

-- ---- frames

-- what a frame is as a reply, where byte 3 of its bytes is a digit
unfoldable pub via_frame : ProfileLimits → ℕ → RequestV2 → List ℕ → Result Frame Refusal → Result ReplyV2 Refusal
via_frame limits address r s (Err k) = Err k
via_frame limits address r s (Ok (V1 h)) = Err Refusal.Shape
via_frame limits address r s (Ok (Length h)) = pick (not (eqb h.address address)) (Err Refusal.Other) (Err Refusal.Length)
via_frame limits address r s (Ok (V2 h)) = pick (not (eqb h.address address)) (Err Refusal.Other) (body_reply limits r h (data_from 8 s))

digit_no_letter : (b : ℕ) → is_digit b ≡ true → is_letter b ≡ false
unfolding is_letter
digit_no_letter b e =
    let h = within_true 48 57 b e in
    rw (within_below 65 90 b (omega arith), within_below 97 122 b (omega arith))

by_frame : (limits : ProfileLimits) (address : ℕ) (r : RequestV2) (s : List ℕ) → is_digit (at s 3) ≡ true → via_frame limits address r s (frame_of s) ≡ read_v2 limits address r s
unfolding via_frame frame_of read_v2 not_v2 body_reply pick
by_frame limits address r s e = rw (e, digit_no_letter (at s 3) e) (go (misshapen s) (wrong_sum s) (wrong_address s) (wrong_length s))
  where
    go : (m w a l : Bool)
        → via_frame limits address r s (pick m (Err Refusal.Shape) (pick w (Err Refusal.Checksum) (pick a (Err Refusal.Address) (pick l (Ok (Length (head_v2 s))) (Ok (V2 (head_v2 s)))))))
        ≡ pick m (Err Refusal.Shape) (pick w (Err Refusal.Checksum) (pick a (Err Refusal.Address) (pick (not (eqb (head_v2 s).address address)) (Err Refusal.Other) (pick l (Err Refusal.Length) (body_reply limits r (head_v2 s) (data_from 8 s))))))
    go true w a l = refl
    go false true a l = refl
    go false false true l = refl
    go false false false true = refl
    go false false false false = refl

pub at_frame : (limits : ProfileLimits) (address : ℕ) (r : RequestV2) (s : List ℕ) (f : Result Frame Refusal) → is_digit (at s 3) ≡ true → frame_of s ≡ f → via_frame limits address r s f ≡ read_v2 limits address r s
at_frame limits address r s f d e = ap (via_frame limits address r s) (sym e) ∙ by_frame limits address r s d

-- bytes whose byte 3 is no digit
pub no_frame : (limits : ProfileLimits) (address : ℕ) (r : RequestV2) (s : List ℕ) → not (is_digit (at s 3)) ≡ true → Err Refusal.Shape ≡ read_v2 limits address r s
unfolding read_v2 not_v2
no_frame limits address r s e = stop _ _ _ _ (rw e) refl

-- ---- the list beside a reply

beside_none : (x : Result ReplyV2 Refusal) → beside x [] ≡ []
unfolding beside
beside_none (Ok (Measured n)) = refl
beside_none (Ok UnderRange) = refl
beside_none (Ok OverRange) = refl
beside_none (Ok (Degrees negative h)) = refl
beside_none (Ok (FilamentNumber d)) = refl
beside_none (Ok (StatusNumber d)) = refl
beside_none (Ok (Holds x)) = refl
beside_none (Ok Done) = refl
beside_none (Ok (Error e)) = refl
beside_none (Err k) = refl

beside_held : (v : Result Setting Refusal) (list : List ℕ) → beside (held_reply v) (if_set v list) ≡ if_set v list
unfolding beside held_reply if_set
beside_held (Ok x) list = refl
beside_held (Err k) list = refl

beside_data : (limits : ProfileLimits) (r : RequestV2) (s : List ℕ) → beside (data_reply limits r s) (data_list limits r s) ≡ data_list limits r s
unfolding data_reply data_list value_reply value_list setting_reply verdict_of list_in
beside_data limits (request.Read MV) s = beside_none (data_reply limits (request.Read MV) s)
beside_data limits (request.Read T2) s = beside_none (data_reply limits (request.Read T2) s)
beside_data limits (request.Read FN) s = beside_none (data_reply limits (request.Read FN) s)
beside_data limits (request.Read FS) s = beside_none (data_reply limits (request.Read FS) s)
beside_data limits (request.Read (Of DA)) s = beside_none (data_reply limits (request.Read (Of DA)) s)
beside_data limits (request.Read (Of DU)) s = beside_none (data_reply limits (request.Read (Of DU)) s)
beside_data limits (request.Read (Of C1)) s = beside_none (data_reply limits (request.Read (Of C1)) s)
beside_data limits (request.Read (Of CM)) s = beside_none (data_reply limits (request.Read (Of CM)) s)
beside_data limits (request.Read (Of CC)) s = beside_none (data_reply limits (request.Read (Of CC)) s)
beside_data limits (request.Read (Of FC)) s = beside_none (data_reply limits (request.Read (Of FC)) s)
beside_data limits (request.Read (Of ST)) s = beside_none (data_reply limits (request.Read (Of ST)) s)
beside_data limits (request.Read (Of SM)) s = beside_held (stream_data limits s) _
beside_data limits (request.Restore c) s = beside_none (data_reply limits (request.Restore c) s)
beside_data limits (request.Set x) s = beside_none (data_reply limits (request.Set x) s)

-- no sources stand beside an error, whatever the texts are
beside_row : (s list : List ℕ) (es : List ErrorText) → beside (first (map (λ (e : ErrorText). same_text s (error_bytes e) ⇒ Ok (Error e)) es) (Err Refusal.Syntax)) list ≡ []
unfolding beside
beside_row s list [] = refl
beside_row s list (e ∷ es) = each (λ (x : Result ReplyV2 Refusal). beside x list ≡ []) (same_text s (error_bytes e)) (Ok (Error e)) _ (λ _. refl) (λ _. beside_row s list es)

pub beside_error : (s list : List ℕ) → beside (error_reply s) list ≡ []
unfolding error_reply
beside_error s list = beside_row s list errors

-- ---- error texts

abbrev pub reply_of : Option ErrorText → Result ReplyV2 Refusal
reply_of (Some e) = Ok (Error e)
reply_of None = Err Refusal.Syntax

first_found : (s : List ℕ) (es : List ErrorText)
    → reply_of (find (λ (e : ErrorText). same_text s (error_bytes e)) es) ≡ first (map (λ (e : ErrorText). same_text s (error_bytes e) ⇒ Ok (Error e)) es) (Err Refusal.Syntax)
unfolding pick
first_found s [] = refl
first_found s (e ∷ es) = go (same_text s (error_bytes e)) (first_found s es)
  where
    rest : Option ErrorText
    rest = find (λ (e : ErrorText). same_text s (error_bytes e)) es

    go : (b : Bool) {x : Result ReplyV2 Refusal} → reply_of rest ≡ x → reply_of (cond b (Some e) rest) ≡ pick b (Ok (Error e)) x
    go true h = refl
    go false h = h

-- the first text that it is tells the reply
pub error_found : (s : List ℕ) → reply_of (find (λ (e : ErrorText). same_text s (error_bytes e)) errors) ≡ error_reply s
unfolding error_reply
error_found s = first_found s errors

-- and what was found with it
pub error_read : (s : List ℕ) (found : Option ErrorText) → found ≡ find (λ (e : ErrorText). same_text s (error_bytes e)) errors → error_reply s ≡ reply_of found
error_read s found h = sym (error_found s) ∙ ap reply_of (sym h)

-- ---- what a reader answers

abbrev Answer : Type 0
Answer = WithSources (Result ReplyV2 Refusal)

pub refuses : (limits : ProfileLimits) (address : ℕ) (r : RequestV2) (s : List ℕ) (a : Answer) (k : Refusal) → Beside (Err k) [] a → Err k ≡ read_v2 limits address r s → ReadsV2 limits address r s a
unfolding read_list beside
refuses limits address r s a k b e = record { value_is = b.value_is ∙ e; list_is = rw (← e) b.list_is; count = b.count }

pub from_body : (limits : ProfileLimits) (address : ℕ) (r : RequestV2) (h : HeadV2) (s : List ℕ) (a : Answer) → BodyReads limits r h (data_from 8 s) a → body_reply limits r h (data_from 8 s) ≡ read_v2 limits address r s → ReadsV2 limits address r s a
unfolding read_list
from_body limits address r h s a b e = record { value_is = b.value_is ∙ e; list_is = rw (← e) b.list_is; count = b.count }

pub alone : (limits : ProfileLimits) (r : RequestV2) (h : HeadV2) (s : List ℕ) (a : Answer) (x : Result ReplyV2 Refusal) → Beside x [] a → x ≡ body_reply limits r h s → beside x (data_list limits r s) ≡ [] → BodyReads limits r h s a
alone limits r h s a x b e n = record { value_is = b.value_is ∙ e; list_is = rw (← e) (b.list_is ∙ sym n); count = b.count }

pub from_data : (limits : ProfileLimits) (r : RequestV2) (h : HeadV2) (s : List ℕ) (a : Answer) → DataReads limits r s a → data_reply limits r s ≡ body_reply limits r h s → BodyReads limits r h s a
from_data limits r h s a d e = record { value_is = d.value_is ∙ e; list_is = rw (← e) (d.list_is ∙ sym (beside_data limits r s)); count = d.count }
