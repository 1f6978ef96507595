-- Document 01, SM: "a read sends the text as accepted".
use mathlib.Core.Path.{◌≡◌, refl}
use mathlib.Core.Bool.{Bool, true, false, not, ◌&&◌, or-false}
use mathlib.Core.List.{List, [], ◌∷◌}
use Prim.Native.Nat.{ℕ, suc}
use native.Mathlib.Omega.{arith}
use borrow.Author.Tests.{eqb-true, leb-false, not-false}
use lib.Dec.{eqb, leb}
use lib.ListN.{length, drop}
use Rattle.std.specs.Prelude.{Err, Ok}
use Rattle.buffer.specs.First.{pick}
use Rattle.buffer.specs.Byte.{leading, starts_with}
use Rattle.sources.specs.Entries.{entries_number, entries_list}
use Rattle.settings.specs.Limits.{ProfileLimits}
use Rattle.settings.specs.Sent.{stream_text}
use Rattle.settings.specs.declared.Setting.TheVariants.{Stream}
use Rattle.forms.specs.Forms.{idle_list, known_mode, stream_of, stream_data}
use Rattle.forms_facts.proofs.Lemmas.Lists.{Fits, fits, entries_again}
use Rattle.forms_facts.specs.Theorems.{SentAsAccepted}
use Rattle.refusals.specs.declared.Refusal.{Refusal}

-- what an accepted stream went by
record Streams (s : List ℕ) (n : ℕ) (on : Bool) : Type 0 where
  some : eqb (leading s) 0 ≡ false
  formed : eqb n 10 ≡ false
  busy : idle_list s ≡ false
  mode : known_mode s ≡ true
  known : eqb n 11 ≡ false
  once : eqb n 12 ≡ false
  told : starts_with 52 s ≡ on

streams : (s : List ℕ) (n : ℕ) (on a b c d e f : Bool) → eqb (leading s) 0 ≡ a → eqb n 10 ≡ b → idle_list s ≡ c → not (known_mode s) ≡ d → eqb n 11 ≡ e → eqb n 12 ≡ f
    → pick a (Err Refusal.Syntax) (pick b (Err Refusal.Syntax) (pick c (Err Refusal.Syntax) (pick d (Err Refusal.Range) (pick e (Err Refusal.Range) (pick f (Err Refusal.Logic) (Ok (Stream (starts_with 52 s)))))))) ≡ Ok (Stream on)
    → Streams s n on
unfolding pick
streams s n on false false false false false false p q r t u v h = record { some = p; formed = q; busy = r; mode = not-false _ t; known = u; once = v; told = cc }
streams s n on true b c d e f p q r t u v h = absurd (cc)
streams s n on false true c d e f p q r t u v h = absurd (cc)
streams s n on false false true d e f p q r t u v h = absurd (cc)
streams s n on false false false true e f p q r t u v h = absurd (cc)
streams s n on false false false false true f p q r t u v h = absurd (cc)
streams s n on false false false false false true p q r t u v h = absurd (cc)

-- a text of one character
pub alone : (x : ℕ) (s : List ℕ) (b : Bool) → (b && leb 2 (suc (length s))) ≡ false → b ≡ true → s ≡ []
alone x [] b e h = refl
alone x (y ∷ s) b e h = absurd (let w = leb-false 2 (suc (suc (length s))) (rw h at e) in omega arith)

sent : (limits : ProfileLimits) (s : List ℕ) (on : Bool) → Streams s (entries_number limits.source_codes (drop 1 s)) on → stream_text on (entries_list limits.source_codes (drop 1 s)) ≡ s
unfolding leading starts_with idle_list known_mode stream_text
sent limits [] on w = absurd (cc w.some)
sent limits (x ∷ s) on w = go on w.told w.busy w.mode (fits limits.source_codes s w.formed w.known w.once)
  where
    go : (on : Bool) → starts_with 52 (x ∷ s) ≡ on → idle_list (x ∷ s) ≡ false → known_mode (x ∷ s) ≡ true → Fits limits.source_codes s → stream_text on (entries_list limits.source_codes s) ≡ x ∷ s
    go true e i m f = cc (eqb-true x 52 e, entries_again limits.source_codes s f)
    go false e i m f =
        let z : eqb x 48 ≡ true = rw (e, or-false) at m in
        cc (alone x s (eqb x 48) i z, eqb-true x 48 z)

-- "a read sends the text as accepted"
pub sent_as_accepted : SentAsAccepted
unfolding stream_data stream_of
sent_as_accepted limits s on e = sent limits s on (streams s (entries_number limits.source_codes (drop 1 s)) on _ _ _ _ _ _ refl refl refl refl refl refl e)
