-- The stream line: whole values, and no longer than the longest.
use mathlib.Core.Path.{◌≡◌, refl, ap}
use mathlib.Core.Bool.{not}
use mathlib.Core.List.{List, [], ◌∷◌, map}
use Prim.Native.Nat.{ℕ, ◌<◌, ◌≤◌}
use native.Mathlib.Omega.{arith}
use borrow.Author.Tests.{ltb-true, ltb-false}
use lib.Dec.{ltb}
use lib.ListN.{length}
use Rattle.buffer.specs.First.{pick}
use Rattle.buffer.specs.Answer.{Answer}
use Rattle.buffer.proofs.Rules.{each}
use Rattle.settings.specs.Limits.{longest_line}
use Rattle.forms_facts.specs.Codes.{GoodList}
use Rattle.forms_facts.proofs.Lemmas.Lists.{good_listable}
use Rattle.readings.specs.Reading.{value_text}
use Rattle.readings_facts.proofs.Widths.{whole_value}
use Rattle.line.specs.Line.{line_value, shown_list, values_of, line_answer}
use Rattle.line.proofs.Laws.{no_longer, no_room}
use Rattle.gauge_facts.specs.Theorems.{LineWhole, LineFits, LineRoomExactly, LineWithinLent}

-- a good list is shown
pub shown_whole : (codes list : List ℕ) → GoodList codes list → shown_list codes list ≡ list
unfolding shown_list pick
shown_whole codes list f = rw (good_listable codes list f)

-- readings within the bench's limits are shown whole: source 0 is never negative, and no other value is wider than its source's width
pub line_whole : LineWhole
unfolding values_of line_value
line_whole codes list r h f = rw (shown_whole codes list h) (go (0 ∷ list))
  where
    go : (cs : List ℕ) → map (line_value r) cs ≡ map (λ (code : ℕ). value_text code r) cs
    go [] = refl
    go (c ∷ cs) = rw (whole_value r f c, go cs)

-- no line is longer than the longest, in any state
pub line_fits : LineFits
unfolding line_answer
line_fits limits ok room h r =
    each Fits _ _ _ (λ _. omega arith) (λ _. each Fits _ _ _ (λ _. omega arith) (λ _. no_longer limits.source_codes h.list r ok.first))
  where
    Fits : Answer → Type 0
    Fits a = length a.reply ≤ longest_line limits.source_codes

-- 1 exactly where less than that is lent
pub line_room_exactly : LineRoomExactly
unfolding line_answer
line_room_exactly limits room h r = (
  each Room (ltb room (longest_line limits.source_codes)) _ _ (λ e _. ltb-true room (longest_line limits.source_codes) e)
      (λ _. each Room (not h.streaming) _ _ (λ _ n. absurd (omega arith)) (λ _ n. absurd (omega arith))),
  λ k. ap (λ (a : Answer). a.number) (no_room limits room h r k),
)
  where
    Room : Answer → Type 0
    Room a = a.number ≡ 1 → room < longest_line limits.source_codes

-- and it lies within the memory lent
pub line_within_lent : LineWithinLent
unfolding line_answer
line_within_lent limits ok room h r =
    each Fits _ _ _ (λ _. omega arith)
    (λ e. each Fits _ _ _ (λ _. omega arith) (λ _. omega (arith, no_longer limits.source_codes h.list r ok.first, ltb-false room (longest_line limits.source_codes) e)))
  where
    Fits : Answer → Type 0
    Fits a = length a.reply ≤ room
