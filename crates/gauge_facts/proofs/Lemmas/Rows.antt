-- The table's rows, read from the front: the number is 0 exactly if no row's test holds.
use mathlib.Core.Path.{◌≡◌, refl, sym, ◌∙◌}
use mathlib.Core.Bool.{Bool, true, false, not, ◌&&◌, true≢false, and-eq-true_iff}
use mathlib.Core.List.{[], ◌∷◌}
use Prim.Native.Nat.{ℕ}
use borrow.Author.Tests.{not-true}
use lib.Dec.{eqb, leb}
use Rattle.buffer.specs.First.{◌⇒◌, first, pick}

-- two tests, each of which holds if the other does
same_test : (a b : Bool) → (a ≡ true → b ≡ true) → (b ≡ true → a ≡ true) → a ≡ b
same_test true b f h = sym (f refl)
same_test false true f h = h refl
same_test false false f h = refl

-- past a row that gives a number other than 0
pub past_row : (t : Bool) (k n : ℕ) → eqb k 0 ≡ false → eqb (pick t k n) 0 ≡ true → (t ≡ false) × (eqb n 0 ≡ true)
unfolding pick
past_row true k n z e = absurd (true≢false (sym e ∙ z))
past_row false k n z e = (refl, e)

-- a test that fails, and then others
past_test : (t b : Bool) → (not t && b) ≡ true → (t ≡ false) × (b ≡ true)
past_test false b e = (refl, e)
past_test true b e = absurd (true≢false (sym e))

-- a row whose number is at most 13, and then others
pub under : (t : Bool) (k n : ℕ) → leb k 13 ≡ true → leb n 13 ≡ true → leb (pick t k n) 13 ≡ true
unfolding pick
under true k n h l = h
under false k n h l = l

module _ (room shape sum address other len code command lacks form lock range ends rule fault : Bool) where
  -- the table's numbers, in its order
  abbrev rows : ℕ
  rows =
      first
      (room ⇒ 1
      ∷ shape ⇒ 2
      ∷ sum ⇒ 3
      ∷ address ⇒ 4
      ∷ other ⇒ 5
      ∷ len ⇒ 6
      ∷ code ⇒ 7
      ∷ command ⇒ 8
      ∷ lacks ⇒ 9
      ∷ form ⇒ 10
      ∷ lock ⇒ 12
      ∷ range ⇒ 11
      ∷ ends ⇒ 12
      ∷ rule ⇒ 12
      ∷ fault ⇒ 13
      ∷ [])
      0

  -- the same tests, each failing, by what they are about
  abbrev fits : Bool
  fits =
      not room
      && ((not shape && not len)
      && (not sum
      && ((not address && not other)
      && (not command
      && ((not code && not lacks)
      && ((not form && (not range && not ends))
      && (not lock && (not rule && not fault))))))))

  to : eqb rows 0 ≡ true → fits ≡ true
  to e =
      let a = past_row room 1 _ refl e in
      let b = past_row shape 2 _ refl a.1 in
      let c = past_row sum 3 _ refl b.1 in
      let d = past_row address 4 _ refl c.1 in
      let f = past_row other 5 _ refl d.1 in
      let h = past_row len 6 _ refl f.1 in
      let i = past_row code 7 _ refl h.1 in
      let j = past_row command 8 _ refl i.1 in
      let k = past_row lacks 9 _ refl j.1 in
      let l = past_row form 10 _ refl k.1 in
      let m = past_row lock 12 _ refl l.1 in
      let n = past_row range 11 _ refl m.1 in
      let o = past_row ends 12 _ refl n.1 in
      let p = past_row rule 12 _ refl o.1 in
      let q = past_row fault 13 _ refl p.1 in
      rw (a.0, b.0, c.0, d.0, f.0, h.0, i.0, j.0, k.0, l.0, m.0, n.0, o.0, p.0, q.0)

  from : fits ≡ true → eqb rows 0 ≡ true
  unfolding pick
  from e =
      let a = past_test room _ e in
      let b = (and-eq-true_iff (not shape && not len) _).0 a.1 in
      let c = past_test sum _ b.1 in
      let d = (and-eq-true_iff (not address && not other) _).0 c.1 in
      let f = past_test command _ d.1 in
      let h = (and-eq-true_iff (not code && not lacks) _).0 f.1 in
      let i = (and-eq-true_iff (not form && (not range && not ends)) _).0 h.1 in
      let j = past_test shape _ b.0 in
      let k = past_test address _ d.0 in
      let l = past_test code _ h.0 in
      let m = past_test form _ i.0 in
      let n = past_test range _ m.1 in
      let o = past_test lock _ i.1 in
      let p = past_test rule _ o.1 in
      rw (a.0, j.0, c.0, k.0, not-true other k.1, not-true len j.1, l.0, f.0, not-true lacks l.1, m.0, o.0, n.0, not-true ends n.1, p.0, not-true fault p.1)

  pub rows_fit : eqb rows 0 ≡ fits
  rows_fit = same_test (eqb rows 0) fits to from
