-- What the C boundary promises of a play; what it promises of requests stands in `rewriter`.
use Rattle.std.specs.Prelude.{List, [], ◌∷◌, ℕ, ◌≡◌, eqb, MatchOption, None, Option, Some}
use Rattle.buffer.specs.First.{◌⇒◌, first}
use Rattle.sources.specs.declared.Profile.{Profile}
use Rattle.sources.specs.declared.Profile.TheVariants.{Standard, Vsh, Vsm}
use Rattle.player.specs.Played.{Ran}
use Rattle.player.specs.declared.Gauges.{Gauges}

-- a play that answers its count alone: there are gauges that it left
pub record RanTo (profile : Profile) (script memory numbers lens : List ℕ) (calls : ℕ) (memory' numbers' lens' : List ℕ) : Type 0 where
  pub gauges : Gauges
  pub ran : Ran profile script memory numbers lens gauges calls memory' numbers' lens'

-- the profile that a number names, if it names one: 0 is the third, 1 VSH, 2 VSM
unfoldable pub profile_at : ℕ → Option Profile
profile_at n = first (eqb n 0 ⇒ Some Standard ∷ eqb n 1 ⇒ Some Vsh ∷ eqb n 2 ⇒ Some Vsm ∷ []) None

-- a play on the profile that n names; where n names none, no call is made and nothing is written
abbrev pub PlayedOn : (n : ℕ) (script memory numbers lens : List ℕ) (calls : ℕ) (memory' numbers' lens' : List ℕ) → Type 0
PlayedOn n script memory numbers lens calls memory' numbers' lens' =
    MatchOption (profile_at n)
    ((calls ≡ 0) × (memory' ≡ memory) × (numbers' ≡ numbers) × (lens' ≡ lens))
    (λ profile. RanTo profile script memory numbers lens calls memory' numbers' lens')
