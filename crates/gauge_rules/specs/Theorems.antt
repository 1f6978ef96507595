-- What is proved here besides the contracts, each statement as a type; proofs/ has the proofs.
use Rattle.std.specs.Prelude.{◌≡◌, [], ◌∷◌, map, ℕ}
use Rattle.gauge_rules.specs.RulesV2.{filament_of}

-- "FN is FC when FC is 1 or 2; otherwise 2 if FS is 1 or 3, else 1.", for each FC and FS that there is: a line for each FC, 0 to 3, with FN at FS
-- 0 to 3
abbrev pub FilamentTable : Type 0
FilamentTable = map (λ (filament : ℕ). map (filament_of filament) (0 ∷ 1 ∷ 2 ∷ 3 ∷ [])) (0 ∷ 1 ∷ 2 ∷ 3 ∷ [])
    ≡ (1 ∷ 2 ∷ 1 ∷ 2 ∷ [])
    ∷ (1 ∷ 1 ∷ 1 ∷ 1 ∷ [])
    ∷ (2 ∷ 2 ∷ 2 ∷ 2 ∷ [])
    ∷ (1 ∷ 2 ∷ 1 ∷ 2 ∷ [])
    ∷ []
