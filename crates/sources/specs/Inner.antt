-- What inner functions promise; no public contract cites this file.
use Rattle.std.specs.Prelude.{◌≡◌, true, false, List, map, ℕ, take, Err, Ok, Result}
use Rattle.buffer.specs.Byte.{every}
use Rattle.sources.specs.Source.{capacity, list_of, Counted}
use Rattle.sources.specs.Entries.{is_formed, is_known, code_of}
use Rattle.sources.specs.declared.Sources.{Sources}
use Rattle.sources.specs.declared.SourceError.{SourceError}

-- q is the list of these entries, all of which are known
pub record Kept (es : List (Result ℕ SourceError)) (q : Sources) : Type 0 where
  pub formed : every is_formed es ≡ true
  pub known : every is_known es ≡ true
  pub list : list_of q ≡ take capacity (map code_of es)
  pub counted : Counted q

-- r is the list of these entries, or the worst of their errors
abbrev pub Ran : List (Result ℕ SourceError) → Result Sources SourceError → Type 0
Ran es (Ok q) = Kept es q
Ran es (Err SourceError.Unknown) = (every is_formed es ≡ true) × (every is_known es ≡ false)
Ran es (Err SourceError.Malformed) = every is_formed es ≡ false
