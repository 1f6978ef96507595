-- A value with a list of sources beside it.
use Rattle.std.specs.Prelude.{◌≡◌, List, ℕ}
use Rattle.sources.specs.Source.{list_of, Counted}
use Rattle.sources.specs.declared.WithSources.{WithSources}

-- r is this value with this list
pub record Beside {A : Type 0} (value : A) (list : List ℕ) (r : WithSources A) : Type 0 where
  pub value_is : r.value ≡ value
  pub list_is : list_of r.sources ≡ list
  pub count : Counted r.sources
