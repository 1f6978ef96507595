-- What inner functions promise; no public contract cites this file.
use Rattle.std.specs.Prelude.{◌≡◌, Bool, List, ℕ, drop, Err, Ok, Result}
use Rattle.sources.specs.Source.{list_of, Counted}
use Rattle.sources.specs.Entries.{entries_list}
use Rattle.sources.specs.declared.Sources.{Sources}
use Rattle.settings.specs.Limits.{ProfileLimits}
use Rattle.settings.specs.declared.Setting.TheVariants.{Stream}
use Rattle.forms.specs.Forms.{stream_data}
use Rattle.refusals.specs.declared.Refusal.{Refusal}

-- r is what a text of SM sets and the sources that it lists, or why it is refused
abbrev pub StreamRead : ProfileLimits → List ℕ → Result (Bool × Sources) Refusal → Type 0
StreamRead limits s (Ok (on, q)) = (stream_data limits s ≡ Ok (Stream on)) × (list_of q ≡ entries_list limits.source_codes (drop 1 s)) × Counted q
StreamRead limits s (Err k) = stream_data limits s ≡ Err k
