-- To compute with these definitions: `unfolding sources_open` opens every one of this crate, and those that they stand on.
use Rattle.buffer.proofs.Open.{buffer_open}
use Rattle.sources.specs.Entries.{onto, parts, source_texts, entries_of, opens, entries_number, entries_list}
use Rattle.sources.specs.Source.{among, all_differ, listable, total, source_text, is_source, find_source, source_of, list_of, Counted, list_text}

unfoldable pub sources_open : Unit {0}
unfolding buffer_open onto parts source_texts entries_of opens entries_number entries_list among all_differ listable total source_text is_source find_source source_of list_of Counted list_text
sources_open = tt
