-- To compute with these definitions: `unfolding forms_open` opens every one of this crate, and those that they stand on.
use Rattle.settings.proofs.Open.{settings_open}
use Rattle.forms.specs.Forms.{address_data, unit_data, factor_in, factor_of, digit_data, digit_of, limited_of, direct_of, earlier, between_of, ends_of, transition_of, transition_data, idle_list, known_mode, stream_of, stream_data}
use Rattle.forms.specs.Told.{by_name, direct_by, between_by, transition_by, numbered_between, numbered_transition}
use Rattle.forms.specs.Judged.{verdict_of, if_set, list_in}

unfoldable pub forms_open : Unit {0}
unfolding settings_open address_data unit_data factor_in factor_of digit_data digit_of limited_of direct_of earlier between_of ends_of transition_of transition_data idle_list known_mode stream_of stream_data by_name direct_by between_by transition_by numbered_between numbered_transition verdict_of if_set list_in
forms_open = tt
