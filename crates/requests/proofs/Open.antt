-- To compute with these definitions: `unfolding requests_open` opens every one of this crate, and those that they stand on.
use Rattle.frames.proofs.Open.{frames_open}
use Rattle.forms.proofs.Open.{forms_open}
use Rattle.requests.specs.AskV1.{six_digits, bare_of, digit_one, one_of, unit_at, ask_v1}
use Rattle.requests.specs.AskV2.{set_of, write_of, ask_known, ask_named, ask_v2, write_list, named_list, ask_list}
use Rattle.requests.specs.Command.{command_text, find_command, command_of, is_access, can_write, can_restore, lacks_access}

unfoldable pub requests_open : Unit {0}
unfolding frames_open forms_open six_digits bare_of digit_one one_of unit_at ask_v1 set_of write_of ask_known ask_named ask_v2 write_list named_list ask_list command_text find_command command_of is_access can_write can_restore lacks_access
requests_open = tt
