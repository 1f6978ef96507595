-- To compute with these definitions: `unfolding replies_v2_open` opens every one of this crate, and those that they stand on.
use Rattle.request_texts.proofs.Open.{request_texts_open}
use Rattle.replies_v2_values.proofs.Open.{replies_v2_values_open}
use Rattle.replies_v2.specs.ReplyV2.{not_v2, other_access, other_command, mismatched, error_reply, done_reply, data_reply, body_reply, read_v2, beside, data_list, read_list, read_shown_v2}

unfoldable pub replies_v2_open : Unit {0}
unfolding request_texts_open replies_v2_values_open not_v2 other_access other_command mismatched error_reply done_reply data_reply body_reply read_v2 beside data_list read_list read_shown_v2
replies_v2_open = tt
