-- To compute with these definitions: `unfolding gauge_rules_v1_open` opens every one of this crate, and those that they stand on.
use Rattle.request_texts.proofs.Open.{request_texts_open}
use Rattle.gauge_rules.proofs.Open.{gauge_rules_open}
use Rattle.gauge_rules_v1.specs.RulesV1.{factor_number, grant_v1, text_v1, repeats, unlocks, enter_v1, settings_v1}

unfoldable pub gauge_rules_v1_open : Unit {0}
unfolding request_texts_open gauge_rules_open factor_number grant_v1 text_v1 repeats unlocks enter_v1 settings_v1
gauge_rules_v1_open = tt
