-- Document 01, "V1 on the same settings": how typed requests are decided and entered.
pub mod RulesV1
