-- How each reason of the check of retries is printed.
use Rattle.std.specs.Prelude.{ℕ, List, codes}
use Rattle.rb_replay.specs.declared.chain_reason.ChainReason.{ChainReason}
use Rattle.rb_replay.specs.declared.chain_reason.ChainReason.TheVariants.{BadFirst, TooMany, NoParent}
use Rattle.rb_replay.specs.declared.chain_reason.ChainReason.TheVariants.{Payload, Base, Expiry, Twice}

abbrev pub chain_reason_text : ChainReason → List ℕ
chain_reason_text BadFirst = codes "bad first"
chain_reason_text TooMany = codes "too many"
chain_reason_text NoParent = codes "no parent"
chain_reason_text Payload = codes "payload"
chain_reason_text Base = codes "base"
chain_reason_text Expiry = codes "expiry"
chain_reason_text Twice = codes "twice"
