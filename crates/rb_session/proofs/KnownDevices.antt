-- Devices that tell their bytes.
use Rattle.std.proofs.Common.{List, ℕ, ◌++◌, None, Some, refl, ap, ◌∙◌, append-nil}
use Rattle.rb_session.specs.Exchange.{CameFirst, SentLast}

pub came_first : CameFirst
came_first stream came None gone = absurd gone
came_first stream came (Some rest) parts = (
  (rest, refl, parts),
  λ over. parts ∙ ap (λ (r : List ℕ). came ++ r) over
      ∙ append-nil came,
)

pub sent_last : SentLast
sent_last before sent None gone = absurd gone
sent_last before sent (Some text) parts = ap Some parts
