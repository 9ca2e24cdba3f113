-- Which jobs a session's lines were handed out and ended, as their replies tell.
use Rattle.std.specs.Prelude.{ℕ, ◌<◌, ◌≤◌, List, [], ◌∷◌, ◌++◌, filter, nat_le}
use Rattle.rb_delayed.specs.declared.element.Element.{Element}
use Rattle.rb_retry.specs.declared.policy.Policy.{Policy}
use Rattle.rb_protocol.specs.declared.line_reply.LineReply.{LineReply}
use Rattle.rb_protocol.specs.declared.line_reply.LineReply.TheVariants as lines
use Rattle.rb_session.specs.Session.{Turn}

-- the ids of elements that are done, and of those that are dead, by these replies
abbrev pub done_by : List LineReply → List ℕ
done_by [] = []
done_by (lines.Done id ∷ replies) = id ∷ done_by replies
done_by (_ ∷ replies) = done_by replies

abbrev pub dead_by : List LineReply → List ℕ
dead_by [] = []
dead_by (lines.Dead id ∷ replies) = id ∷ dead_by replies
dead_by (_ ∷ replies) = dead_by replies

-- the elements that these replies hand out
abbrev pub handed_by : List LineReply → List Element
handed_by [] = []
handed_by (lines.Item element ∷ replies) = element ∷ handed_by replies
handed_by (_ ∷ replies) = handed_by replies

-- the elements that these lines were handed out
abbrev pub handed_out : List Turn → List Element
handed_out [] = []
handed_out (turn ∷ turns) = handed_by turn.replies ++ handed_out turns

-- all of these elements have had the policy's last attempt
abbrev pub AreSpent : Policy → List Element → Type 0
AreSpent policy [] = Unit {0}
AreSpent policy (element ∷ elements) = (policy.attempts ≤ element.attempt) × AreSpent policy elements

-- none of them has
abbrev pub AreUnspent : Policy → List Element → Type 0
AreUnspent policy [] = Unit {0}
AreUnspent policy (element ∷ elements) = (element.attempt < policy.attempts) × AreUnspent policy elements

-- those of these elements that have had it
abbrev pub spent_of : Policy → List Element → List Element
spent_of policy elements = filter (λ element. nat_le policy.attempts element.attempt) elements
