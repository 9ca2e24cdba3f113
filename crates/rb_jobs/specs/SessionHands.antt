-- What a session holds of the jobs that it is given.
use Rattle.std.specs.Prelude.{◌≡◌, ℕ, List, [], ◌++◌, Option}
use Rattle.std.specs.Io.KnownBytes.{IsAtEnd}
use Rattle.rb_delayed.specs.declared.element.Element.{Element}
use Rattle.rb_retry.specs.DeskRules.{desk_rules}
use Rattle.rb_retry.specs.Made.{Made}
use Rattle.rb_retry.specs.declared.desk.Desk as Desk
use Rattle.rb_retry.specs.declared.policy.Policy.{Policy}
use Rattle.rb_session.specs.Closing.{Closes}
use Rattle.rb_session.specs.Ran.{Ran}
use Rattle.rb_session.specs.Rules.{session_rules, HadGotBehind}
use Rattle.rb_session.specs.Served.{Served}
use Rattle.rb_session.specs.Session.{Turn, Serves}
use Rattle.rb_session.specs.Turn.{Point, point}
use Rattle.rb_session.specs.declared.delivery.Delivery.{Delivery}
use Rattle.rb_jobs.specs.Hands.{HandlesAll}

-- From one point to another the desk made these events, and what was held before them became what is held behind them.
abbrev pub LeadsOn : {S : Type 0} → Policy → (S → List Made) → Point S → Point S → Type 0
LeadsOn policy mine from to =
    (made : List Made) × (mine to.desk ≡ mine from.desk ++ made) × HandlesAll policy from.held made to.held

module _ {D V : Type 0} (words : Desk.Ghosts D V) where
  -- the law of lines that are served
  abbrev pub HandlesLines : Type 0
  HandlesLines =
      (policy : Policy) (from to : Point words.State) (turns : List Turn)
      → Serves (desk_rules words policy) from turns to → LeadsOn policy words.mine from to

  -- the law of jobs that are held at the end
  abbrev pub HandlesClosing : Type 0
  HandlesClosing =
      (policy : Policy) (from to : words.State) (held : List Element) (lost : ℕ)
      → Closes (desk_rules words policy) from held lost to → LeadsOn policy words.mine (point from held) (point to [])

  -- the law of whole sessions, which begin with nothing held
  abbrev pub HandlesRun : {W : Type 0} → (W → Option (List ℕ)) → Type 0
  HandlesRun contents =
      (policy : Policy) (got : Option (List ℕ)) (delivery : Delivery) (rest : Option (List ℕ))
      (from to : words.State) (served : Served)
      → Ran (session_rules (desk_rules words policy) delivery (HadGotBehind contents got)) (IsAtEnd rest) from served to
      → LeadsOn policy words.mine (point from []) (point to [])
