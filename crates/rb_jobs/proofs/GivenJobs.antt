-- The desk gives no id twice, so a session holds none twice.
use Rattle.std.proofs.Common.{◌≡◌, ℕ, ◌<◌, ◌≤◌, List, [], ◌++◌, Option}
use Rattle.std.proofs.Common.{Ok, Err, sym, subst, arith, inl, inr, ◌⊎◌}
use Rattle.std.proofs.lemmas.Bool.{cases_lt}
use Rattle.rb_delayed.specs.declared.element.Element.{Element}
use Rattle.rb_queue.specs.Leaving.{times}
use Rattle.rb_queue.specs.Opening.{ids_of}
use Rattle.rb_queue.specs.declared.ask.Ask.{Ask}
use Rattle.rb_queue.specs.declared.reply.Reply.{Reply}
use Rattle.rb_retry.specs.Made.{Made, GivesOnce}
use Rattle.rb_retry.specs.Asked.{Makes, MayGet}
use Rattle.rb_retry.specs.DeskRules.{DeskRules}
use Rattle.rb_retry.specs.declared.desk_fault.DeskFault.{DeskFault}
use Rattle.rb_jobs.specs.HeldIds.{AreHeldOnce}
use Rattle.rb_session.specs.Held.{AreGiven, AreNew}
use Rattle.rb_session.specs.Session.{Turn, Serves}
use Rattle.rb_session.specs.Turn.{Point, fetched_by}
use Rattle.rb_session.proofs.DeskParts.{by_lines}
use Rattle.rb_session.proofs.GivenJobs.{times_held-append, none_given, times_removed, given_removed, call_new, call_given}
use Rattle.rb_session.proofs.GivenJobs.{set_given}

module _ {S : Type 0} (rules : DeskRules S) (mine : S → List Made)
    (makes : (old new : S) (asked : ℕ) (ask : Ask) (reply : Reply) → rules.Steps old asked ask (Ok reply) new
    → Makes (rules.gives old) asked ask reply (mine old) (mine new))
    (gives_once : (old new : S) (asked : ℕ) (ask : Ask) (reply : Reply) → rules.Steps old asked ask (Ok reply) new
    → GivesOnce (mine new))
    (refuses : (old new : S) (asked : ℕ) (ask : Ask) (fault : DeskFault) → rules.Steps old asked ask (Err fault) new
    → MayGet ask fault × (mine new ≡ mine old))
    (stays : (old new : S) (moment : ℕ) (result : Option ℕ) → rules.Sets old moment result new
    → mine new ≡ mine old) where
  -- what is held was given, and no id of it twice
  abbrev GivenOnce : S → List Element → Type 0
  GivenOnce desk held = AreGiven (mine desk) held × AreHeldOnce held

  once_more : (held more : List Element) → AreHeldOnce held → AreNew held more → AreHeldOnce (held ++ more)
  once_more held more once new id = of_more (cases_lt 0 (times id (ids_of more)))
    where
      of_more : (0 < times id (ids_of more)) ⊎ (times id (ids_of more) ≤ 0) → times id (ids_of (held ++ more)) ≤ 1
      of_more (inl some) = omega (arith, new id some, times_held-append id held more)
      of_more (inr none) = omega (arith, once id, none, times_held-append id held more)

  pub holds_once : (from to : Point S) (turns : List Turn) → from.held ≡ [] → Serves rules from turns to
      → AreHeldOnce to.held
  holds_once from to turns none serves = (by_lines rules GivenOnce
      (λ old new asked ask answer held steps both. (
        call_given rules.gives rules.Steps mine makes gives_once refuses old new asked ask answer held steps both.0,
        once_more held (fetched_by answer) both.1
            (call_new rules.gives rules.Steps mine makes gives_once refuses old new asked ask answer held steps both.0),
      ))
      (λ desk held place both. (
        given_removed (mine desk) held place both.0,
        λ id. omega
            (arith, both.1 id, times_removed id held place),
      ))
      (λ old new moment result held set both. (
        set_given rules mine makes gives_once refuses stays old new moment result held set both.0,
        both.1,
      )) from to turns serves (subst (λ (held : List Element). GivenOnce from.desk held) (sym none)
      (none_given (mine from.desk), λ id. omega arith))).1
