-- An offer is one call, which fetches nothing; one past the greatest moment makes no call. Nor do the calls that only ask.
use Rattle.std.proofs.Common.{◌≡◌, ℕ, ◌+◌, ◌++◌, List, Bool, Result, Ok, Err, true, false, refl, sym, ap, ◌∙◌}
use Rattle.std.proofs.lemmas.List.{append-nil}
use Rattle.std.specs.Prelude.{MatchBool, nat_le}
use Rattle.rb_delayed.specs.declared.element.Element.{Element}
use Rattle.rb_delayed.specs.declared.moment.TheConstants.{GREATEST_MOMENT}
use Rattle.rb_queue.specs.declared.ask.Ask.{Ask}
use Rattle.rb_queue.specs.declared.ask.Ask.TheVariants.{Offer, Peek, Remove, Clear, Size}
use Rattle.rb_queue.specs.declared.draft.Draft.{Draft}
use Rattle.rb_queue.specs.declared.reply.Reply.{Reply}
use Rattle.rb_queue.specs.declared.reply.Reply.TheVariants as replies
use Rattle.rb_kept.specs.declared.fault.CallFault.{CallFault}
use Rattle.rb_kept.specs.declared.fault.CallFault.TheVariants.{Full, Memory}
use Rattle.rb_protocol.specs.declared.line_reply.LineReply.{LineReply}
use Rattle.rb_retry.specs.Asked.{offer_answer, IsReplyTo, Makes}
use Rattle.rb_retry.specs.Made.{Made}
use Rattle.rb_retry.specs.declared.desk_fault.DeskFault.{DeskFault}
use Rattle.rb_retry.specs.declared.desk_fault.DeskFault.TheVariants as faults
use Rattle.rb_session.specs.Turn.{point, IsCall, IsFirstDraft, fetched_by, lines_for}
use Rattle.rb_session.specs.Progress.{OffersAt, answer_line, replies_of}
use Rattle.rb_session.proofs.answer.answer_at_once.Goals as goal

one_line : (offered : Result Element CallFault) (held : List Element)
    → replies_of (answer_line (offer_answer offered)) held ≡ lines_for (offer_answer offered)
one_line (Ok element) held = refl
one_line (Err Full) held = refl
one_line (Err Memory) held = refl

none_fetched : (offered : Result Element CallFault) (held : List Element)
    → held ≡ held ++ fetched_by (offer_answer offered)
none_fetched (Ok element) held = sym (append-nil held)
none_fetched (Err fault) held = sym (append-nil held)

-- an offer is such a call
call_of : {S : Type 0} (Steps : S → ℕ → Ask → Result Reply DeskFault → S → Type 0) (old new : S) (now expires : ℕ)
    (bytes : List ℕ) (held : List Element) (line : LineReply) → OffersAt Steps old now expires bytes line new
    → (draft : Draft) × IsFirstDraft draft expires bytes
    × IsCall Steps (point old held) now (Offer draft) (replies_of line held) (point new held)
call_of Steps old new now expires bytes held line offers = (
  offers.draft,
  offers.is_first,
  (
    offer_answer offers.offered,
    offers.steps,
    ap (λ l. replies_of l held) offers.line ∙ one_line offers.offered held,
    none_fetched offers.offered held,
  ),
)

-- what holds in each of the two cases
both_cases : (test : Bool) (One Other One' Other' : Type 0) → (One → One') → (Other → Other') → MatchBool test One Other
    → MatchBool test One' Other'
both_cases true One Other One' Other' first second holds = first holds
both_cases false One Other One' Other' first second holds = second holds

-- the ask is one that hands nothing out
abbrev FetchesNone : Ask → Type 0
FetchesNone Peek = Unit {0}
FetchesNone (Remove id) = Unit {0}
FetchesNone Clear = Unit {0}
FetchesNone Size = Unit {0}
FetchesNone _ = ⊥

no_item : (ask : Ask) (element : Element) → FetchesNone ask → IsReplyTo ask (replies.Item element) → ⊥
no_item Peek element none may = may
no_item (Remove id) element none may = may
no_item Clear element none may = may
no_item Size element none may = may
no_item ask element none may = none

no_drain : (ask : Ask) (items : List Element) → FetchesNone ask → IsReplyTo ask (replies.Drained items) → ⊥
no_drain Peek items none may = may
no_drain (Remove id) items none may = may
no_drain Clear items none may = may
no_drain Size items none may = may
no_drain ask items none may = none

-- so its reply has one line
abbrev IsAlone : Result Reply DeskFault → List Element → Type 0
IsAlone answer held =
    (replies_of (answer_line answer) held ≡ lines_for answer) × (held ≡ held ++ fetched_by answer)

alone : (ask : Ask) (reply : Reply) (held : List Element) → FetchesNone ask → IsReplyTo ask reply → IsAlone (Ok reply) held
alone ask (replies.Offered element) held none may = (refl, sym (append-nil held))
alone ask (replies.Item element) held none may = absurd (no_item ask element none may)
alone ask replies.Nothing held none may = (refl, sym (append-nil held))
alone ask (replies.Head element) held none may = (refl, sym (append-nil held))
alone ask (replies.Removed found) held none may = (refl, sym (append-nil held))
alone ask (replies.Drained items) held none may = absurd (no_drain ask items none may)
alone ask replies.Cleared held none may = (refl, sym (append-nil held))
alone ask (replies.Size count) held none may = (refl, sym (append-nil held))

fault_alone : (fault : DeskFault) (held : List Element) → IsAlone (Err fault) held
fault_alone faults.Full held = (refl, sym (append-nil held))
fault_alone faults.Memory held = (refl, sym (append-nil held))
fault_alone faults.Stopped held = (refl, sym (append-nil held))

-- and the call leaves what is held
module _ {S : Type 0} (gives : S → ℕ → Type 0) (Steps : S → ℕ → Ask → Result Reply DeskFault → S → Type 0)
    (mine : S → List Made)
    (makes : (old new : S) (asked : ℕ) (ask : Ask) (reply : Reply) → Steps old asked ask (Ok reply) new
    → Makes (gives old) asked ask reply (mine old) (mine new)) where
  asks : (old new : S) (now : ℕ) (ask : Ask) (held : List Element) (line : LineReply) → FetchesNone ask
      → (answer : Result Reply DeskFault) × Steps old now ask answer new × (line ≡ answer_line answer)
      → IsCall Steps (point old held) now ask (replies_of line held) (point new held)
  asks old new now ask held line none (Ok reply, steps, is) =
      let made = makes old new now ask reply steps in
      let one = alone ask reply held none made.answered in
      (Ok reply, steps, ap (λ l. replies_of l held) is ∙ one.0, one.1)
  asks old new now ask held line none (Err fault, steps, is) =
      let one = fault_alone fault held in
      (Err fault, steps, ap (λ l. replies_of l held) is ∙ one.0, one.1)

pub returns-in-Offer : goal.returns-in-Offer
returns-in-Offer g c =
    let now = c.now-now.result in
    rw (c.in-Ok.is ∙ ap Ok c.in-Offer.is) (
      now,
      c.now-now.ensures,
      both_cases (nat_le (now + c.in-Offer.delay) GREATEST_MOMENT) _ _ _ _
          (call_of g.D.Desk.Steps (g.D.Desk.state c.args.desk.now) (g.D.Desk.state c.offer.new.desk) now
          (now + c.in-Offer.delay) c.in-Offer.payload c.args.held.now c.offer.result)
          (λ refused. (
            ap (λ line. replies_of line c.args.held.now) refused.0,
            ap (λ desk. point desk c.args.held.now) refused.1,
          ))
          c.offer.ensures,
    )

pub returns-in-OfferAt : goal.returns-in-OfferAt
returns-in-OfferAt g c =
    let now = c.now-now.result in
    rw (c.in-Ok.is ∙ ap Ok c.in-OfferAt.is) (
      now,
      c.now-now.ensures,
      call_of g.D.Desk.Steps (g.D.Desk.state c.args.desk.now) (g.D.Desk.state c.offer_at.new.desk) now
          c.in-OfferAt.expiry c.in-OfferAt.payload c.args.held.now c.offer_at.result c.offer_at.ensures,
    )

pub returns-in-Peek : goal.returns-in-Peek
returns-in-Peek g c =
    rw (c.in-Ok.is ∙ ap Ok c.in-Peek.is) (
      c.now-now.result,
      c.now-now.ensures,
      asks g.D.Desk.gives g.D.Desk.Steps g.D.Desk.mine g.met.D.Desk.makes (g.D.Desk.state c.args.desk.now)
          (g.D.Desk.state c.call.new.desk) c.now-now.result Peek c.args.held.now c.call.result tt c.call.ensures,
    )

pub returns-in-Remove : goal.returns-in-Remove
returns-in-Remove g c =
    rw (c.in-Ok.is ∙ ap Ok c.in-Remove.is) (
      c.now-now.result,
      c.now-now.ensures,
      asks g.D.Desk.gives g.D.Desk.Steps g.D.Desk.mine g.met.D.Desk.makes (g.D.Desk.state c.args.desk.now)
          (g.D.Desk.state c.call-in-Remove.new.desk) c.now-now.result (Remove c.in-Remove.id) c.args.held.now
          c.call-in-Remove.result tt c.call-in-Remove.ensures,
    )

pub returns-in-Clear : goal.returns-in-Clear
returns-in-Clear g c =
    rw (c.in-Ok.is ∙ ap Ok c.in-Clear.is) (
      c.now-now.result,
      c.now-now.ensures,
      asks g.D.Desk.gives g.D.Desk.Steps g.D.Desk.mine g.met.D.Desk.makes (g.D.Desk.state c.args.desk.now)
          (g.D.Desk.state c.call-in-Clear.new.desk) c.now-now.result Clear c.args.held.now
          c.call-in-Clear.result tt c.call-in-Clear.ensures,
    )

pub returns-in-Size : goal.returns-in-Size
returns-in-Size g c =
    rw (c.in-Ok.is ∙ ap Ok c.in-Size.is) (
      c.now-now.result,
      c.now-now.ensures,
      asks g.D.Desk.gives g.D.Desk.Steps g.D.Desk.mine g.met.D.Desk.makes (g.D.Desk.state c.args.desk.now)
          (g.D.Desk.state c.call-in-Size.new.desk) c.now-now.result Size c.args.held.now
          c.call-in-Size.result tt c.call-in-Size.ensures,
    )
