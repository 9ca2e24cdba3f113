-- The session of a visit, which was run at a new desk over the pass.
use Rattle.std.proofs.Common.{◌≡◌, ◌≢◌, ◌∙◌, sym, ap, subst, ℕ, length, refl, List, Result, Err}
use Rattle.std.specs.Io.KnownBytes.{Appends, Consumes, IsAtEnd}
use Rattle.rb_protocol.specs.Writes.{WritesOn}
use Rattle.rb_protocol.specs.declared.streams.limited_reader.LimitedReader.{LimitedReader}
use Rattle.rb_protocol.specs.declared.streams.limited_writer.LimitedWriter.{LimitedWriter}
use Rattle.rb_protocol.specs.declared.streams.reader_state.ReaderState.{ReaderState}
use Rattle.rb_protocol.specs.declared.streams.reader_state.ReaderState.TheVariants.{Open}
use Rattle.rb_protocol.specs.declared.streams.writer_state.WriterState.{WriterState}
use Rattle.rb_protocol.specs.declared.streams.writer_state.WriterState.TheVariants.{Open as WriterOpen}
use Rattle.rb_protocol.specs.declared.streams.writer_status.WriterStatus.{WriterStatus}
use Rattle.rb_lock.specs.Passes.{PassState}
use Rattle.rb_shared_desk.specs.SharedSteps.{SharedState}
use Rattle.rb_session.specs.Exchange.{Exchanges}
use Rattle.rb_session.specs.Ran.{Ran}
use Rattle.rb_session.specs.Reasons.{IsReason, IsWriteReason}
use Rattle.rb_session.specs.Served.{Served}
use Rattle.rb_session.specs.declared.ended.Ended.{Ended}
use Rattle.rb_session.specs.declared.delivery.Delivery.{Delivery}
use Rattle.rb_session.specs.declared.session_fault.SessionFault.{SessionFault}
use Rattle.rb_session.specs.declared.session_fault.SessionFault.TheVariants.{Memory}
use Rattle.rb_session.specs.Rules.{session_rules, HadGotBehind}
use Rattle.rb_serving.specs.DoorSteps.{DoorStep, Sees, Left}
use Rattle.rb_serving.specs.Terms.{Terms}
use Rattle.rb_serving.specs.Visits.{IsDeskOf, LeftVisit, RanVisit, shared_rules, visit_rules, visit_waits}
use Rattle.rb_serving.specs.declared.visit.Visit.{Visit}

-- a new desk of the pass
pub is_desk : {C G : Type 0} (clock : C) (gate : G) (reference : ℕ) (pass : PassState) (desk : SharedState C G)
    → desk ≡ record { reference = reference; pass = pass; clock = clock; gate = gate; before = length pass.mine }
    → IsDeskOf clock gate pass desk
is_desk {C} {G} clock gate reference pass desk is = record {
  pass_is = ap (λ (desk : SharedState C G). desk.pass) is;
  clock_is = ap (λ (desk : SharedState C G). desk.clock) is;
  gate_is = ap (λ (desk : SharedState C G). desk.gate) is;
  before = ap (λ (desk : SharedState C G). desk.before) is;
}

same_first : {O : Type 0} (one other : WriterStatus O) → one.first ≡ other.first → one.first.value ≡ other.first.value
same_first one other same i = (same i).value

-- What is lent to a session that writes to a writer is the status of what became of this writer.
module _ {O : Type 0} (begun ended : LimitedWriter O) (made status : WriterStatus O) (first last : O)
    (on : WritesOn begun ended) (lends : begun.status.now ≡ made) (writes : begun.inner.now ≡ first)
    (status_is : ended.status.now ≡ status) (last_is : ended.inner.now ≡ last) where
  of_first : made.first.value ≡ first → status.first.value ≡ first
  of_first is =
      ap (λ (s : WriterStatus O). s.first.value) (sym status_is) ∙ same_first ended.status.now begun.status.now on.first
      ∙ ap (λ (s : WriterStatus O). s.first.value) lends ∙ is

  of_last : made.last.value ≡ first → status.last.value ≡ last
  of_last is =
      ap (λ (s : WriterStatus O). s.last.value) (sym status_is)
      ∙ on.last (ap (λ (s : WriterStatus O). s.last.value) lends ∙ is ∙ sym writes) ∙ last_is

  tells : (result : Result Ended SessionFault) → made.state ≡ WriterOpen
      → IsWriteReason begun.status.now.state ended.status.now result → IsWriteReason WriterOpen status result
  tells result unfailed reason =
      subst (λ (state : WriterState). IsWriteReason state status result)
      (ap (λ (s : WriterStatus O). s.state) lends ∙ unfailed)
      (subst (λ (s : WriterStatus O). IsWriteReason begun.status.now.state s result) status_is reason)

module _ {I O G C : Type 0} (terms : Terms I O G C) (visit : Visit I O G) (old new : PassState) (reader : LimitedReader I)
    (status : WriterStatus O) (writer : O) (ended : Result Ended SessionFault) where
  -- what was served to the visit, whose session ended so
  abbrev pub HasRan : Type 0
  HasRan = (served : Served) × (served.ended ≡ ended) × RanVisit terms visit reader status writer old served new

  -- The session read the visit's reader, which nobody had read yet, and wrote to its writer, to which `made` is the status
  -- before and `status` after. It was run at a desk of the pass, in memory for replies that are delivered by the terms.
  pub has_ran : (unread : LimitedReader I) (begun left : LimitedWriter O) (made : WriterStatus O) (from to : SharedState C G)
      (delivery : Delivery) → delivery ≡ terms.delivery → ended ≢ Err Memory → old.table ≡ terms.table → unread.inner.now ≡ visit.reader → unread.state ≡ Open → begun.inner.now ≡ visit.writer
      → begun.status.now ≡ made → made.state ≡ WriterOpen → made.first.value ≡ visit.writer → made.last.value ≡ visit.writer
      → WritesOn begun left → left.inner.now ≡ writer → left.status.now ≡ status
      → IsDeskOf terms.clock visit.gate old from
      → Exchanges (terms.remaining unread.inner.now) (terms.remaining reader.inner.now)
      (terms.contents begun.inner.now) (terms.contents left.inner.now)
      (λ came sent. Ran (session_rules (shared_rules (visit_waits terms) terms.policy) delivery
      (HadGotBehind terms.contents (terms.contents begun.inner.now))) (IsAtEnd (terms.remaining reader.inner.now)) from
      (record { came = came; sent = sent; ended = ended }) to)
      → IsReason unread.state reader ended → IsWriteReason begun.status.now.state left.status.now ended
      → to.pass ≡ new → HasRan
  has_ran unread begun left made from to delivery delivers had_memory table reads is_unread writes lends is_open first last on
      writer_is status_is desk ran reason write_reason seen =
      let as_told = subst (λ (delivery : Delivery). Exchanges (terms.remaining unread.inner.now) (terms.remaining reader.inner.now)
      (terms.contents begun.inner.now) (terms.contents left.inner.now)
      (λ came sent. Ran (session_rules (shared_rules (visit_waits terms) terms.policy) delivery
      (HadGotBehind terms.contents (terms.contents begun.inner.now))) (IsAtEnd (terms.remaining reader.inner.now)) from
      (record { came = came; sent = sent; ended = ended }) to)) delivers ran in
      let behind = subst (λ (first : O). Exchanges (terms.remaining unread.inner.now) (terms.remaining reader.inner.now)
      (terms.contents first) (terms.contents left.inner.now)
      (λ came sent. Ran (visit_rules terms first) (IsAtEnd (terms.remaining reader.inner.now)) from
      (record { came = came; sent = sent; ended = ended }) to)) writes as_told in (
        record { came = behind.came; sent = behind.sent; ended = ended },
        refl,
        record {
          table = table;
          consumed = subst (λ (first : I). Consumes (terms.remaining first) (terms.remaining reader.inner.now) behind.came)
              reads behind.consumed;
          appended = subst (λ (last : O). Appends (terms.contents visit.writer) (terms.contents last) behind.sent) writer_is
              behind.appended;
          from = from;
          begun = desk;
          to = to;
          ran = behind.holds;
          seen = seen;
          had_memory = had_memory;
          reason = subst (λ (state : ReaderState). IsReason state reader ended) is_unread reason;
          written_first = of_first begun left made status visit.writer writer on lends writes status_is writer_is first;
          written_last = of_last begun left made status visit.writer writer on lends writes status_is writer_is last;
          write_reason = tells begun left made status visit.writer writer on lends writes status_is writer_is ended is_open
              write_reason;
        },
      )

  -- what is demanded of such a visit holds
  pub demanded : {Demanded : Type 0} → HasRan
      → ((served : Served) → RanVisit terms visit reader status writer old served new → Demanded) → Demanded
  demanded (served, is, ran) demands = demands served ran

  -- the door got back what is left of the visit
  pub has_left : {D : Type 0} (has_seen : D → List (DoorStep I O G) → Type 0) (old_door new_door : D) → HasRan
      → Sees has_seen old_door (Left reader status writer) new_door
      → (served : Served) × (served.ended ≡ ended) × LeftVisit terms has_seen old_door visit old served new new_door
  has_left has_seen old_door new_door (served, is, ran) left =
      (served, is, record { reader = reader; status = status; writer = writer; left = left; ran = ran })
