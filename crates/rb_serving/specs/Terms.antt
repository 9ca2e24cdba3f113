-- On what terms a server's visits are served.
use Rattle.std.specs.Prelude.{Bool, ℕ, List, Option}
use Rattle.atomic_table.specs.Seated.{TableId}
use Rattle.std.specs.declared.io.Read as Read
use Rattle.rb_protocol.specs.declared.streams.recipient.Recipient as Recipient
use Rattle.rb_blocking.specs.GateSteps.{GateStep}
use Rattle.rb_blocking.specs.declared.clock.Clock as Clock
use Rattle.rb_blocking.specs.declared.gate.Gate as Gate
use Rattle.rb_lock.specs.Passes.{PassState}
use Rattle.rb_retry.specs.declared.policy.Policy.{Policy}
use Rattle.rb_session.specs.declared.delivery.Delivery.{Delivery}
use Rattle.rb_serving.specs.declared.service.Service.{Service}

-- What a visit's reader and writer tell of their bytes, what its writer demands of a piece and of the pass that it is shown
-- then, and what its gate may answer and has seen. All sessions have in common the clock that they read, what it may read,
-- and what for which try of a wait, when a failed job is offered again, when replies are written, and the queue that they
-- call.
pub record Terms (I O G C : Type 0) : Type 1 where
  pub remaining : I → Option (List ℕ)
  pub contents : O → Option (List ℕ)
  pub demands : O → PassState → List ℕ → Type 0
  pub answers : G → ℕ → Bool → Type 0
  pub has_seen : G → List GateStep → Type 0
  pub clock : C
  pub gives : C → ℕ → Type 0
  pub reads : C → ℕ → ℕ → Type 0
  pub policy : Policy
  pub delivery : Delivery
  pub table : TableId

module _ {I O G C : Type 0} (reader : Read.Ghosts I) (writer : Recipient.Ghosts O PassState)
    (gate : Gate.Ghosts G) (clock_words : Clock.Ghosts C) where
  -- the terms of visits with such readers, writers and gates, by this clock, policy and delivery, of this queue
  abbrev pub terms_of : C → Policy → Delivery → TableId → Terms I O G C
  terms_of clock policy delivery table = record {
    remaining = reader.remaining;
    contents = writer.contents;
    demands = writer.demands;
    answers = gate.answers;
    has_seen = gate.has_seen;
    clock = clock;
    gives = clock_words.gives;
    reads = clock_words.reads;
    policy = policy;
    delivery = delivery;
    table = table;
  }

  -- the terms of a service
  abbrev pub service_terms : {T V : Type 0} → Service T C V → Terms I O G C
  service_terms service = terms_of service.clock.now service.policy.now service.delivery service.shared.now
