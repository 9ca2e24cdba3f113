-- A chained history has no offer that the check of retries refuses, and its end is the next beginning.
use Rattle.std.proofs.Common.{◌≡◌, List, [], Some, Ok, Err, inl, inr, refl, sym, ap, subst, ◌∙◌, arith, None}
use Rattle.std.specs.FinMap as map
use Rattle.std.specs.FinMap.{get-empty}
use Rattle.std.specs.Ordering.{nat_cmp}
use Rattle.rb_delayed.specs.declared.element.Element.{Element}
use Rattle.rb_queue.specs.Bag.{bag_from}
use Rattle.rb_queue.specs.History.{State}
use Rattle.rb_queue.proofs.Leavings.{is_balanced}
use Rattle.rb_replay.specs.declared.chain_fault.ChainFault.TheVariants.{At, Memory}
use Rattle.rb_jobs.specs.Continued.{JobsAreAccepted, JobsGoOn, NoneAreJobs}
use Rattle.rb_jobs.specs.Places.{AreJobs}
use Rattle.rb_jobs.specs.QueueSums.{waiting_sum}
use Rattle.rb_jobs.proofs.Accounts.{start_sum}

pub jobs_are_accepted : JobsAreAccepted
jobs_are_accepted policy opening history (Ok tt) keeps chains = inl refl
jobs_are_accepted policy opening history (Err Memory) keeps chains = inr refl
jobs_are_accepted policy opening history (Err (At index reason)) keeps breaks =
    absurd (breaks.unlinked
    (keeps.chained.linked breaks.front breaks.behind breaks.event breaks.element breaks.split breaks.offered))

pub none_are_jobs : NoneAreJobs
none_are_jobs opening none = record {
  one_each = λ one other at_one at_other same. absurd (nowhere one at_one);
  given_out = λ element there. absurd (nowhere element there);
}
  where
    nowhere : (element : Element) → map.get (bag_from opening.elements) element.id ≡ Some element → ⊥
    nowhere element there =
        let empty : map.get (bag_from opening.elements) element.id ≡ None =
        ap (λ (elements : List Element). map.get (bag_from elements) element.id) none
        ∙ get-empty {X = Element} nat_cmp element.id in absurd (cc)

pub jobs_go_on : JobsGoOn
jobs_go_on policy opening next history keeps (legal, same) =
    let start = is_balanced next [] tt in (
      subst (λ (s : State). AreJobs s.queue) (sym same) keeps.left,
      ap (λ (s : State). map.len s.queue.bag) (sym same) ∙ omega (arith, start),
      λ amount. ap (λ (s : State). waiting_sum amount s.queue) (sym same)
          ∙ start_sum amount next.elements next.next_id next.opening.order,
    )
