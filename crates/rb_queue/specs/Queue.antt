-- What a queue is: a bag, and the id that the next offer gives out.
use Rattle.std.specs.Prelude.{ℕ, refl}
use Rattle.std.specs.FinMap as map
use Rattle.std.specs.Coded.{Coded, code_by, coded×, coded_ℕ}
use Rattle.rb_delayed.specs.contracts.element.Element.{the_row}
use Rattle.rb_queue.specs.Bag.{Bag}

pub record Queue : Type 0 where
  pub bag : Bag
  pub next_id : ℕ

-- no element, and ids from 0 on
abbrev pub empty_queue : Queue
empty_queue = record { bag = map.empty; next_id = 0 }

-- a bag is stored as the list of its entries
abbrev pub bag_code : Coded Bag
bag_code = map.code coded_ℕ the_row.coded

-- a queue is stored as the pair of its fields
abbrev pub queue_code : Coded Queue
queue_code =
    code_by (Bag × ℕ) (coded× bag_code coded_ℕ) (λ q. (q.bag, q.next_id))
    (λ p. record { bag = p.0; next_id = p.1 }) (λ _. refl)
