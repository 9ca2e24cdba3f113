-- What an ask does to a queue at one moment. No public clause cites this module.
use Rattle.std.specs.Prelude.{◌≡◌, ℕ, Some}
use Rattle.rb_queue.specs.Bag.{NoneExpired}
use Rattle.rb_queue.specs.Head.{IsNextExpiry}
use Rattle.rb_queue.specs.Queue.{Queue}
use Rattle.rb_queue.specs.Calls.{Acts}
use Rattle.rb_queue.specs.Replies.{reply_in}
use Rattle.rb_queue.specs.declared.ask.Ask.{Ask}
use Rattle.rb_kept.specs.Tries.{IsActOf, TakesMemory, WaitsPast}
use Rattle.rb_kept.specs.declared.perform.Answer.{Answer}
use Rattle.rb_kept.specs.declared.perform.Performed.{Performed}
use Rattle.rb_kept.specs.declared.perform.Performed.TheVariants.{Done, Later, NoMemory}

-- the queue did an act of the ask, and the reply is what the act names in the bag before
pub record DoesAsk (old : Queue) (now : ℕ) (ask : Ask) (answer : Answer) (new : Queue) : Type 0 where
  pub of_ask : IsActOf ask answer.act
  pub acts : Acts old now answer.act new
  pub reply : reply_in old.bag answer.act ≡ Some answer.reply

-- it did an act of the ask; or the ask would wait, or memory was refused, and nothing has changed
abbrev pub Performs : Queue → ℕ → Ask → Performed → Queue → Type 0
Performs old now ask (Done answer) new = DoesAsk old now ask answer new
Performs old now ask (Later next) new =
    WaitsPast ask now × NoneExpired old.bag now × IsNextExpiry old.bag next × (new ≡ old)
Performs old now ask NoMemory new = TakesMemory ask × (new ≡ old)
