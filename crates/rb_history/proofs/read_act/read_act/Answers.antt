-- The bytes that were matched spell the keyword, so what its function read is what the words are.
use Rattle.std.proofs.Common.{rules, arith, codes}
use Rattle.std.proofs.lemmas.Bool.Decides.{nat_tests}
use Rattle.std.proofs.lemmas.Result.{IfOk-weaker}
use Rattle.rb_history.proofs.Keywords.{no_act, reads_keyword}
use Rattle.rb_history.proofs.read_act.read_act.Goals as goal

pub returns-in-offer : goal.returns-in-offer
returns-in-offer c = reads_keyword c.args.version _ _ _ (codes "offer") c.offer.result
    c.in-Some.ensures.some (omega arith) (search rules depth 12) c.offer.ensures

pub returns-in-poll : goal.returns-in-poll
returns-in-poll c = reads_keyword c.args.version _ _ _ (codes "poll") c.poll.result
    c.in-Some.ensures.some (omega arith) (search rules depth 12) (c.poll.ensures c.args.version)

pub returns-in-take : goal.returns-in-take
returns-in-take c = reads_keyword c.args.version _ _ _ (codes "take") c.take.result
    c.in-Some.ensures.some (omega arith) (search rules depth 12) (c.take.ensures c.args.version)

pub returns-in-pollfor : goal.returns-in-pollfor
returns-in-pollfor c = reads_keyword c.args.version _ _ _ (codes "pollfor") c.poll_for.result
    c.in-Some.ensures.some (omega arith) (search rules depth 12) (c.poll_for.ensures c.args.version)

pub returns-in-peek : goal.returns-in-peek
returns-in-peek c = reads_keyword c.args.version _ _ _ (codes "peek") c.peek.result
    c.in-Some.ensures.some (omega arith) (search rules depth 12) (c.peek.ensures c.args.version)

pub returns-in-remove : goal.returns-in-remove
returns-in-remove c = reads_keyword c.args.version _ _ _ (codes "remove") c.remove.result
    c.in-Some.ensures.some (omega arith) (search rules depth 12) (c.remove.ensures c.args.version)

pub returns-in-clear : goal.returns-in-clear
returns-in-clear c = reads_keyword c.args.version _ _ _ (codes "clear") c.clear.result
    c.in-Some.ensures.some (omega arith) (search rules depth 12) (c.clear.ensures c.args.version)

pub returns-in-size : goal.returns-in-size
returns-in-size c = reads_keyword c.args.version _ _ _ (codes "size") c.size.result
    c.in-Some.ensures.some (omega arith) (search rules depth 12) (c.size.ensures c.args.version)

pub returns-in-drain : goal.returns-in-drain
returns-in-drain c = IfOk-weaker c.drain.result _ _ (λ found reads. reads_keyword c.args.version _ _ _ (codes "drain") found
    c.in-Some.ensures.some (omega arith) (search rules depth 12) (reads c.args.version)) c.drain.ensures

pub returns-in_default-keyword : goal.returns-in_default-keyword
returns-in_default-keyword c = λ act right is. no_act c.args.version _ _ _ c.in-Some.ensures.some (record {
  offer = λ word. grind (arith, nat_tests);
  poll = λ word. grind (arith, nat_tests);
  take = λ word. grind (arith, nat_tests);
  pollfor = λ word. grind (arith, nat_tests);
  peek = λ word. grind (arith, nat_tests);
  remove = λ word. grind (arith, nat_tests);
  drain = λ word. grind (arith, nat_tests);
  clear = λ word. grind (arith, nat_tests);
  size = λ word. grind (arith, nat_tests);
}) act is
