-- The second line tells an opening's numbers, unless its version allows no such opening.
use Rattle.std.proofs.Common.{◌≡◌, true, false, refl, inr}
use Rattle.rb_history.proofs.Bodies.{opens_other, tells_numbers}
use Rattle.rb_history.proofs.read_run.read_numbers.Goals as goal

pub returns-then-not-may_open-clause-err : goal.returns-then-not-may_open-clause-err
returns-then-not-may_open-clause-err c =
    rw c.at-then-not-may_open.ensures (
      refl,
      inr (
        refl,
        record {
          line = c.in-Some.line.now;
          behind = c.in-Some.behind.now;
          split = c.in-Some.ensures.text;
          whole = c.in-Some.ensures.line;
          no_open = opens_other c.args.version c.args.text.now c.in-Some.line.now c.in-Some.behind.now c.in-Some-read_open.told
              c.in-Some-read_open.ensures.some c.in-Some-read_open.ensures.small
              (λ opens. let yes : c.may_open.result ≡ true = c.may_open.ensures.1 opens in let no : c.may_open.result ≡ false = cc in absurd (cc));
        },
      ),
    )

pub returns-clause-ok : goal.returns-clause-ok
returns-clause-ok c =
    let yes : c.may_open.result ≡ true = cc in
    tells_numbers c.args.version c.args.text.now c.in-Some.line.now c.in-Some.behind.now c.in-Some-read_open.told c.in-Some.ensures.text
    c.in-Some-read_open.ensures.some c.in-Some-read_open.ensures.small (c.may_open.ensures.0 yes)
