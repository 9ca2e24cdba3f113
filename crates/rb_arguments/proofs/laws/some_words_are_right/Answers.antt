-- The words are written out, so clap's reading of them computes.
use Rattle.std.proofs.Common.{refl, inl, inr, codes, lit<, lit≤}
use Rattle.clap.proofs.OnLiterals.{clap_on_literals}
use Rattle.rb_arguments.proofs.laws.some_words_are_right.Goals as goal

pub returns : goal.returns
unfolding clap_on_literals
returns c scripted served = record {
  taken = refl;
  name = codes "replay";
  rows = _;
  met = refl;
  alone = refl;
  right = inr (inl (
    refl,
    record {
      file = refl;
      policy = record {
        attempts = (codes "3", refl, (lit< tt, (lit< tt, tt)), lit≤ tt, lit≤ tt);
        pace = (codes "1000", refl, (lit< tt, (lit< tt, (lit< tt, (lit< tt, (lit< tt, tt))))), lit≤ tt, lit≤ tt);
      };
    },
  ));
}
