-- The buffer was zeros, and what lies behind the copy still is.
use Rattle.std.proofs.Common.{◌++◌, ap}
use Rattle.std.proofs.lemmas.List.{drop-replicate}
use Rattle.rb_delayed.proofs.payload.padded.Goals as goal

pub returns : goal.returns
returns c = rw c.copy_from_slice.ensures.after (ap (λ zeros. c.args.bytes.now ++ zeros) (drop-replicate _ 64 0))
