-- The loop came to each entry, and so to each slot that had a note.
use Rattle.std.proofs.Common.{◌∙◌, None, replicate, ap, arith}
use Rattle.rb_binary.proofs.ForgottenPlaces.{all_forgotten}
use Rattle.rb_binary.proofs.heap.forget_all.Goals as goal

pub returns : goal.returns
returns c =
    let kept = c.loop-entry.invariant in
    all_forgotten c.args.heap.now c.args.places.now c.loop-entry.places c.requires
    (λ slot place is. (let passed = kept.1 slot place is in omega arith, (kept.1 slot place is).1))
    ∙ ap (λ n. replicate n None) kept.0
