-- The words so far are the ids, each of 64 bits, and each round leaves one word less.
use Rattle.std.proofs.Common.{◌≡◌, ◌++◌, length, map, decimal}
use Rattle.rb_protocol.specs.Words.{words_behind}
use Rattle.rb_history.specs.Ranges.{AreWords}
use Rattle.rb_history.proofs.read_act.read_ids.Given as goal

abbrev pub invariant-loop-word : goal.invariant-loop-word
invariant-loop-word l = record {
  words : words_behind l.fn.words ≡ map decimal l.ids.items ++ words_behind l.rest;
  right : AreWords l.ids.items;
}

abbrev pub decreases-loop-word : goal.decreases-loop-word
decreases-loop-word l = length (words_behind l.rest)
