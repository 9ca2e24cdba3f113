-- The ledger of the decision is the one that the blank opens.
use Rattle.rb_serving.proofs.server.serve_delivering.Given as goal

abbrev pub ghosts-decide_and_serve-L-Deciding : goal.ghosts-decide_and_serve-L-Deciding
ghosts-decide_and_serve-L-Deciding g a = record { all = a.blank.parts }

abbrev pub ghosts-decide_and_serve-L-Ledger : goal.ghosts-decide_and_serve-L-Ledger
ghosts-decide_and_serve-L-Ledger g a = record { name = a.blank.name; parts = a.blank.parts }
