-- What came and what was sent, where more comes and more is sent.
use Rattle.std.proofs.Common.{ℕ, List, ◌++◌, Option}
use Rattle.std.specs.Io.KnownBytes.{Appends, Consumes, Keeps}
use Rattle.std.proofs.KnownBytes.{Appends-trans, Appends-kept, Consumes-trans, Consumes-kept}
use Rattle.rb_session.specs.Exchange.{Exchanges}

-- the writer has got no more since then
module _ {P Q : List ℕ → List ℕ → Type 0} {left0 left1 left2 got0 got1 : Option (List ℕ)}
    (so_far : Exchanges left0 left1 got0 got1 P) (got2 : Option (List ℕ)) (kept : Keeps got1 got2) where
  -- nothing more came
  pub exchanges_same : Keeps left1 left2 → Q so_far.came so_far.sent → Exchanges left0 left2 got0 got2 Q
  exchanges_same unread holds = record {
    came = so_far.came;
    sent = so_far.sent;
    consumed = Consumes-kept left0 left1 left2 so_far.came so_far.consumed unread;
    appended = Appends-kept got0 got1 got2 so_far.sent so_far.appended kept;
    holds = holds;
  }

  -- more came, and more was sent
  unfoldable pub exchanges_more : (more text : List ℕ) (got3 : Option (List ℕ)) → Consumes left1 left2 more
      → Appends got2 got3 text → Q (so_far.came ++ more) (so_far.sent ++ text)
      → Exchanges left0 left2 got0 got3 Q
  exchanges_more more text got3 consumed appended holds = record {
    came = so_far.came ++ more;
    sent = so_far.sent ++ text;
    consumed = Consumes-trans left0 left1 left2 so_far.came more so_far.consumed consumed;
    appended = Appends-trans got0 got2 got3 so_far.sent text
        (Appends-kept got0 got1 got2 so_far.sent so_far.appended kept) appended;
    holds = holds;
  }

-- more was sent, and nothing more came
unfoldable pub exchanges_sent : {P Q : List ℕ → List ℕ → Type 0} {left0 left1 got0 got1 : Option (List ℕ)}
    (so_far : Exchanges left0 left1 got0 got1 P) (got2 : Option (List ℕ)) (kept : Keeps got1 got2) (text : List ℕ)
    (got3 : Option (List ℕ)) → Appends got2 got3 text → Q so_far.came (so_far.sent ++ text)
    → Exchanges left0 left1 got0 got3 Q
exchanges_sent so_far got2 kept text got3 appended holds = record {
  came = so_far.came;
  sent = so_far.sent ++ text;
  consumed = so_far.consumed;
  appended = Appends-trans _ got2 got3 so_far.sent text (Appends-kept _ _ got2 so_far.sent so_far.appended kept) appended;
  holds = holds;
}
