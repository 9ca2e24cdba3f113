-- What a session holds is some of what it handed out, in that order.
use Rattle.std.proofs.Common.{◌≡◌, ℕ, suc, zero, List, [], ◌∷◌, ◌++◌, remove, Result, Ok, Err}
use Rattle.std.proofs.Common.{refl, sym, ap, subst, ◌∙◌, append_assoc, inl, inr}
use Rattle.rb_delayed.specs.declared.element.Element.{Element}
use Rattle.rb_kept.specs.declared.fault.CallFault.{CallFault}
use Rattle.rb_retry.specs.DeskRules.{DeskRules}
use Rattle.rb_protocol.specs.declared.request.Request.{Request}
use Rattle.rb_protocol.specs.declared.line_fault.LineFault.{LineFault}
use Rattle.rb_protocol.specs.declared.line_reply.LineReply.{LineReply}
use Rattle.rb_jobs.specs.JobEnds.{handed_by, handed_out}
use Rattle.rb_jobs.specs.RunEvents.{AreSomeOf}
use Rattle.rb_session.specs.Session.{Turn}
use Rattle.rb_session.specs.Turn.{Point}
use Rattle.rb_jobs.proofs.Events.{tells_answer}
use Rattle.rb_jobs.proofs.Ways.{Retried, Way, WaysAlong, did_nothing, did_end, did_call, did_retry, did_set}

-- all of them, and some of more
pub some_all : (xs : List Element) → AreSomeOf xs xs
some_all [] = tt
some_all (x ∷ xs) = inl (refl, some_all xs)

some_skip : (xs all : List Element) (x : Element) → AreSomeOf xs all → AreSomeOf xs (x ∷ all)
some_skip [] all x some = tt
some_skip (y ∷ xs) all x some = inr some

pub some_more : (xs all more : List Element) → AreSomeOf xs all → AreSomeOf xs (all ++ more)
some_more [] all more some = tt
some_more (x ∷ xs) [] more some = absurd some
some_more (x ∷ xs) (y ∷ all) more (inl (same, rest)) = inl (same, some_more xs all more rest)
some_more (x ∷ xs) (y ∷ all) more (inr rest) = inr (some_more (x ∷ xs) all more rest)

some_front : (before xs : List Element) → AreSomeOf xs (before ++ xs)
some_front [] xs = some_all xs
some_front (x ∷ before) xs = some_skip xs (before ++ xs) x (some_front before xs)

-- the same behind both
pub some_both : (xs all more : List Element) → AreSomeOf xs all → AreSomeOf (xs ++ more) (all ++ more)
some_both [] all more some = some_front all more
some_both (x ∷ xs) [] more some = absurd some
some_both (x ∷ xs) (y ∷ all) more (inl (same, rest)) = inl (same, some_both xs all more rest)
some_both (x ∷ xs) (y ∷ all) more (inr rest) = inr (some_both (x ∷ xs) all more rest)

pub some_trans : (xs ys zs : List Element) → AreSomeOf xs ys → AreSomeOf ys zs → AreSomeOf xs zs
some_trans [] ys zs one two = tt
some_trans (x ∷ xs) [] zs one two = absurd one
some_trans (x ∷ xs) (y ∷ ys) [] one two = absurd two
some_trans (x ∷ xs) (y ∷ ys) (z ∷ zs) (inl (same, rest)) (inl (equal, more)) =
    inl (same ∙ equal, some_trans xs ys zs rest more)
some_trans (x ∷ xs) (y ∷ ys) (z ∷ zs) (inr rest) (inl (equal, more)) = inr (some_trans (x ∷ xs) ys zs rest more)
some_trans (x ∷ xs) (y ∷ ys) (z ∷ zs) one (inr more) = inr (some_trans (x ∷ xs) (y ∷ ys) zs one more)

pub some_removed : (xs : List Element) (place : ℕ) → AreSomeOf (remove xs place) xs
some_removed [] zero = tt
some_removed [] (suc place) = tt
some_removed (x ∷ xs) zero = some_skip xs xs x (some_all xs)
some_removed (x ∷ xs) (suc place) = inl (refl, some_removed xs place)

module _ {S : Type 0} (rules : DeskRules S) where
  -- after a line, some of what was held before it and of what it handed out
  abbrev Holds : Point S → List LineReply → Point S → Type 0
  Holds old replies new = AreSomeOf new.held (old.held ++ handed_by replies)

  holds_fewer : (old new : Point S) (replies : List LineReply) → AreSomeOf new.held old.held → Holds old replies new
  holds_fewer old new replies some = some_more new.held old.held (handed_by replies) some

  holds_same : (old new : Point S) (replies : List LineReply) → new.held ≡ old.held → Holds old replies new
  holds_same old new replies same = holds_fewer old new replies
      (subst (λ held. AreSomeOf held old.held) (sym same) (some_all old.held))

  holds_removed : (old new : Point S) (replies : List LineReply) (place : ℕ) → new.held ≡ remove old.held place
      → Holds old replies new
  holds_removed old new replies place removed = holds_fewer old new replies
      (subst (λ held. AreSomeOf held old.held) (sym removed) (some_removed old.held place))

  holds_retried : (old new : Point S) (replies : List LineReply) (place : ℕ) (result : Result Element CallFault)
      → Retried rules result replies old.held place new.held → Holds old replies new
  holds_retried old new replies place (Ok again) (are, held) = holds_removed old new replies place held
  holds_retried old new replies place (Err fault) (are, held) = holds_same old new replies held

  way_holds : (reading : Result Request LineFault) (replies : List LineReply) (old new : Point S)
      → Way rules reading replies old new → Holds old replies new
  way_holds reading replies old new (did_nothing nothing) =
      holds_same old new replies (ap (λ (p : Point S). p.held) nothing.same)
  way_holds reading replies old new (did_end end) = holds_removed old new replies end.place end.held
  way_holds reading replies old new (did_call call) =
      subst (λ all. AreSomeOf new.held (old.held ++ all)) (sym (ap handed_by call.are ∙ (tells_answer call.answer).hands))
      (subst (λ all. AreSomeOf new.held all) call.held (some_all new.held))
  way_holds reading replies old new (did_retry retry) =
      holds_retried old new replies retry.place retry.result retry.retried
  way_holds reading replies old new (did_set set) = holds_same old new replies set.held

  -- after these lines, some of what was held before them and of what they handed out
  pub ways_hold : (from to : Point S) (turns : List Turn) → WaysAlong rules from turns to
      → AreSomeOf to.held (from.held ++ handed_out turns)
  ways_hold from to [] same = holds_same from to [] (ap (λ (p : Point S). p.held) same)
  ways_hold from to (turn ∷ turns) (between, way, rest) =
      subst (λ all. AreSomeOf to.held all) (append_assoc from.held (handed_by turn.replies) (handed_out turns))
      (some_trans to.held (between.held ++ handed_out turns) ((from.held ++ handed_by turn.replies) ++ handed_out turns)
      (ways_hold between to turns rest)
      (some_both between.held (from.held ++ handed_by turn.replies) (handed_out turns)
      (way_holds turn.reading turn.replies from between way)))
