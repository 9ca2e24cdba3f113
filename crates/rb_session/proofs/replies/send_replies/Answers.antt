-- The reply's first line is sent, and only behind a drain's come others: the last jobs held.
use Rattle.std.proofs.Common.{◌≡◌, ℕ, ◌+◌, ◌-◌, ◌<◌, List, [], ◌∷◌, ◌++◌, refl, sym, ap, subst, ◌∙◌, map, take, drop, length}
use Rattle.std.proofs.Common.{get_or, append_assoc, arith, Option, Some, None}
use Rattle.std.proofs.lemmas.List.{take_more, take_all, take-append-drop, map-append, append-nil}
use Rattle.std.proofs.KnownBytes.{Appends-trans}
use Rattle.std.specs.Io.KnownBytes.{Appends}
use Rattle.rb_delayed.specs.declared.element.Element.{Element}
use Rattle.rb_protocol.specs.ReplyText.{text_of}
use Rattle.rb_protocol.specs.declared.line_reply.LineReply.{LineReply}
use Rattle.rb_protocol.specs.declared.line_reply.LineReply.TheVariants as lines
use Rattle.rb_protocol.proofs.Sending.{sends_all, sends_then, sends_part}
use Rattle.rb_session.specs.JobMap.{present}
use Rattle.rb_session.specs.Outlet.{sent_to, Passes, MaySend}
use Rattle.rb_session.specs.Progress.{replies_of}
use Rattle.rb_session.specs.Session.{texts_of}
use Rattle.rb_session.proofs.Gatherings.{goes_on, tells_then}
use Rattle.rb_session.proofs.JobMaps.{present_some, present-append}
use Rattle.rb_session.proofs.Passed.{passes_then, passes_on, may_send_first, may_send_then}
use Rattle.rb_session.proofs.ReplyTexts.{texts_of-append}
use Rattle.rb_session.proofs.replies.send_replies.Goals as goal
use Rattle.rb_session.proofs.replies.send_replies.Goals.{in-Drained+else-loop-job-test, in_default, in-Some+in_ok-send-2, in_default-job}

-- what comes behind the first line of a reply: nothing, if it is not a drain's
rest_of : (reply : LineReply) (held : List Element) → (rest : List ℕ)
    × (texts_of (replies_of reply held) ≡ text_of reply ++ rest)
    × (((count : ℕ) → reply ≡ lines.Drained count → ⊥) → rest ≡ [])
rest_of (lines.Drained count) held =
    (texts_of (map lines.Item (drop (length held - count) held)), refl, λ other. absurd (other count refl))
rest_of (lines.Offered id expiry) held = ([], refl, λ other. refl)
rest_of (lines.Item element) held = ([], refl, λ other. refl)
rest_of (lines.Head element) held = ([], refl, λ other. refl)
rest_of lines.Nothing held = ([], refl, λ other. refl)
rest_of (lines.Removed found) held = ([], refl, λ other. refl)
rest_of lines.Cleared held = ([], refl, λ other. refl)
rest_of (lines.Size count) held = ([], refl, λ other. refl)
rest_of (lines.Done id) held = ([], refl, λ other. refl)
rest_of (lines.Again id expiry) held = ([], refl, λ other. refl)
rest_of (lines.Dead id) held = ([], refl, λ other. refl)
rest_of (lines.Now moment) held = ([], refl, λ other. refl)
rest_of lines.Stopped held = ([], refl, λ other. refl)
rest_of lines.Bye held = ([], refl, λ other. refl)
rest_of (lines.Err word) held = ([], refl, λ other. refl)

abbrev items_text : List (Option Element) → List ℕ
items_text items = texts_of (map lines.Item (present items))

-- behind a drain's first line come those of the items
drained : (reply : LineReply) (held : List Element) (items : List (Option Element)) (count : ℕ)
    → reply ≡ lines.Drained count → items ≡ map (λ element. Some element) (drop (length held - count) held)
    → texts_of (replies_of reply held) ≡ text_of reply ++ items_text items
drained reply held items count is last =
    let some = present_some (drop (length held - count) held) in
    subst (λ (r : LineReply). texts_of (replies_of r held) ≡ text_of r ++ items_text items) (sym is)
    (ap (λ (elements : List Element). text_of (lines.Drained count) ++ texts_of (map lines.Item elements))
    (sym (ap present last ∙ some)))

items_text-append : (one two : List (Option Element)) → items_text (one ++ two) ≡ items_text one ++ items_text two
items_text-append one two =
    ap (λ (elements : List Element). texts_of (map lines.Item elements)) (present-append one two)
    ∙ ap texts_of (map-append lines.Item (present one) (present two))
    ∙ texts_of-append (map lines.Item (present one)) (map lines.Item (present two))

module _ (items : List (Option Element)) (place : ℕ) (item : Option Element) (within : place < length items)
    (is : item ≡ get_or items place item) where
  -- the text of the first items, and of one more
  text_more : items_text (take (place + 1) items) ≡ items_text (take place items) ++ items_text (item ∷ [])
  text_more =
      ap items_text (take_more items place item within
      ∙ ap (λ (e : Option Element). take place items ++ e ∷ []) (sym is))
      ∙ items_text-append (take place items) (item ∷ [])

  -- an empty one adds none
  text_same : item ≡ None → items_text (take (place + 1) items) ≡ items_text (take place items)
  text_same none = text_more ∙ ap (λ (e : Option Element). items_text (take place items) ++ items_text (e ∷ [])) none
      ∙ append-nil (items_text (take place items))

  module _ (element : Element) (some : item ≡ Some element) where
    -- one with a job adds its line
    text_longer : items_text (take (place + 1) items) ≡ items_text (take place items) ++ text_of (lines.Item element)
    text_longer =
        text_more ∙ ap (λ (e : Option Element). items_text (take place items) ++ items_text (e ∷ [])) some
        ∙ ap (λ (t : List ℕ). items_text (take place items) ++ t) (append-nil (text_of (lines.Item element)))

    -- all text is that of the first items, the next one's, and what follows
    text_split : items_text items ≡ items_text (take place items) ++ (text_of (lines.Item element) ++ items_text
        (drop (place + 1) items))
    text_split =
        sym (ap items_text (take-append-drop (place + 1) items))
        ∙ items_text-append (take (place + 1) items) (drop (place + 1) items)
        ∙ ap (λ (t : List ℕ). t ++ items_text (drop (place + 1) items)) text_longer
        ∙ append_assoc (items_text (take place items)) (text_of (lines.Item element))
        (items_text (drop (place + 1) items))

pub send-requires : goal.send-requires
send-requires g c =
    let rest = rest_of c.args.reply.now c.args.held.now in
    may_send_first g.W.Recipient c.args.outlet.now c.args.shown.now (text_of c.args.reply.now) rest.0
    (subst (MaySend g.W.Recipient c.args.outlet.now c.args.shown.now) rest.1 c.requires)

pub send-requires-in-Some : goal.send-requires-in-Some
send-requires-in-Some g c =
    let items = c.last-job-items.result.now in
    let first = text_of c.args.reply.now in
    let at = c.loop-job.job-index in
    let item = text_of (lines.Item c.in-Some.job) in
    let rest = items_text (drop (at + 1) items) in
    let split = drained c.args.reply.now c.args.held.now items c.in-Drained.count c.in-Drained.is c.last-job-items.ensures
    ∙ ap (λ (t : List ℕ). first ++ t) (text_split items at c.job-item.result c.loop-job-test.true c.job-item.is
    c.in-Some.job c.in-Some.is)
    ∙ sym (append_assoc first (items_text (take at items)) (item ++ rest)) in
    subst (λ (e : Element). MaySend g.W.Recipient c.loop-job.outlet c.args.shown.now (text_of (lines.Item e)))
    (sym c.element.ensures)
    (may_send_first g.W.Recipient c.loop-job.outlet c.args.shown.now item rest
    (may_send_then g.W.Recipient c.args.outlet.now c.loop-job.outlet c.args.shown.now
    (first ++ items_text (take at items)) (item ++ rest) c.loop-job.invariant.passed
    (subst (MaySend g.W.Recipient c.args.outlet.now c.args.shown.now) split c.requires)))

pub returns-clause-passes : goal.returns-clause-passes
returns-clause-passes g c = elim c.match-reply.branch [
  | in-Drained+else-loop-job-test w ↦
      let items = w.last-job-items.result.now in
      let first = text_of c.args.reply.now in
      let all : take w.loop-job.job-index items ≡ items =
      take_all w.loop-job.job-index items (omega (arith, w.loop-job-test.false)) in
      let passed = subst (λ (es : List (Option Element)). Passes g.W.Recipient c.args.outlet.now (first ++ items_text es)
      w.loop-job.outlet) all w.loop-job.invariant.passed in
      rw (drained c.args.reply.now c.args.held.now items w.in-Drained.count w.in-Drained.is w.last-job-items.ensures)
      (passes_on g.W.Recipient c.after_replies.result _ _ _ _ (rw w.outlet-is passed) c.after_replies.ensures.passes)
  | in_default w ↦
      let rest = rest_of c.args.reply.now c.args.held.now in
      let alone = rest.1 ∙ ap (λ (t : List ℕ). text_of c.args.reply.now ++ t) (rest.2 w.in_default.not-Drained)
      ∙ append-nil (text_of c.args.reply.now) in
      rw alone (passes_on g.W.Recipient c.after_replies.result _ _ _ _ (rw w.outlet-is c.in_ok-send.ensures.passes)
      c.after_replies.ensures.passes)
]

pub returns-in_err-send-clause-sent : goal.returns-in_err-send-clause-sent
returns-in_err-send-clause-sent g c =
    let rest = rest_of c.args.reply.now c.args.held.now in
    rw rest.1 (sends_part c.from_residual.result _ _ (text_of c.args.reply.now) rest.0 c.from_residual.ensures.0
    c.in_err-send.ensures.sent)

pub returns-in_err-send-2-clause-sent : goal.returns-in_err-send-2-clause-sent
returns-in_err-send-2-clause-sent g c =
    let items = c.last-job-items.result.now in
    let first = text_of c.args.reply.now in
    let at = c.loop-job.job-index in
    let failed = subst (λ (e : Element). (some : List ℕ) × (unsent : List ℕ) × (text_of (lines.Item e) ≡ some ++ unsent)
    × Appends (sent_to g.W.Recipient c.loop-job.outlet) (sent_to g.W.Recipient c.send-in-Some.new.self) some)
    c.element.ensures c.in_err-send-2.ensures.sent in
    rw (drained c.args.reply.now c.args.held.now items c.in-Drained.count c.in-Drained.is c.last-job-items.ensures
    ∙ ap (λ (t : List ℕ). first ++ t) (text_split items at c.job-item.result c.loop-job-test.true c.job-item.is
    c.in-Some.job c.in-Some.is)
    ∙ sym (append_assoc first (items_text (take at items)) _))
    (sends_then c.from_residual-in_err-send-2.result _ _ _ (first ++ items_text (take at items)) _
    c.loop-job.invariant.sent
    (sends_part c.from_residual-in_err-send-2.result _ _ (text_of (lines.Item c.in-Some.job)) _
    c.from_residual-in_err-send-2.ensures.0 failed))

pub returns-in_err-send-2-clause-becomes : goal.returns-in_err-send-2-clause-becomes
returns-in_err-send-2-clause-becomes g c =
    goes_on g.W.Recipient _ _ _ c.loop-job.invariant.becomes c.send-in-Some.ensures.becomes

pub loop-job-preserved : goal.loop-job-preserved
loop-job-preserved g c =
    let items = c.last-job-items.result.now in
    let first = text_of c.args.reply.now in
    let at = c.loop-job.job-index in elim c.match-job.branch [
      | in-Some+in_ok-send-2 w ↦
          let more = subst (λ (e : Element). Appends (sent_to g.W.Recipient c.loop-job.outlet)
          (sent_to g.W.Recipient w.send-in-Some.new.self) (text_of (lines.Item e))) w.element.ensures
          w.in_ok-send-2.ensures.sent in record {
            sent = rw w.outlet-is
                (subst (Appends _ _)
                (append_assoc first (items_text (take at items)) (text_of (lines.Item w.in-Some.job))
                ∙ ap (λ (t : List ℕ). first ++ t) (sym (text_longer items at c.job-item.result c.loop-job-test.true
                c.job-item.is w.in-Some.job w.in-Some.is)))
                (Appends-trans _ _ _ _ _ c.loop-job.invariant.sent more));
            passed = rw w.outlet-is
                (subst (λ (t : List ℕ). Passes g.W.Recipient c.args.outlet.now t w.send-in-Some.new.self)
                (append_assoc first (items_text (take at items)) (text_of (lines.Item w.in-Some.job))
                ∙ ap (λ (t : List ℕ). first ++ t) (sym (text_longer items at c.job-item.result c.loop-job-test.true
                c.job-item.is w.in-Some.job w.in-Some.is)))
                (passes_then g.W.Recipient _ _ _ _ _ c.loop-job.invariant.passed
                (subst (λ (e : Element). Passes g.W.Recipient c.loop-job.outlet (text_of (lines.Item e))
                w.send-in-Some.new.self) w.element.ensures w.in_ok-send-2.ensures.passes)));
            well = rw w.outlet-is (λ failed. c.loop-job.invariant.well (w.in_ok-send-2.ensures.told failed));
            becomes = rw w.outlet-is
                (goes_on g.W.Recipient _ _ _ c.loop-job.invariant.becomes w.send-in-Some.ensures.becomes);
          }
      | in_default-job w ↦ record {
        sent = rw w.outlet-is
            (subst (Appends _ _) (ap (λ (t : List ℕ). first ++ t) (sym (text_same items at c.job-item.result
            c.loop-job-test.true c.job-item.is w.in_default-job.is))) c.loop-job.invariant.sent);
        passed = rw w.outlet-is
            (subst (λ (t : List ℕ). Passes g.W.Recipient c.args.outlet.now t c.loop-job.outlet)
            (ap (λ (t : List ℕ). first ++ t) (sym (text_same items at c.job-item.result c.loop-job-test.true
            c.job-item.is w.in_default-job.is))) c.loop-job.invariant.passed);
        well = rw w.outlet-is c.loop-job.invariant.well;
        becomes = rw w.outlet-is c.loop-job.invariant.becomes;
      }
    ]

pub returns-clause-sent : goal.returns-clause-sent
returns-clause-sent g c = elim c.match-reply.branch [
  | in-Drained+else-loop-job-test w ↦
      let items = w.last-job-items.result.now in
      let first = text_of c.args.reply.now in
      let all : take w.loop-job.job-index items ≡ items =
      take_all w.loop-job.job-index items (omega (arith, w.loop-job-test.false)) in
      let sent = subst (λ (es : List (Option Element)). Appends (sent_to g.W.Recipient c.args.outlet.now)
      (sent_to g.W.Recipient w.loop-job.outlet) (first ++ items_text es)) all w.loop-job.invariant.sent in
      rw (drained c.args.reply.now c.args.held.now items w.in-Drained.count w.in-Drained.is w.last-job-items.ensures)
      (sends_all c.after_replies.result _ _ _ _ (rw w.outlet-is sent) c.after_replies.ensures.kept)
  | in_default w ↦
      let rest = rest_of c.args.reply.now c.args.held.now in
      let alone = rest.1 ∙ ap (λ (t : List ℕ). text_of c.args.reply.now ++ t) (rest.2 w.in_default.not-Drained)
      ∙ append-nil (text_of c.args.reply.now) in
      rw alone (sends_all c.after_replies.result _ _ _ _ (rw w.outlet-is c.in_ok-send.ensures.sent)
      c.after_replies.ensures.kept)
]

pub returns-clause-becomes : goal.returns-clause-becomes
returns-clause-becomes g c = elim c.match-reply.branch [
  | in-Drained+else-loop-job-test w ↦
      goes_on g.W.Recipient _ _ _ (rw w.outlet-is w.loop-job.invariant.becomes) c.after_replies.ensures.becomes
  | in_default w ↦
      goes_on g.W.Recipient _ _ _ (rw w.outlet-is c.send.ensures.becomes) c.after_replies.ensures.becomes
]

pub returns-clause-told : goal.returns-clause-told
returns-clause-told g c = elim c.match-reply.branch [
  | in-Drained+else-loop-job-test w ↦
      tells_then c.after_replies.result c.args.outlet.now.writer.status.now.state c.match-reply.outlet.writer.status.now
      c.after_replies.new.self.writer.status.now (rw w.outlet-is w.loop-job.invariant.well) c.after_replies.ensures.told
  | in_default w ↦
      tells_then c.after_replies.result c.args.outlet.now.writer.status.now.state c.match-reply.outlet.writer.status.now
      c.after_replies.new.self.writer.status.now (rw w.outlet-is c.in_ok-send.ensures.told) c.after_replies.ensures.told
]
