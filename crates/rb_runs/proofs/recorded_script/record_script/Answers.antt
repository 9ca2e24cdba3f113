-- The script's devices are those that its reader and its writer were made of.
use Rattle.std.proofs.Common.{◌≡◌, ◌∙◌, rules, sym, ap, subst, inl}
use Rattle.rb_protocol.specs.declared.streams.reader_state.ReaderState.{ReaderState}
use Rattle.rb_session.specs.Reasons.{IsReason}
use Rattle.rb_ending.proofs.Writers.{first_is, last_is, tells}
use Rattle.rb_runs.proofs.recorded_script.record_script.Goals as goal

pub returns : goal.returns
returns g c =
    let run = c.run_recorded in
    let on = run.ensures.on in
    let limited = c.new-reader.ensures in
    let outlet = c.new-writer.ensures in
    let made = c.of-status.ensures in
    let name = sym (run.ensures.same_reference ∙ limited.same_reference) in
    let write_name = sym (on.same_reference ∙ outlet.same_reference) in
    let input = c.input-1.given.0 in
    let output = c.output-1.given.0 in
    let read : run.new.reader.inner.now ≡ input = sym (search (rules, name)) in
    let written : run.result.0.inner.now ≡ output = sym (search (rules, write_name)) in
    let ready = c.in-Ok.ensures in
    let ran = rw (
      ap g.R.Read.remaining limited.same,
      ap g.R.Read.remaining read,
      ap g.W.Write.contents outlet.same,
      ap g.W.Write.contents written,
      ready.policy,
      ready.queue.capacity,
      ready.delivery,
      ready.queue.opening_is,
    ) at run.ensures.ran in
    let writer = c.new-writer.result in
    let status = c.of-status.result in record {
      ended = inl (record {
        came = ran.came;
        sent = ran.sent;
        consumed = ran.consumed;
        appended = ran.appended;
        holds = record {
          between = c.begin.new.self;
          began = search (rules, c.begin.ensures.begun, c.is_err.ensures, c.if-is_err.false);
          report = run.result.1;
          ran = ran.holds;
          begun = run.ensures.begun;
          reader = run.new.reader;
          read = read;
          reason = subst (λ (state : ReaderState). IsReason state run.new.reader run.result.1.session) limited.unread run.ensures.reason;
          status = run.result.0.status.now;
          written_first = first_is writer run.result.0 status c.args.output.now on outlet.status outlet.same made.first;
          written_last = last_is writer run.result.0 status c.args.output.now on outlet.status outlet.same made.last ∙ written;
          write_reason = tells writer run.result.0 status c.args.output.now on outlet.status outlet.same run.result.1.session made.«open» run.ensures.write_reason;
          outcome = c.result.ensures;
        };
      });
    }
