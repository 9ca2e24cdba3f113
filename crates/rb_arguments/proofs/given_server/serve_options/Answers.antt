-- Each number was read in its range, and the port's is a port.
use Rattle.std.proofs.Common.{rules, ◌≤◌, IfSome}
use Rattle.std.proofs.lemmas.Option.{IfSome_then}
use Rattle.rb_arguments.proofs.given_server.serve_options.Goals as goal

pub invariant_of-result : goal.invariant_of-result
invariant_of-result c =
    let from_one : 1 ≤ c.in_ok-port.port = search rules in
    let silent_from_one : IfSome c.in_ok-silent.silent (λ silent. 1 ≤ silent) =
    IfSome_then c.in_ok-silent.silent c.in_ok-silent.ensures.range (λ silent range. range.0) in record {
      port_from_one = from_one;
      sessions_from_one = c.in_ok-sessions.ensures.range.0;
      sessions_in_range = c.in_ok-sessions.ensures.range.1;
      turns_in_range = c.in_ok-turns.ensures.range.1;
      socket_in_range = c.in_ok-socket.ensures.range;
      silent_from_one = silent_from_one;
    }

pub returns-clause-given : goal.returns-clause-given
returns-clause-given c = record {
  port = search rules;
  timer = search rules;
  sessions = c.in_ok-sessions.ensures.number;
  turns = c.in_ok-turns.ensures.number;
  socket = c.in_ok-socket.ensures.given;
  until_input_ends = search rules;
  attentive = search rules;
  silent = c.in_ok-silent.ensures.number;
  since = c.in_ok-since.ensures.number;
  run = c.in_ok-run.ensures.given;
}
