use Rattle.std.proofs.Common.{◌≡◌, ◌∙◌, rules, [], ◌∷◌, subst, sym}
use Rattle.std.specs.Prelude.{Ok}
use Rattle.system_calls.specs.Call.{fill_random}
use Rattle.socket_wire.specs.History.{Lives, begins}
use Rattle.socket_wire.specs.Seen.{SeenSockets}
use Rattle.socket_wire.proofs.wire.MioWire.new.Goals as goal

pub returns-clause-opened : goal.returns-clause-opened
returns-clause-opened g c =
    let filled : c.fill_random-filled.result ≡ Ok tt = search rules in
    let seed : c.in_ok-kept_if.field-0 ≡ c.fill_random-filled.new.octets = search rules in
    let words : c.new-2.result.sockets.words ≡ c.new-words.result = search rules in
    let calls : c.fill_random-filled.new.self
    ≡ fill_random c.fill_random-filled.new.octets (Ok tt) ∷ [] = search rules in
    record {
      seed = c.fill_random-filled.new.octets;
      datagrams = c.in_ok-sockets.sockets.datagrams;
      listener = c.in_ok-sockets.sockets.listener;
      opened = c.in_ok-sockets.sockets.calls;
      started = c.in_ok-moments.moments.started;
      has_32 = search rules;
      random = search rules;
      none_given = search rules;
      opens = rw calls at c.in_ok-sockets.ensures.opens;
      clock = search rules;
    }

pub invariant_of-result : goal.invariant_of-result
invariant_of-result g c = λ few.
    let filled : c.fill_random-filled.result ≡ Ok tt = search rules in
    let seed : c.in_ok-kept_if.field-0 ≡ c.fill_random-filled.new.octets = search rules in
    let calls : c.fill_random-filled.new.self
    ≡ fill_random c.fill_random-filled.new.octets (Ok tt) ∷ [] = search rules in
    let new = c.in_ok-sockets.ensures.new in
    subst (λ (sockets : SeenSockets g.row.A.Denot). Lives (record {
      sockets = sockets;
      started = c.in_ok-moments.moments.started;
      last = c.in_ok-moments.moments.last;
      is_read = c.in_ok-moments.moments.is_read;
      log = c.new-2.result.log;
      given = c.in_ok-moments.moments.given.calls;
    })) (sym {b = record c.in_ok-sockets.sockets { calls = c.started.new.self.calls }} (c.new-2.ensures.0 ∙ c.started.ensures.rest))
    (begins (record {
      listen = c.args.listen;
      seed = c.fill_random-filled.new.octets;
      opened = c.in_ok-sockets.sockets.calls;
      has_32 = search rules;
      random = search rules;
      none_given = search rules;
      are_new = record { ready = new.ready; connections = new.connections; asks = new.asks; numbers = new.numbers };
      opens = rw calls at c.in_ok-sockets.ensures.opens;
      clock = search rules;
      first = search rules;
      log = search rules;
      given = search rules;
    }))
