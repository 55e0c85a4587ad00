use Rattle.std.proofs.Common.{rules, take, drop, sym, take-append-drop}
use Rattle.tcel_io.proofs.mem_sink.MemSinkSink.put.Goals as goal

pub returns-then-is_some-clause-cut_off : goal.returns-then-is_some-clause-cut_off
returns-then-is_some-clause-cut_off c =
    let piece = c.args.piece.now in
    let count = c.min-count.result in
    record {
      part = record { told = (take count piece, (drop count piece, sym (take-append-drop count piece)), search rules) };
      fault = search rules;
      counted = search rules;
      reach = search rules;
    }
