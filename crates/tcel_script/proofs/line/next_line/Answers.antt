use Rattle.std.proofs.Common.{◌+◌, sym, ◌∙◌}
use Rattle.std.proofs.Math.Seq.{take-length, drop-length}
use Rattle.std.proofs.lemmas.List.{take_rest}
use Rattle.tcel_script.proofs.Cuts.{first_line, last_line}
use Rattle.tcel_script.proofs.line.next_line.Goals as goal

pub returns-in-None-clause-value : goal.returns-in-None-clause-value
returns-in-None-clause-value c =
    rw (c.split_at.ensures.front, c.split_at.ensures.back, take-length, drop-length)
    (last_line c.args.bytes.now c.requires (sym c.line_feed.ensures ∙ c.in-None.is))

pub returns-in-Some-clause-value : goal.returns-in-Some-clause-value
returns-in-Some-clause-value c =
    rw (c.without_return.ensures, take_rest c.args.bytes.now (c.in-Some.end + 1))
    (first_line c.args.bytes.now c.in-Some.end (sym c.line_feed.ensures ∙ c.in-Some.is))
