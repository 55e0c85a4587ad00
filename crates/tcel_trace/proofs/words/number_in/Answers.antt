use Rattle.std.proofs.Common.{sym, ◌∙◌}
use Rattle.tcel_trace.proofs.WordTexts.{no_utf8_number, failed_number, same_number, other_number}
use Rattle.tcel_trace.proofs.words.number_in.Goals as goal

pub returns-in_default : goal.returns-in_default
returns-in_default c = no_utf8_number c.args.word.now c.in_default.ensures.cases.0

pub returns-in_default-parse : goal.returns-in_default-parse
returns-in_default-parse c =
    failed_number c.args.word.now c.in-Ok.text.now
    c.parse.result c.in_default-parse.field-0 c.in-Ok.ensures.cases.0 c.parse.ensures.value.0 c.in_default-parse.is

pub returns-then-eq : goal.returns-then-eq
returns-then-eq c =
    same_number c.args.word.now c.in-Ok.text.now c.as_bytes.result.now c.parse.result c.in-Ok-parse.number c.parse.ensures.value.0 c.in-Ok-parse.is
    (c.as_bytes.ensures.value ∙ c.format.ensures.text) (sym c.eq.ensures ∙ c.if-eq.true)

pub returns-else-eq : goal.returns-else-eq
returns-else-eq c =
    other_number c.args.word.now c.in-Ok.text.now c.as_bytes.result.now
    c.parse.result c.in-Ok-parse.number c.in-Ok.ensures.cases.0 c.parse.ensures.value.0 c.in-Ok-parse.is
    (c.as_bytes.ensures.value ∙ c.format.ensures.text) (sym c.eq.ensures ∙ c.if-eq.false)
