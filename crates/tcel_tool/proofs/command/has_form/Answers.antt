use Rattle.std.proofs.Common.{◌≡◌, ◌∙◌, ◌-◌, length, map, take, drop, arith, subst}
use Rattle.std.specs.Prelude.{string_bytes}
use Rattle.tcel_tool.specs.CommandLine.{fit}
use Rattle.tcel_tool.specs.Commands.{name_of, slots_of}
use Rattle.tcel_tool.proofs.Forms.{has_words}
use Rattle.tcel_tool.proofs.command.has_form.Goals as goal

pub returns-then-is_word : goal.returns-then-is_word
returns-then-is_word c =
    let words = c.args.words.now in
    has_words string_bytes words c.name-item.result (name_of c.args.command) (slots_of c.args.command) c.fit.result (omega arith) c.name-item.is
    (c.is_word.ensures.0 c.if-is_word.true ∙ c.name.ensures)
    (subst (λ s. c.fit.result ≡ fit s (map string_bytes (take (length words - 1) (drop 1 words)))) c.slots.ensures c.fit.ensures)
