use Rattle.std.proofs.Common.{◌≡◌, List, refl, ap, subst}
use Rattle.tcel_token.specs.Terminal.{Terminal, terminals}
use Rattle.tcel_tree.specs.Plain.{plain_program}
use Rattle.tcel_grammar.specs.Faults.{place_of}
use Rattle.tcel_grammar.specs.Programs.{IsProgram}
use Rattle.tcel_parse.specs.declared.fail.ParseFail.{ParseFail}
use Rattle.tcel_parse.specs.Reading.{left, fault_of}
use Rattle.tcel_parse.proofs.Ending.{accepted_parse, syntax_parse, deep_parse}
use Rattle.tcel_parse.proofs.parsing.parse.Goals as goal

pub returns-in-Ok-clause-ok : goal.returns-in-Ok-clause-ok
returns-in-Ok-clause-ok c =
    let e = ap terminals c.as_slice.ensures in
    let P : List Terminal → Type 0 = λ ts. IsProgram ts (plain_program c.in-Ok.program) in
    record { program = subst P e c.in-Ok.ensures.tree; shallow = accepted_parse _ c.in-Ok.ensures.run _ c.args.tokens.now.end e refl refl }

pub returns-in-Err-clause-syntax : goal.returns-in-Err-clause-syntax
returns-in-Err-clause-syntax c = λ at h.
    let e = ap terminals c.as_slice.ensures in
    let f : fault_of c.in-Err.stop (place_of (left c.program.new.self) c.args.tokens.now.end) ≡ ParseFail.Syntax at = cc in
    syntax_parse _ c.in-Err.stop _ c.in-Err.ensures.run _ c.args.tokens.now.end at e refl refl f

pub returns-in-Err-clause-deep : goal.returns-in-Err-clause-deep
returns-in-Err-clause-deep c = λ at what h.
    let e = ap terminals c.as_slice.ensures in
    let f : fault_of c.in-Err.stop (place_of (left c.program.new.self) c.args.tokens.now.end) ≡ ParseFail.TooDeep at what = cc in
    deep_parse _ c.in-Err.stop _ c.in-Err.ensures.run _ c.args.tokens.now.end at what e refl refl f
