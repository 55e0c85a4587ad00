use Rattle.std.proofs.Common.{◌≡◌, ◌∙◌, sym, ap, Err, List, Bor}
use Rattle.std.proofs.lemmas.Result.{err_from_is_err_and}
use Rattle.tcel_token.specs.declared.token.Token.{Token}
use Rattle.tcel_token.specs.Terminal.{terminal, terminals}
use Rattle.tcel_grammar.specs.Machine.{deep}
use Rattle.tcel_parse.specs.declared.fail.Stop.{Stop}
use Rattle.tcel_parse.specs.Reading.{left}
use Rattle.tcel_parse.proofs.Reaches.{first_of_rest, head_of, reach_reads, reach_deep, gives_deep}
use Rattle.tcel_parse.proofs.parser.Parser.take.Goals as goal

pub returns-in_ok-enter-in-len1-up-clause-head : goal.returns-in_ok-enter-in-len1-up-clause-head
returns-in_ok-enter-in-len1-up-clause-head c =
    let e = first_of_rest c.args.self.now.rest.now c.first-item.result c.in-len1-up.len_at_least c.first-item.is in
    (c.first-item.result.kind, head_of (terminal c.first-item.result) e)

pub returns-in_ok-enter-in-len1-up-clause-run : goal.returns-in_ok-enter-in-len1-up-clause-run
returns-in_ok-enter-in-len1-up-clause-run c = λ x after f k.
    let e = first_of_rest c.args.self.now.rest.now c.first-item.result c.in-len1-up.len_at_least c.first-item.is in
    reach_reads c.args.self.now _ x k after (terminal c.first-item.result) e f c.in_ok-enter-in-len1-up.ensures.cases

pub returns-in_err-enter-in-len1-up-clause-run : goal.returns-in_err-enter-in-len1-up-clause-run
returns-in_err-enter-in-len1-up-clause-run c = λ x after f k.
    let e = first_of_rest c.args.self.now.rest.now c.first-item.result c.in-len1-up.len_at_least c.first-item.is in
    let h = c.in_err-enter-in-len1-up.ensures.cases in
    let p = err_from_is_err_and c.from_residual.result c.from_residual.ensures.1 in
    let same : c.from_residual.result ≡ Err (Stop.TooDeep h.0) = cc in
    let rest : left c.args.self.now ≡ left c.enter.new.self = ap (λ (r : Bor (List Token)). terminals r.now) (sym c.in_err-enter-in-len1-up.ensures.rest) in
    gives_deep c.from_residual.result h.0 _ _ _ same (reach_deep c.args.self.now x k after (terminal c.first-item.result) _ h.0 e f h.2 ∙ ap (deep h.0) rest)
