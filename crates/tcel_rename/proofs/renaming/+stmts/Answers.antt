use Rattle.std.proofs.Common.{◌∙◌, ◌≤◌, length, map, sym, ap, subst}
use Rattle.tcel_core.specs.Parts.{renamed_block, renamed_stmt}
use Rattle.tcel_core.specs.Plain.{block_of, plain_stmt}
use Rattle.tcel_core.proofs.PlainLaws.{plain_body-list}
use Rattle.tcel_flow.proofs.Extending.{take_all}
use Rattle.tcel_rename.specs.Renaming.{number_in}
use Rattle.tcel_rename.proofs.RenamedAll.{plain_body-roll, renamed_all}
use Rattle.tcel_rename.proofs.renaming.+stmts.Goals as goal

pub renamed_body-returns : goal.renamed_body-returns
renamed_body-returns t c =
    let f = number_in c.args.numbers.now in
    let xs = c.as_slice-stmt-items.result.now in
    let same = c.as_slice-stmt-items.ensures in
    let past = subst (λ l. length l ≤ c.loop-stmt.stmt-index) same c.loop-stmt-test.false in
    let most = subst (λ l. c.loop-stmt.stmt-index ≤ length l) same c.loop-stmt.auto.stmt-index-end in
    plain_body-roll c.loop-stmt.list
    ∙ (ap block_of (c.loop-stmt.invariant ∙ ap (map (λ x. renamed_stmt f (plain_stmt x))) (take_all c.args.body.now.list c.loop-stmt.stmt-index past most))
    ∙ (renamed_all f c.args.body.now.list ∙ ap (renamed_block f) (sym (plain_body-list c.args.body.now))))
