use Rattle.std.proofs.Common.{◌≡◌, ◌+◌, pos, length, get_or, ◌<◌, map, drop, sym, ap, ◌∙◌, subst, arith, to_z, of_z}
use Rattle.std.specs.Prelude.{FitsSigned}
use Rattle.std.specs.Int.{w64}
use Rattle.std.proofs.lemmas.Int.{to_z-of_z}
use Rattle.tcel_num.specs.Arithmetic.{holds}
use Rattle.tcel_core.specs.Evaluation.{Left}
use Rattle.tcel_core.specs.Language.{Window}
use Rattle.tcel_core.proofs.PlainLaws.{plain_item-copy, plain_item-while, plain_stmt-timed}
use Rattle.tcel_core.specs.Meaning.{exec, exec_act, exec_stmt, value}
use Rattle.tcel_core.specs.Outcome.{Memory}
use Rattle.tcel_core.specs.Plain.{block_of, plain_body, plain_expr, plain_item, plain_stmt}
use Rattle.tcel_core.specs.Scope.{ActFits, Fits}
use Rattle.tcel_core.specs.declared.body.CoreStmt as core_stmt
use Rattle.tcel_core.specs.declared.body.Item as core_item
use Rattle.tcel_core.proofs.Evaluation.{Goes, goes_on, left_block, behind_both, one_turn, one_round, no_round, statements_next, if_ok_by}
use Rattle.tcel_core.proofs.Scope.{array_within}
use Rattle.tcel_core.proofs.evaluate.+evaluate.Goals as goal

pub run_item-set_element-requires : goal.run_item-set_element-requires
run_item-set_element-requires t c =
    let within = array_within c.args.layout.now c.in-AssignAt.array in
    omega (arith, within, c.place-in-AssignAt.ensures, c.width.ensures, c.requires.words)

pub run_item-copy-requires-clause-from : goal.run_item-copy-requires-clause-from
run_item-copy-requires-clause-from t c =
    let within = array_within c.args.layout.now c.in-Copy.from in
    omega (arith, within, c.place-in-Copy.ensures, c.width-in-Copy.ensures, c.requires.words)

pub run_item-copy-requires-clause-to : goal.run_item-copy-requires-clause-to
unfolding core_item.roll-Item denote.Hole.Carrier.roll
run_item-copy-requires-clause-to t c =
    let within = array_within c.args.layout.now c.in-Copy.to in
    let alike = subst (λ a. ActFits a c.args.layout.now) (plain_item-copy c.in-Copy.from c.in-Copy.to) (subst (λ i. ActFits (plain_item i) c.args.layout.now) c.in-Copy.is c.requires.fits) in
    omega (arith, within, alike.same, c.place-in-Copy-2.ensures, c.width-in-Copy.ensures, c.requires.words)

pub run_body-loop-stmt-preserved : goal.run_body-loop-stmt-preserved
run_body-loop-stmt-preserved t c =
    let list = c.args.body.now.list in
    let vars = c.args.layout.now in
    let now = c.loop-stmt.invariant in
    let same = c.as_slice-stmt-items.ensures in
    let less = subst (λ l. c.loop-stmt.stmt-index < length l) same c.loop-stmt-test.true in
    let is = subst (λ l. c.stmt-item.result ≡ get_or l c.loop-stmt.stmt-index c.stmt-item.result) same c.stmt-item.is in
    let left = statements_next list c.loop-stmt.stmt-index c.stmt-item.result less is in
    let fits = subst (λ b. Fits b vars) left now.0 in
    let goes = subst (λ b. Goes c.args.bounds.now c.args.events.now.items (exec (plain_body c.args.body.now) vars (record { cells = c.args.cells.now; inputs = c.args.inputs.now }))
    c.loop-stmt.events.items (exec b vars (record { cells = c.loop-stmt.cells; inputs = c.loop-stmt.inputs }))) left now.3 in
    let rest = block_of (map plain_stmt (drop (c.loop-stmt.stmt-index + 1) list)) in (
      fits.1,
      c.run_stmt.ensures.words,
      behind_both now.2 c.run_stmt.ensures.kept,
      goes_on (exec rest vars) goes c.in_ok-run_stmt.ensures.ok now.2.entered,
    )

pub run_item-loop-turn-preserved : goal.run_item-loop-turn-preserved
run_item-loop-turn-preserved t c =
    let now = c.loop-turn.invariant in
    let fits : FitsSigned w64 (pos c.loop-turn.turn) = omega arith in
    let number = ap (λ z. to_z w64 (of_z w64 z)) c.from.ensures ∙ to_z-of_z w64 (pos c.loop-turn.turn) fits in (
      c.run_body.ensures.words,
      behind_both now.1 c.run_body.ensures.kept,
      one_turn (record { cells = c.args.cells.now; inputs = c.args.inputs.now }) (plain_body c.in-For.body) c.args.layout.now c.in-For.var c.loop-turn.turn _ _ c.place-in-loop-turn.ensures number now.2 c.in_ok-run_body-in-For.ensures.ok c.requires.entered,
    )

pub run_item-loop-left-preserved : goal.run_item-loop-left-preserved
run_item-loop-left-preserved t c =
    let now = c.loop-left.invariant in (
      c.run_body-in-loop-left.ensures.words,
      behind_both now.1 c.run_body-in-loop-left.ensures.kept,
      one_round (λ k. holds (value (plain_expr c.in-While.test) c.args.layout.now k.cells)) (exec (plain_body c.in-While.body) c.args.layout.now) c.loop-left.left
          (omega arith) (sym c.is_met.ensures ∙ c.if-is_met.true) now.2 c.in_ok-run_body-in-While.ensures.ok now.1.entered,
    )

pub run_item-returns-else-is_met-clause-ok : goal.run_item-returns-else-is_met-clause-ok
unfolding core_item.roll-Item denote.Hole.Carrier.roll
run_item-returns-else-is_met-clause-ok t c =
    let now = c.loop-left.invariant in
    let vars = c.args.layout.now in
    let m : Memory = record { cells = c.args.cells.now; inputs = c.args.inputs.now } in
    subst (λ i. Left c.args.bounds.now c.args.events.now.items (exec_act (plain_item i) vars m) c.loop-left.cells c.loop-left.inputs c.loop-left.events.items) (sym c.in-While.is)
    (subst (λ a. Left c.args.bounds.now c.args.events.now.items (exec_act a vars m) c.loop-left.cells c.loop-left.inputs c.loop-left.events.items)
    (sym (plain_item-while c.in-While.test c.in-While.turns c.in-While.body))
    (no_round (λ k. holds (value (plain_expr c.in-While.test) vars k.cells)) (exec (plain_body c.in-While.body) vars) c.loop-left.left
    (sym c.is_met.ensures ∙ c.if-is_met.false) now.2))

pub run_stmt-returns-in-Do-clause-ok : goal.run_stmt-returns-in-Do-clause-ok
unfolding core_stmt.roll-CoreStmt denote.Hole.Carrier.roll
run_stmt-returns-in-Do-clause-ok t c =
    let vars = c.args.layout.now in
    let before = c.args.events.now.items in
    let m : Memory = record { cells = c.args.cells.now; inputs = c.args.inputs.now } in
    let window : Window = record { after = c.in-Do.after; before = c.in-Do.before; within = c.in-Do.within } in
    let r = exec (plain_body c.in-Do.body) vars m in
    let new = c.run_body-in-Do.new in
    let inside : c.len.result ≡ length before = omega (arith, c.len.ensures) in
    if_ok_by c.run_body-in-Do.result
    (λ l. subst (λ s. Left c.args.bounds.now before (exec_stmt (plain_stmt s) vars m) new.cells new.inputs new.events.items) (sym c.in-Do.is)
    (subst (λ s. Left c.args.bounds.now before (exec_stmt s vars m) new.cells new.inputs new.events.items)
    (sym (plain_stmt-timed c.in-Do.id c.in-Do.after c.in-Do.before c.in-Do.within c.in-Do.body))
    (left_block c.in-Do.id window inside (subst (λ b. Left b before r new.cells new.inputs new.events.items) c.narrowed-inner.ensures l))))
    c.run_body-in-Do.ensures.ok
