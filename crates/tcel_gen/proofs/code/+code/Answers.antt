use Rattle.std.proofs.Common.{◌≡◌, ◌+◌, ◌++◌, ◌<◌, ◌≤◌, List, length, get_or, map, drop, sym, ap, ◌∙◌, subst}
use Rattle.std.proofs.lemmas.List.{append-nil, drop_all}
use Rattle.tcel_core.specs.Contents.{loops, stmt_loops}
use Rattle.tcel_core.specs.Plain.{block_of, plain_body, plain_expr, plain_item, plain_stmt}
use Rattle.tcel_core.specs.declared.body.CoreStmt as core_stmt
use Rattle.tcel_core.specs.declared.body.Item as core_item
use Rattle.tcel_core.specs.declared.body.CoreStmt.{CoreStmt}
use Rattle.tcel_core.proofs.Evaluation.{statements_next}
use Rattle.tcel_core.proofs.PlainLaws.{plain_item-while, plain_stmt-choice, plain_stmt-timed}
use Rattle.tcel_core.specs.Language.{Window}
use Rattle.tcel_code.specs.Code.{act_code, block_code, stmt_code}
use Rattle.tcel_code.specs.Counters.{behind, in_order}
use Rattle.tcel_gen.specs.Codable.{IsCodable}
use Rattle.tcel_gen.specs.Seen.{counters_at}
use Rattle.tcel_gen.proofs.CodeSteps.{behind_both, choice_put, code_step, nothing_behind, timed_put, while_put}
use Rattle.tcel_gen.proofs.code.+code.Goals as goal

pub push_body-loop-stmt-preserved : goal.push_body-loop-stmt-preserved
push_body-loop-stmt-preserved t c =
    let list = c.args.body.now.list in
    let same = c.as_slice-stmt-items.ensures in
    let less = subst (λ l. c.loop-stmt.stmt-index < length l) same c.loop-stmt-test.true in
    let is = subst (λ l. c.stmt-item.result ≡ get_or l c.loop-stmt.stmt-index c.stmt-item.result) same c.stmt-item.is in
    let left = statements_next list c.loop-stmt.stmt-index c.stmt-item.result less is in
    let s = plain_stmt c.stmt-item.result in
    let rest = block_of (map plain_stmt (drop (c.loop-stmt.stmt-index + 1) list)) in
    let vars = c.args.cells.now.places in
    let k = counters_at c.args.cells.now c.args.in_loop c.loop-stmt.next in
    let start = counters_at c.args.cells.now c.args.in_loop c.args.cell in
    let put = c.in_ok-next.ensures in
    let now = c.loop-stmt.invariant in (
      (subst IsCodable left now.0).1,
      code_step vars c.loop-stmt.code c.push_stmt.new.code s rest k (counters_at c.args.cells.now c.args.in_loop c.in_ok-next.next) put.code put.behind
          ∙ subst (λ b. c.loop-stmt.code ++ block_code b vars (length c.loop-stmt.code) k ≡ c.args.code.now ++ block_code (plain_body c.args.body.now) vars (length c.args.code.now) start) left now.1,
      ap (λ z. behind z (loops rest)) put.behind ∙ behind_both k (stmt_loops s) (loops rest) ∙ subst (λ b. behind k (loops b) ≡ behind start (loops (plain_body c.args.body.now))) left now.2,
    )

pub push_body-returns-clause-code : goal.push_body-returns-clause-code
push_body-returns-clause-code t c =
    let past = subst (λ l. length l ≤ c.loop-stmt.stmt-index) c.as_slice-stmt-items.ensures c.loop-stmt-test.false in
    let k = counters_at c.args.cells.now c.args.in_loop c.loop-stmt.next in
    let none = ap (λ (l : List CoreStmt). c.loop-stmt.code ++ block_code (block_of (map plain_stmt l)) c.args.cells.now.places (length c.loop-stmt.code) k) (drop_all c.loop-stmt.stmt-index c.args.body.now.list past) in
    sym (append-nil c.loop-stmt.code) ∙ sym none ∙ c.loop-stmt.invariant.1

pub push_body-returns-clause-behind : goal.push_body-returns-clause-behind
push_body-returns-clause-behind t c =
    let past = subst (λ l. length l ≤ c.loop-stmt.stmt-index) c.as_slice-stmt-items.ensures c.loop-stmt-test.false in
    let k = counters_at c.args.cells.now c.args.in_loop c.loop-stmt.next in
    let none = ap (λ (l : List CoreStmt). behind k (loops (block_of (map plain_stmt l)))) (drop_all c.loop-stmt.stmt-index c.args.body.now.list past) in
    nothing_behind k ∙ sym none ∙ c.loop-stmt.invariant.2

pub push_stmt-returns-in_ok-end_choice-in-If-clause-code : goal.push_stmt-returns-in_ok-end_choice-in-If-clause-code
unfolding core_stmt.roll-CoreStmt denote.Hole.Carrier.roll
push_stmt-returns-in_ok-end_choice-in-If-clause-code t c =
    let old = c.args.code.now in
    let new = c.end_choice.new.code in
    let vars = c.args.cells.now.places in
    let k = counters_at c.args.cells.now c.args.in_loop c.args.cell in
    let begun = c.in_ok-branch-in-If.ensures in
    let first = c.in_ok-between-in-If.ensures in
    let parted = c.in_ok-jump-in-If.ensures in
    subst (λ s. new ≡ old ++ stmt_code (plain_stmt s) vars (length old) k) (sym c.in-If.is)
    (subst (λ s. new ≡ old ++ stmt_code s vars (length old) k) (sym (plain_stmt-choice c.in-If.id c.in-If.test c.in-If.yes c.in-If.no))
    (choice_put c.in-If.id (plain_expr c.in-If.test) (plain_body c.in-If.yes) vars k old c.begin_choice.new.code c.in_ok-branch-in-If.branch begun.code begun.branch
    (plain_body c.in-If.no) c.has_statements-other.result (counters_at c.args.cells.now c.args.in_loop c.in_ok-between-in-If.between)
    c.push_body.new.code c.part_choice.new.code c.push_body-in-If.new.code new c.in_ok-jump-in-If.jump
    c.has_statements-other.ensures first.code parted.jump parted.code first.behind c.in_ok-end-in-If.ensures.code c.in_ok-end_choice-in-If.ensures))

pub push_stmt-returns-in_ok-end-in-Do-clause-code : goal.push_stmt-returns-in_ok-end-in-Do-clause-code
unfolding core_stmt.roll-CoreStmt denote.Hole.Carrier.roll
push_stmt-returns-in_ok-end-in-Do-clause-code t c =
    let old = c.args.code.now in
    let new = c.push_body-in-Do.new.code in
    let vars = c.args.cells.now.places in
    let k = counters_at c.args.cells.now c.args.in_loop c.args.cell in
    let window : Window = record { after = c.in-Do.after; before = c.in-Do.before; within = c.in-Do.within } in
    subst (λ s. new ≡ old ++ stmt_code (plain_stmt s) vars (length old) k) (sym c.in-Do.is)
    (subst (λ s. new ≡ old ++ stmt_code s vars (length old) k) (sym (plain_stmt-timed c.in-Do.id c.in-Do.after c.in-Do.before c.in-Do.within c.in-Do.body))
    (timed_put c.in-Do.id window (plain_body c.in-Do.body) vars k old c.push_hold.new.code new c.in_ok-push_hold-in-Do.ensures c.in_ok-end-in-Do.ensures.code))

pub push_item-returns-in_ok-end_while-in-While-clause-code : goal.push_item-returns-in_ok-end_while-in-While-clause-code
unfolding core_item.roll-Item denote.Hole.Carrier.roll
push_item-returns-in_ok-end_while-in-While-clause-code t c =
    let old = c.args.code.now in
    let new = c.end_while.new.code in
    let vars = c.args.cells.now.places in
    let begun = c.in_ok-top-in-While.ensures in
    let tested = c.in_ok-branch-in-While.ensures in
    let body = plain_body c.in-While.body in
    let inner = c.begin_choice.new.code in
    subst (λ i. new ≡ old ++ act_code (plain_item i) vars (length old) c.args.counter) (sym c.in-While.is)
    (subst (λ a. new ≡ old ++ act_code a vars (length old) c.args.counter) (sym (plain_item-while c.in-While.test c.in-While.turns c.in-While.body))
    (while_put (plain_expr c.in-While.test) c.in-While.turns body vars c.args.counter c.in_ok-top-in-While.top c.in_ok-branch-in-While.branch
    old c.begin_while.new.code inner c.push_body-in-While.new.code c.push_line-in-While.new.code new
    begun.code begun.top tested.code tested.branch
    (c.in_ok-end-in-While.ensures.code ∙ ap (λ n. inner ++ block_code body vars (length inner) (in_order n)) c.in_ok-one_more-in-While.ensures)
    c.in_ok-push_line-in-While.ensures c.in_ok-end_while-in-While.ensures))
