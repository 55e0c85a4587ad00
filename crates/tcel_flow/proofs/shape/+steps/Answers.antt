use Rattle.std.proofs.Common.{◌≡◌, ◌<◌, ◌≤◌, [], ◌∷◌, ◌++◌, map, length, get_or, sym, subst}
use Rattle.tcel_flow.specs.Shape.{Extends, opens, changes, closes, places, stmt_places}
use Rattle.tcel_core.specs.Plain.{block_of, plain_body, plain_expr, plain_stmt}
use Rattle.tcel_core.specs.declared.body.CoreStmt as core_stmt
use Rattle.tcel_core.proofs.PlainLaws.{plain_body-list, plain_stmt-choice}
use Rattle.tcel_flow.proofs.Extending.{extends_push, extends_then, places_more, take_all}
use Rattle.tcel_flow.proofs.shape.+steps.Goals as goal

pub push_body-loop-stmt-preserved : goal.push_body-loop-stmt-preserved
push_body-loop-stmt-preserved t c =
    let same = c.as_slice-stmt-items.ensures in
    let less = subst (λ l. c.loop-stmt.stmt-index < length l) same c.loop-stmt-test.true in
    let is = subst (λ l. c.stmt-item.result ≡ get_or l c.loop-stmt.stmt-index c.stmt-item.result) same c.stmt-item.is in
    rw (places_more c.args.body.now.list c.loop-stmt.stmt-index c.stmt-item.result less is)
    (extends_then c.args.shape.now c.loop-stmt.shape c.push_stmt.new.shape _ _ c.loop-stmt.invariant c.in_ok-push_stmt.ensures)

pub push_body-returns : goal.push_body-returns
push_body-returns t c =
    let past = subst (λ l. length l ≤ c.loop-stmt.stmt-index) c.as_slice-stmt-items.ensures c.loop-stmt-test.false in
    let most = subst (λ l. c.loop-stmt.stmt-index ≤ length l) c.as_slice-stmt-items.ensures c.loop-stmt.auto.stmt-index-end in
    rw (plain_body-list c.args.body.now)
    (subst (λ l. Extends c.args.shape.now c.loop-stmt.shape (places (block_of (map plain_stmt l)))) (take_all c.args.body.now.list c.loop-stmt.stmt-index past most) c.loop-stmt.invariant)

pub push_stmt-returns-in_ok-push-in-If-3 : goal.push_stmt-returns-in_ok-push-in-If-3
unfolding core_stmt.roll-CoreStmt denote.Hole.Carrier.roll
push_stmt-returns-in_ok-push-in-If-3 t c =
    let old = c.args.shape.now in
    let a = c.push-in-If.new.self in
    let b = c.push_body.new.shape in
    let d = c.push-in-If-2.new.self in
    let e = c.push_body-in-If.new.shape in
    let f = c.push-in-If-3.new.self in
    let first : Extends old a (opens c.in-If.id (plain_expr c.in-If.test) ∷ []) =
    subst (λ l. Extends old l (opens c.in-If.id (plain_expr c.in-If.test) ∷ [])) (sym c.in_ok-push-in-If.ensures.ok)
    (extends_push old c.open_step.result (opens c.in-If.id (plain_expr c.in-If.test)) c.open_step.ensures)
    in let third : Extends b d (changes ∷ []) =
    subst (λ l. Extends b l (changes ∷ [])) (sym c.in_ok-push-in-If-2.ensures.ok) (extends_push b _ changes tt)
    in let fifth : Extends e f (closes ∷ []) =
    subst (λ l. Extends e l (closes ∷ [])) (sym c.in_ok-push-in-If-3.ensures.ok) (extends_push e _ closes tt)
    in let whole =
    extends_then old a f (opens c.in-If.id (plain_expr c.in-If.test) ∷ []) (places (plain_body c.in-If.yes) ++ (changes ∷ (places (plain_body c.in-If.no) ++ (closes ∷ [])))) first
    (extends_then a b f (places (plain_body c.in-If.yes)) (changes ∷ (places (plain_body c.in-If.no) ++ (closes ∷ []))) c.in_ok-push_body-in-If.ensures
    (extends_then b d f (changes ∷ []) (places (plain_body c.in-If.no) ++ (closes ∷ [])) third
    (extends_then d e f (places (plain_body c.in-If.no)) (closes ∷ []) c.in_ok-push_body-in-If-2.ensures fifth)))
    in subst (λ s. Extends old f (stmt_places (plain_stmt s))) (sym c.in-If.is)
    (subst (λ s. Extends old f (stmt_places s)) (sym (plain_stmt-choice c.in-If.id c.in-If.test c.in-If.yes c.in-If.no)) whole)
