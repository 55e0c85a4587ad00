-- The code of expressions on the machine.
use Rattle.std.proofs.Common.{◌≡◌, ℕ, ◌+◌, ◌<◌, Bool, cond, ℤ, List, [], ◌∷◌, ◌++◌, length, refl, sym, ap, ◌∙◌, subst, arith, append_assoc, length-append, Some}
use Rattle.std.specs.Prelude.{slice_get}
use Rattle.std.proofs.Math.Seq.{get_or-append_seam}
use Rattle.std.proofs.lemmas.Bool.{cond-true, cond-false}
use Rattle.std.proofs.lemmas.Option.{slice_get-get_or}
use Rattle.tcel_num.specs.Arithmetic.{holds}
use Rattle.tcel_num.specs.declared.op.Op.{Op}
use Rattle.tcel_num.specs.declared.op.Op.TheVariants.{Mul, Div, Rem}
use Rattle.tcel_core.specs.Cells.{all_words, place, width}
use Rattle.tcel_core.specs.Language.{Expr, number, variable, element, unary, binary}
use Rattle.tcel_core.specs.Meaning.{value}
use Rattle.tcel_core.specs.Scope.{HaveOperands, IsSound}
use Rattle.tcel_core.proofs.Scope.{value_front}
use Rattle.tcel_target.specs.declared.costs.Costs.{Costs}
use Rattle.tcel_target.specs.declared.costs.CostKey.TheVariants as keys
use Rattle.tcel_image.specs.declared.image.Instr.TheVariants.{Const, Get, GetAt, Arith, Branch}
use Rattle.tcel_image.specs.declared.image.Line.{Line}
use Rattle.tcel_target.specs.Costs.{CostsInRange}
use Rattle.tcel_image.specs.Instructions.{operator_cycles}
use Rattle.tcel_code.specs.Code.{at, expr_code}
use Rattle.tcel_cost.specs.Expressions.{expr_cycles}
use Rattle.tcel_code.specs.CodeCycles.{code_cycles}
use Rattle.tcel_code.proofs.CodeCycles.{code_takes, cycles-append}
use Rattle.tcel_code.proofs.Steps.{Setting, AheadAt, ahead_at, ready_at, quiet_step}
use Rattle.tcel_code.proofs.Ahead.{Due, quietly}

-- the lines stand in the code at this place
abbrev pub Stands : List Line → ℕ → List Line → Type 0
Stands code place [] = Unit {0}
Stands code place (line ∷ lines) = (slice_get code place ≡ Some line) × Stands code (place + 1) lines

pub stands_front : (code : List Line) (place : ℕ) (a b : List Line) → Stands code place (a ++ b) → Stands code place a
stands_front code place [] b h = tt
stands_front code place (line ∷ a) b h = (h.0, stands_front code (place + 1) a b h.1)

pub stands_back : (code : List Line) (place : ℕ) (a b : List Line) → Stands code place (a ++ b) → Stands code (place + length a) b
stands_back code place [] b h = let e : place ≡ place + 0 = omega arith in subst (λ n. Stands code n b) e h
stands_back code place (line ∷ a) b h =
    let e : place + 1 + length a ≡ place + length (line ∷ a) = omega arith in
    subst (λ n. Stands code n b) e (stands_back code (place + 1) a b h.1)

-- code stands in itself
pub stands_all : (lines before : List Line) → Stands (before ++ lines) (length before) lines
stands_all [] before = tt
stands_all (line ∷ lines) before =
    let within : length before < length (before ++ line ∷ lines) = omega (arith, length-append before (line ∷ lines)) in
    let here = slice_get-get_or (before ++ line ∷ lines) (length before) line within ∙ ap Some (get_or-append_seam before line lines line) in
    let n : length (before ++ line ∷ []) ≡ length before + 1 = omega (arith, length-append before (line ∷ [])) in
    let rest = stands_all lines (before ++ line ∷ []) in
    let rest' = subst (λ l. Stands l (length (before ++ line ∷ [])) lines) (append_assoc before (line ∷ []) lines) rest in
    (here, subst (λ m. Stands (before ++ line ∷ lines) m lines) n rest')

pub operator_takes : (costs : Costs) → CostsInRange costs → (op : Op) → 0 < operator_cycles costs op
operator_takes costs ranges Mul = (ranges keys.Multiply).0
operator_takes costs ranges Div = (ranges keys.Divide).0
operator_takes costs ranges Rem = (ranges keys.Divide).0
operator_takes costs ranges _ = (ranges keys.Arith).0

module _ (s : Setting) (cells : List ℤ) (taken : List ℕ) (dues : List Due) where
  open s use {costs, ranges, task, vars, frame}

  -- an expression's code leaves the value on the stack
  pub expr_runs : (e : Expr) → HaveOperands e → (depth p ran since : ℕ) (stack : List ℤ) → Stands task.code p (expr_code e vars depth) →
      AheadAt s (ran + code_cycles costs (expr_code e vars depth)) (since + code_cycles costs (expr_code e vars depth))
      (p + length (expr_code e vars depth)) (value e vars cells ∷ stack) cells taken dues →
      AheadAt s ran since p stack cells taken dues
  expr_runs (number n) ok depth p ran since stack stands ahead =
      quiet_step s taken dues (Const n) depth (λ now r. refl) (ranges keys.Const).0 p (p + 1) ran since stack (n ∷ stack) cells cells stands.0 (λ spent. refl)
      (ahead_at s taken dues _ _ _ _ _ _ (n ∷ stack) cells (omega arith) (omega arith) (omega arith) ahead)
  expr_runs (variable v) ok depth p ran since stack stands ahead =
      let x = value (variable v) vars cells in
      quiet_step s taken dues (Get (place vars v)) depth (λ now r. refl) (ranges keys.Load).0 p (p + 1) ran since stack (x ∷ stack) cells cells stands.0 (λ spent. refl)
      (ahead_at s taken dues _ _ _ _ _ _ (x ∷ stack) cells (omega arith) (omega arith) (omega arith) ahead)
  expr_runs (element v i) ok depth p ran since stack stands ahead =
      let index = expr_code i vars depth in
      let get = at (depth + 1) (GetAt (place vars v) (width vars v)) in
      let x = value (element v i) vars cells in
      let all = cycles-append costs index get in
      expr_runs i ok depth p ran since stack (stands_front task.code p index get stands)
      (quiet_step s taken dues (GetAt (place vars v) (width vars v)) (depth + 1) (λ now r. refl) (ranges keys.LoadAt).0 (p + length index) (p + length index + 1)
      (ran + code_cycles costs index) (since + code_cycles costs index) (value i vars cells ∷ stack) (x ∷ stack) cells cells (stands_back task.code p index get stands).0 (λ spent. refl)
      (ahead_at s taken dues _ _ _ _ _ _ (x ∷ stack) cells (omega arith) (omega arith) (omega (arith, length-append index get)) ahead))
  expr_runs (unary op e) ok depth p ran since stack stands ahead =
      let inner = expr_code e vars depth in
      let apply = at (depth + 1) (Arith op) in
      let x = value (unary op e) vars cells in
      let all = cycles-append costs inner apply in
      expr_runs e ok.1 depth p ran since stack (stands_front task.code p inner apply stands)
      (quiet_step s taken dues (Arith op) (depth + 1) (λ now r. refl) (operator_takes costs ranges op) (p + length inner) (p + length inner + 1)
      (ran + code_cycles costs inner) (since + code_cycles costs inner) (value e vars cells ∷ stack) (x ∷ stack) cells cells (stands_back task.code p inner apply stands).0
      (λ spent. ap (λ words. quietly (ready_at costs (p + length inner + 1) words cells frame taken)) (cond-true _ _ _ ok.0))
      (ahead_at s taken dues _ _ _ _ _ _ (x ∷ stack) cells (omega arith) (omega arith) (omega (arith, length-append inner apply)) ahead))
  expr_runs (binary op a b) ok depth p ran since stack stands ahead =
      let first = expr_code a vars depth in
      let second = expr_code b vars (depth + 1) in
      let apply = at (depth + 2) (Arith op) in
      let behind = stands_back task.code p first (second ++ apply) stands in
      let x = value (binary op a b) vars cells in
      let all = cycles-append costs first (second ++ apply) in
      let rest = cycles-append costs second apply in
      expr_runs a ok.1 depth p ran since stack (stands_front task.code p first (second ++ apply) stands)
      (expr_runs b ok.2 (depth + 1) (p + length first) (ran + code_cycles costs first) (since + code_cycles costs first) (value a vars cells ∷ stack) (stands_front task.code (p + length first) second apply behind)
      (quiet_step s taken dues (Arith op) (depth + 2) (λ now r. refl) (operator_takes costs ranges op) (p + length first + length second) (p + length first + length second + 1)
      (ran + code_cycles costs first + code_cycles costs second) (since + code_cycles costs first + code_cycles costs second)
      (value b vars cells ∷ value a vars cells ∷ stack) (x ∷ stack) cells cells (stands_back task.code (p + length first) second apply behind).0
      (λ spent. ap (λ words. quietly (ready_at costs (p + length first + length second + 1) words cells frame taken)) (cond-false _ _ _ ok.0))
      (ahead_at s taken dues _ _ _ _ _ _ (x ∷ stack) cells (omega arith) (omega arith) (omega (arith, length-append first (second ++ apply), length-append second apply)) ahead)))

module _ (s : Setting) where
  open s use {costs, ranges, task, vars, frame, stack}

  -- a sound expression's code, with other words behind those of the variables
  pub value_runs : (e : Expr) → IsSound vars e → (depth p ran since : ℕ) (stack cells others : List ℤ) (taken : List ℕ) (dues : List Due) → length cells ≡ all_words vars → Stands task.code p (expr_code e vars depth) →
      AheadAt s (ran + expr_cycles costs e) (since + expr_cycles costs e) (p + length (expr_code e vars depth)) (value e vars cells ∷ stack) (cells ++ others) taken dues →
      AheadAt s ran since p stack (cells ++ others) taken dues
  value_runs e sound depth p ran since stack cells others taken dues long stands ahead =
      let same = value_front e vars cells others sound.scope long in
      let all = code_takes e vars depth costs in
      let there = p + length (expr_code e vars depth) in
      expr_runs s (cells ++ others) taken dues e sound.operands depth p ran since stack stands
      (subst (λ x. AheadAt s (ran + code_cycles costs (expr_code e vars depth)) (since + code_cycles costs (expr_code e vars depth)) there (x ∷ stack) (cells ++ others) taken dues) (sym same)
      (ahead_at s taken dues _ _ _ _ there there (value e vars cells ∷ stack) (cells ++ others) (omega arith) (omega arith) refl ahead))

  -- a test, which goes on behind it where it holds, and else at the target
  pub test_runs : (test : Expr) → IsSound vars test → (p target ran since : ℕ) (cells others : List ℤ) (taken : List ℕ) (dues : List Due) → length cells ≡ all_words vars →
      Stands task.code p (expr_code test vars 0 ++ at 1 (Branch target)) → (b : Bool) → holds (value test vars cells) ≡ b →
      AheadAt s (ran + (expr_cycles costs test + costs.branch)) (since + (expr_cycles costs test + costs.branch))
      (cond b (p + length (expr_code test vars 0) + 1) target) stack (cells ++ others) taken dues →
      AheadAt s ran since p stack (cells ++ others) taken dues
  test_runs test sound p target ran since cells others taken dues long stands b is ahead =
      let before = expr_code test vars 0 in
      let on = p + length before + 1 in
      value_runs test sound 0 p ran since stack cells others taken dues long (stands_front task.code p before (at 1 (Branch target)) stands)
      (quiet_step s taken dues (Branch target) 1 (λ now r. refl) (ranges keys.Branch).0 (p + length before) (cond b on target)
      (ran + expr_cycles costs test) (since + expr_cycles costs test) (value test vars cells ∷ stack) stack (cells ++ others) (cells ++ others)
      (stands_back task.code p before (at 1 (Branch target)) stands).0
      (λ spent. ap (λ c. quietly (ready_at costs (cond c on target) stack (cells ++ others) frame taken)) is)
      (ahead_at s taken dues _ _ _ _ (cond b on target) (cond b on target) stack (cells ++ others) (omega arith) (omega arith) refl ahead))
