-- The image of a set is in range, where it is valid and its numbers fit: a line that is fit names cells, ports and places that are there.
use Rattle.std.proofs.Common.{◌≡◌, ℕ, ◌+◌, ◌≤◌, Bool, true, false, cond, pos, List, [], ◌∷◌, ◌++◌, length, map, Option, None, Some, refl, sym, subst, arith}
use Rattle.std.specs.Prelude.{FitsSigned, IfSome}
use Rattle.std.specs.Int.{w64, IsInRange}
use Rattle.std.specs.List.{AllByRecursion}
use Rattle.std.proofs.lemmas.Bool.{cond_both}
use Rattle.tcel_num.specs.Arithmetic.{is_unary}
use Rattle.std.proofs.lemmas.List.{length-map}
use Rattle.std.proofs.lemmas.List.Elements.{All-from_recursion}
use Rattle.std.proofs.lemmas.Option.{slice_get_within}
use Rattle.tcel_core.specs.declared.var.Var.{Var}
use Rattle.tcel_core.specs.Cells.{place, width}
use Rattle.tcel_core.specs.Contents.{has_event, has_statement, loops, hold_of}
use Rattle.tcel_core.specs.Language.{Expr, number, variable, element, unary, binary, Window, Block, done, next, Stmt, item, choice, timed, Act, assign, assign_at, receive, send, for_loop, while_loop, copy}
use Rattle.tcel_core.proofs.StateWords.{states_within}
use Rattle.tcel_image.specs.declared.image.ImageTask.{ImageTask}
use Rattle.tcel_image.specs.declared.image.Instr.{Instr}
use Rattle.tcel_image.specs.declared.image.Instr.TheVariants.{Const, Get, Put, GetAt, PutAt, Arith, Jump, Branch, Loop, Receive, Send, Hold, Copy, Mark, End}
use Rattle.tcel_image.specs.declared.image.Line.{Line}
use Rattle.tcel_image.specs.Instructions.{pops}
use Rattle.tcel_image.specs.Spelling.{IsLength, IsWord, InstrInRange, LineInRange, TaskInRange}
use Rattle.tcel_image.proofs.FitLines.{Leads, IsFit, AreFit, IsFitTask}
use Rattle.tcel_cost.specs.Forms.{Form}
use Rattle.tcel_code.specs.Code.{at, expr_code, hold_code, branches_code, held_length, block_code, stmt_code, act_code}
use Rattle.tcel_code.specs.Compilable.{IsCompilable}
use Rattle.tcel_code.specs.Counters.{Counters, in_order, counter_of, behind, counters_of}
use Rattle.tcel_code.specs.Layout.{form_task}
use Rattle.tcel_code.specs.Spellable.{ExprFits, NumbersFit, StmtNumbersFit, ActNumbersFit, IsSpellable, ImagesAreInRange}
use Rattle.tcel_code.proofs.StateWords.{states_words}
use Rattle.tcel_code.proofs.ValidImages.{form_fits}

-- ---- numbers of an instruction that name nothing

abbrev OwnNumbersFit : Instr → Type 0
OwnNumbersFit (Const value) = FitsSigned w64 value
OwnNumbersFit (GetAt first size) = IsLength size
OwnNumbersFit (PutAt first size) = IsLength size
OwnNumbersFit (Loop cell turns target) = IsLength turns
OwnNumbersFit (Hold bound) = IsInRange 1 1000000000 bound
OwnNumbersFit (Copy from to size) = IsLength size
OwnNumbersFit _ = Unit {0}

-- so it is in each line
abbrev LinesFit : List Line → Type 0
LinesFit [] = Unit {0}
LinesFit (line ∷ lines) = OwnNumbersFit line.instr × LinesFit lines

joined : (a b : List Line) → LinesFit a → LinesFit b → LinesFit (a ++ b)
joined [] b h g = g
joined (line ∷ a) b h g = (h.0, joined a b h.1 g)

zero_fits : FitsSigned w64 (pos 0)
zero_fits = record { sfits = omega arith }

module _ (vars : List Var) where
  expr_fits : (e : Expr) (depth : ℕ) → ExprFits e vars → LinesFit (expr_code e vars depth)
  expr_fits (number n) depth h = (h, tt)
  expr_fits (variable v) depth h = (tt, tt)
  expr_fits (element v i) depth h = joined (expr_code i vars depth) (at (depth + 1) (GetAt (place vars v) (width vars v))) (expr_fits i depth h.1) (h.0, tt)
  expr_fits (unary op e) depth h = joined (expr_code e vars depth) (at (depth + 1) (Arith op)) (expr_fits e depth h) (tt, tt)
  expr_fits (binary op a b) depth h =
      let second = expr_code b vars (depth + 1) in
      let apply = at (depth + 2) (Arith op) in
      joined (expr_code a vars depth) (second ++ apply) (expr_fits a depth h.0) (joined second apply (expr_fits b (depth + 1) h.1) (tt, tt))

  hold_fits : (has : Bool) (window : Window) (body : Block) → has_event body ≡ has → IfSome window.after (IsInRange 1 1000000000) → LinesFit (hold_code (hold_of window body))
  hold_fits true window body is h = subst (λ b. LinesFit (hold_code (cond b window.after None))) (sym is) (bounded window.after h)
    where
      bounded : (bound : Option ℕ) → IfSome bound (IsInRange 1 1000000000) → LinesFit (hold_code bound)
      bounded None g = tt
      bounded (Some bound) g = (g, tt)
  hold_fits false window body is h = subst (λ b. LinesFit (hold_code (cond b window.after None))) (sym is) tt

  branches_fit : (has : Bool) (from : ℕ) (held other : List Line) → LinesFit held → LinesFit other → LinesFit (branches_code has from held other)
  branches_fit true from held other h g = joined held _ h (tt, g)
  branches_fit false from held other h g = h

  mutual
    block_fits : (b : Block) (from : ℕ) (counters : Counters) → NumbersFit b vars → LinesFit (block_code b vars from counters)
    block_fits done from counters h = tt
    block_fits (next s rest) from counters h = joined (stmt_code s vars from counters) _ (stmt_fits s from counters h.0) (block_fits rest _ _ h.1)

    stmt_fits : (s : Stmt) (from : ℕ) (counters : Counters) → StmtNumbersFit s vars → LinesFit (stmt_code s vars from counters)
    stmt_fits (item id act) from counters h = act_fits act from (counter_of counters id) h
    stmt_fits (choice id test held other) from counters h =
        let yes_at = from + length (expr_code test vars 0) + 1 in
        let yes = block_code held vars yes_at counters in
        let no_at = yes_at + held_length (has_statement other) (length yes) in
        let no = block_code other vars no_at (behind counters (loops held)) in
        joined (expr_code test vars 0) _ (expr_fits test 0 h.0) (tt, branches_fit (has_statement other) yes_at yes no (block_fits held yes_at counters h.1) (block_fits other no_at (behind counters (loops held)) h.2))
    stmt_fits (timed id window body) from counters h =
        joined (hold_code (hold_of window body)) _ (hold_fits (has_event body) window body refl h.0) (block_fits body _ counters h.1)

    act_fits : (act : Act) (from counter : ℕ) → ActNumbersFit act vars → LinesFit (act_code act vars from counter)
    act_fits (assign v e) from counter h = joined (expr_code e vars 0) _ (expr_fits e 0 h) (tt, tt)
    act_fits (assign_at v i e) from counter h =
        let put = at 2 (PutAt (place vars v) (width vars v)) in
        joined (expr_code i vars 0) (expr_code e vars 1 ++ put) (expr_fits i 0 h.1) (joined (expr_code e vars 1) put (expr_fits e 1 h.2) (h.0, tt))
    act_fits (receive v port) from counter h = (tt, tt)
    act_fits (send e port) from counter h = joined (expr_code e vars 0) _ (expr_fits e 0 h) (tt, tt)
    act_fits (for_loop v turns body) from counter h =
        let inner = block_code body vars (from + 4) (in_order (counter + 1)) in
        (zero_fits, (tt, (tt, (tt, joined inner (at 0 (Loop counter turns (from + 2))) (block_fits body (from + 4) (in_order (counter + 1)) h.1) (h.0, tt)))))
    act_fits (while_loop test turns body) from counter h =
        let before = expr_code test vars 0 in
        let body_at = from + 2 + length before + 1 in
        let inner = block_code body vars body_at (in_order (counter + 1)) in
        (zero_fits, (tt, joined before _ (expr_fits test 0 h.0) (tt, joined inner (at 0 (Loop counter turns (from + 2))) (block_fits body body_at (in_order (counter + 1)) h.2) (h.1, tt))))
    act_fits (copy a b) from counter h = (h, tt)

-- ---- numbers of a fit line

pops_few : (instr : Instr) → pops instr ≤ 2
pops_few (Put cell) = omega arith
pops_few (GetAt first size) = omega arith
pops_few (PutAt first size) = omega arith
pops_few (Arith op) = cond_both (is_unary op) 1 2 (λ n. n ≤ 2) (λ _. omega arith) (λ _. omega arith)
pops_few (Branch target) = omega arith
pops_few (Send port) = omega arith
pops_few _ = omega arith

module _ (task : ImageTask) (cells : task.cells ≤ 65536) (lines : length task.code ≤ 65536) (inputs : length task.inputs ≤ 256) (outputs : length task.outputs ≤ 256) where
  target_in_range : (depth target : ℕ) → Leads task.code depth target → IsWord target
  target_in_range depth target h = omega (arith, slice_get_within task.code target h.line h.there)

  numbers_in_range : (place depth : ℕ) (instr : Instr) → OwnNumbersFit instr → IsFit task place (record { instr = instr; depth = depth }) → InstrInRange instr
  numbers_in_range place depth (Const value) own fit = own
  numbers_in_range place depth (Get cell) own fit = let there = fit.cells.0 in omega arith
  numbers_in_range place depth (Put cell) own fit = let there = fit.cells.0 in omega arith
  numbers_in_range place depth (GetAt first size) own fit = let there = fit.cells.0 in (omega arith, own)
  numbers_in_range place depth (PutAt first size) own fit = let there = fit.cells.0 in (omega arith, own)
  numbers_in_range place depth (Arith op) own fit = tt
  numbers_in_range place depth (Jump target) own fit = target_in_range _ target fit.nexts.0
  numbers_in_range place depth (Branch target) own fit = target_in_range _ target fit.nexts.0
  numbers_in_range place depth (Loop cell turns target) own fit = let there = fit.cells.0 in (omega arith, own, target_in_range _ target fit.nexts.0)
  numbers_in_range place depth (Receive port cell) own fit = let there = fit.cells.0 in let few = fit.port in (omega arith, omega arith)
  numbers_in_range place depth (Send port) own fit = let few = fit.port in omega arith
  numbers_in_range place depth (Hold bound) own fit = own
  numbers_in_range place depth (Copy from to size) own fit = let one = fit.cells.0 in let two = fit.cells.1.0 in (omega arith, omega arith, own)
  numbers_in_range place depth Mark own fit = tt
  numbers_in_range place depth End own fit = tt

  lines_in_range : (place : ℕ) (code : List Line) → LinesFit code → AreFit task place code → AllByRecursion LineInRange code
  lines_in_range place [] own fit = tt
  lines_in_range place (line ∷ code) own fit =
      let low = fit.0.low in
      let few = pops_few line.instr in
      (record { depth = omega arith; instr = numbers_in_range place line.depth line.instr own.0 fit.0 }, lines_in_range (place + 1) code own.1 fit.1)

-- ---- the whole

own_numbers : (form : Form) → IsSpellable form → LinesFit (form_task form).code
own_numbers form h =
    let vars = form.parts.vars in
    let counters = counters_of form.task.body vars in
    let first = block_code form.parts.first vars 0 counters in
    let rest = block_code form.parts.rest vars (length first + 1) counters in
    joined first (at 0 Mark ++ (rest ++ at 0 End)) (block_fits vars form.parts.first 0 counters h.first)
    (tt, joined rest (at 0 End) (block_fits vars form.parts.rest (length first + 1) counters h.rest) (tt, tt))

form_in_range : (form : Form) → IsCompilable form → IsSpellable form → TaskInRange (form_task form)
form_in_range form fits h =
    let task = form_task form in
    let fit : IsFitTask task = form_fits form fits in
    let same = states_words form.task.vars in
    let words = h.words in
    let within = states_within form.parts.vars in
    let cells = h.cells in
    let period = fits.period.1 in
    let some : 1 ≤ length task.code = omega (arith, slice_get_within task.code 0 fit.first.line fit.first.there) in
    record {
      name = h.name;
      period = omega arith;
      inputs = h.inputs;
      outputs = h.outputs;
      states = h.states;
      cells = (omega arith, omega arith);
      code = record {
        count = (some, h.lines);
        each = All-from_recursion LineInRange task.code (lines_in_range task h.cells h.lines h.inputs.count h.outputs.count 0 task.code (own_numbers form h) fit.lines);
      };
    }

all_in_range : (forms : List Form) → AllByRecursion IsCompilable forms → AllByRecursion IsSpellable forms → AllByRecursion TaskInRange (map form_task forms)
all_in_range [] fit h = tt
all_in_range (form ∷ forms) fit h = (form_in_range form fit.0 h.0, all_in_range forms fit.1 h.1)

pub images_in_range : ImagesAreInRange
images_in_range = λ forms costs ranges count fit h.
    let many = length-map forms form_task in
    record { costs = ranges; count = (let some = count.0 in omega arith, let most = count.1 in omega arith); tasks = All-from_recursion TaskInRange (map form_task forms) (all_in_range forms fit h) }
