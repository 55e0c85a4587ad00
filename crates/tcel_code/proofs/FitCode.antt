-- The lines of code are fit at their places.
use Rattle.std.proofs.Common.{◌≡◌, ℕ, suc, ◌+◌, ◌-◌, ◌<◌, ◌≤◌, Bool, true, false, cond, pos, List, [], ◌++◌, length, Option, None, Some, refl, sym, ap, ◌∙◌, subst, arith, length-append}
use Rattle.std.specs.List.{AllByRecursion}
use Rattle.std.proofs.lemmas.Bool.{false≢true}
use Rattle.tcel_core.specs.declared.var.Var.{Var}
use Rattle.tcel_core.specs.Cells.{all_words, place, width}
use Rattle.tcel_core.specs.Contents.{has_statement, loops, stmt_loops, hold_of}
use Rattle.tcel_core.specs.Language.{Expr, number, variable, element, unary, binary, Block, done, next, Stmt, item, choice, timed, Act, assign, assign_at, receive, send, for_loop, while_loop, copy}
use Rattle.tcel_core.specs.Scope.{Fits, StmtFits, ActFits, HaveOperands, IsInScope, HasWord, IsSound}
use Rattle.tcel_core.proofs.Scope.{array_within}
use Rattle.tcel_image.specs.declared.image.ImageTask.{ImageTask}
use Rattle.tcel_image.specs.declared.image.Instr.{Instr}
use Rattle.tcel_image.specs.declared.image.Instr.TheVariants.{Const, Get, Put, GetAt, PutAt, Arith, Jump, Branch, Loop, Receive, Send, Hold, Copy}
use Rattle.tcel_image.specs.declared.image.Line.{Line}
use Rattle.tcel_image.specs.Instructions.{Range, ranges, next_places, pops, pushes}
use Rattle.tcel_image.specs.Validity.{is_end}
use Rattle.tcel_image.proofs.FitLines.{Leads, PortIsThere, AreFit, fit-append}
use Rattle.tcel_code.specs.Code.{at, expr_code, hold_code, held_length, branches_code, block_code, stmt_code, act_code}
use Rattle.tcel_code.specs.Counters.{Counters, in_order, counter_of, behind}
use Rattle.tcel_code.specs.Compilable.{IsWithin, StmtIsWithin, ActIsWithin, height}
use Rattle.tcel_code.proofs.Counters.{HaveCounters, StmtHasCounters, ActHasCounters, ordered}
use Rattle.tcel_code.proofs.ExprRuns.{Stands, stands_front, stands_back}

height_some : (e : Expr) → 0 < height e
height_some (number n) = omega arith
height_some (variable v) = omega arith
height_some (element v i) = height_some i
height_some (unary op e) = height_some e
height_some (binary op a b) = omega (arith, height_some a)

-- ---- code that fits: where it stands with a line of the second depth behind it, it begins with the first depth, and its lines are fit

module _ (task : ImageTask) where
  -- what is known of code at a place
  pub record IsFitCode (place before after : ℕ) (lines : List Line) : Type 0 where
    pub fit : Stands task.code place lines → Leads task.code after (place + length lines) → Leads task.code before place × AreFit task place lines

  leads_at : (depth p q : ℕ) → p ≡ q → Leads task.code depth p → Leads task.code depth q
  leads_at depth p q e h = subst (Leads task.code depth) e h

  pub moved : (p q before after : ℕ) (lines : List Line) → p ≡ q → IsFitCode p before after lines → IsFitCode q before after lines
  moved p q before after lines e h = subst (λ n. IsFitCode n before after lines) e h

  -- one code behind another
  then_fit : (p one two three : ℕ) (a b : List Line) → IsFitCode p one two a → IsFitCode (p + length a) two three b → IsFitCode p one three (a ++ b)
  then_fit p one two three a b first second =
      record {
        fit =
            λ stands behind.
            let e : p + length (a ++ b) ≡ p + length a + length b = omega (arith, length-append a b) in
            let later = second.fit (stands_back task.code p a b stands) (leads_at three (p + length (a ++ b)) (p + length a + length b) e behind) in
            let sooner = first.fit (stands_front task.code p a b stands) later.0 in
            (sooner.0, fit-append task p a b sooner.1 later.1);
      }

  -- one line, which leads where it may
  pub line_fits : (p depth after : ℕ) (instr : Instr) → pops instr ≤ depth → depth - pops instr + pushes instr ≡ after → after ≤ 128
      → AllByRecursion (λ (range : Range). range.from + range.length ≤ task.cells) (ranges instr) → PortIsThere task instr → is_end instr ≡ false
      → (Leads task.code after (p + 1) → AllByRecursion (Leads task.code after) (next_places p instr)) → IsFitCode p depth after (at depth instr)
  line_fits p depth after instr enough e low cells port goes nexts =
      record {
        fit =
            λ stands behind. (
              record { line = record { instr = instr; depth = depth }; there = stands.0; deep = refl },
              (
                record {
                  nexts = subst (λ n. AllByRecursion (Leads task.code n) (next_places p instr)) (sym e) (nexts behind);
                  cells = cells;
                  port = port;
                  enough = enough;
                  low = omega arith;
                  empty = λ ends. absurd (false≢true (sym goes ∙ ends));
                },
                tt,
              ),
            );
      }

  moved_after : (p before after after' : ℕ) (lines : List Line) → after ≡ after' → IsFitCode p before after lines → IsFitCode p before after' lines
  moved_after p before after after' lines e h = subst (λ n. IsFitCode p before n lines) e h

  nothing_fits : (p depth : ℕ) → IsFitCode p depth depth []
  nothing_fits p depth = record { fit = λ stands behind. (leads_at depth (p + 0) p (omega arith) behind, tt) }

  expr_leads : (e : Expr) (vars : List Var) (depth p : ℕ) → Stands task.code p (expr_code e vars depth) → Leads task.code depth p
  expr_leads (number n) vars depth p stands = record { line = record { instr = Const n; depth = depth }; there = stands.0; deep = refl }
  expr_leads (variable v) vars depth p stands = record { line = record { instr = Get (place vars v); depth = depth }; there = stands.0; deep = refl }
  expr_leads (element v i) vars depth p stands = expr_leads i vars depth p (stands_front task.code p (expr_code i vars depth) (at (depth + 1) (GetAt (place vars v) (width vars v))) stands)
  expr_leads (unary op e) vars depth p stands = expr_leads e vars depth p (stands_front task.code p (expr_code e vars depth) (at (depth + 1) (Arith op)) stands)
  expr_leads (binary op a b) vars depth p stands =
      expr_leads a vars depth p (stands_front task.code p (expr_code a vars depth) (expr_code b vars (depth + 1) ++ at (depth + 2) (Arith op)) stands)

  -- a choice between two codes
  choice_fits : (has : Bool) (p : ℕ) (before held other : List Line) → (let yes_at = p + length before + 1 in let no_at = yes_at + held_length has (length held) in
      IsFitCode p 0 1 before → IsFitCode yes_at 0 0 held → IsFitCode no_at 0 0 other → IsFitCode p 0 0 (before ++ (at 1 (Branch no_at) ++ branches_code has yes_at held other)))
  choice_fits true p before held other test one two =
      let yes_at = p + length before + 1 in
      let no_at = yes_at + (length held + 1) in
      let out = yes_at + length held + 1 + length other in
      let jump = at 0 (Jump out) in
      let branch = at 1 (Branch no_at) in
      let there : IsFitCode (yes_at + length held + 1) 0 0 other = moved no_at (yes_at + length held + 1) 0 0 other (omega arith) two in
      record {
        fit =
            λ stands behind.
            let branches = stands_back task.code p before (branch ++ (held ++ (jump ++ other))) stands in
            let no_stands = (stands_back task.code yes_at held (jump ++ other) branches.1).1 in
            let e : p + length (before ++ (branch ++ (held ++ (jump ++ other)))) ≡ out = omega (arith, length-append before (branch ++ (held ++ (jump ++ other))), length-append held (jump ++ other)) in
            let ends = leads_at 0 (p + length (before ++ (branch ++ (held ++ (jump ++ other))))) out e behind in
            let no_leads = leads_at 0 (yes_at + length held + 1) no_at (omega arith) (there.fit no_stands ends).0 in
            let jumps = line_fits (yes_at + length held) 0 0 (Jump out) (omega arith) (omega arith) (omega arith) tt tt refl (λ h. (ends, tt)) in
            let branched = line_fits (p + length before) 1 0 (Branch no_at) (omega arith) (omega arith) (omega arith) tt tt refl (λ h. (no_leads, (h, tt))) in
            (then_fit p 0 1 0 before (branch ++ (held ++ (jump ++ other))) test
            (then_fit (p + length before) 1 0 0 branch (held ++ (jump ++ other)) branched
            (then_fit yes_at 0 0 0 held (jump ++ other) one (then_fit (yes_at + length held) 0 0 0 jump other jumps there)))).fit stands behind;
      }
  choice_fits false p before held other test one two =
      let yes_at = p + length before + 1 in
      let no_at = yes_at + length held in
      let branch = at 1 (Branch no_at) in
      record {
        fit =
            λ stands behind.
            let e : p + length (before ++ (branch ++ held)) ≡ no_at = omega (arith, length-append before (branch ++ held)) in
            let ends = leads_at 0 (p + length (before ++ (branch ++ held))) no_at e behind in
            let branched = line_fits (p + length before) 1 0 (Branch no_at) (omega arith) (omega arith) (omega arith) tt tt refl (λ h. (ends, (h, tt))) in
            (then_fit p 0 1 0 before (branch ++ held) test (then_fit (p + length before) 1 0 0 branch held branched one)).fit stands behind;
      }

  hold_code_fits : (hold : Option ℕ) (p : ℕ) → IsFitCode p 0 0 (hold_code hold)
  hold_code_fits None p = nothing_fits p 0
  hold_code_fits (Some bound) p = line_fits p 0 0 (Hold bound) (omega arith) (omega arith) (omega arith) tt tt refl (λ h. (h, tt))

  module _ (vars : List Var) where
    expr_code_fits : (e : Expr) → all_words vars ≤ task.cells → HaveOperands e → IsInScope vars e → (depth p : ℕ) → depth + height e ≤ 128 → IsFitCode p depth (depth + 1) (expr_code e vars depth)
    expr_code_fits (number n) cells ok scope depth p low = line_fits p depth (depth + 1) (Const n) (omega arith) (omega arith) (omega arith) tt tt refl (λ h. (h, tt))
    expr_code_fits (variable v) cells ok scope depth p low =
        line_fits p depth (depth + 1) (Get (place vars v)) (omega arith) (omega arith) (omega arith) (omega arith, tt) tt refl (λ h. (h, tt))
    expr_code_fits (element v i) cells ok scope depth p low =
        let index = expr_code i vars depth in
        let get = GetAt (place vars v) (width vars v) in
        let within = array_within vars v in
        then_fit p depth (depth + 1) (depth + 1) index (at (depth + 1) get) (expr_code_fits i cells ok scope depth p low)
        (line_fits (p + length index) (depth + 1) (depth + 1) get (omega arith) (omega arith) (omega (arith, height_some i)) (omega arith, tt) tt refl (λ h. (h, tt)))
    expr_code_fits (unary op e) cells ok scope depth p low =
        let inner = expr_code e vars depth in
        let one : pops (Arith op) ≡ 1 = ap (λ b. cond b 1 2) ok.0 in
        then_fit p depth (depth + 1) (depth + 1) inner (at (depth + 1) (Arith op)) (expr_code_fits e cells ok.1 scope depth p low)
        (line_fits (p + length inner) (depth + 1) (depth + 1) (Arith op) (omega arith) (omega arith) (omega (arith, height_some e)) tt tt refl (λ h. (h, tt)))
    expr_code_fits (binary op a b) cells ok scope depth p low =
        let first = expr_code a vars depth in
        let second = expr_code b vars (depth + 1) in
        let two : pops (Arith op) ≡ 2 = ap (λ b. cond b 1 2) ok.0 in
        then_fit p depth (depth + 1) (depth + 1) first (second ++ at (depth + 2) (Arith op)) (expr_code_fits a cells ok.1 scope.0 depth p (omega arith))
        (then_fit (p + length first) (depth + 1) (depth + 2) (depth + 1) second (at (depth + 2) (Arith op))
        (moved_after (p + length first) (depth + 1) (depth + 1 + 1) (depth + 2) second (omega arith) (expr_code_fits b cells ok.2 scope.1 (depth + 1) (p + length first) (omega arith)))
        (line_fits (p + length first + length second) (depth + 2) (depth + 1) (Arith op) (omega arith) (omega arith) (omega (arith, height_some a)) tt tt refl (λ h. (h, tt))))

    module _ (cells : all_words vars ≤ task.cells) where
      value_fits : (e : Expr) → IsSound vars e → (depth p : ℕ) → depth + height e ≤ 128 → IsFitCode p depth (depth + 1) (expr_code e vars depth)
      value_fits e sound depth p low = expr_code_fits e cells sound.operands sound.scope depth p low

      put_fits : (v p : ℕ) → HasWord vars v → IsFitCode p 1 0 (at 1 (Put (place vars v)))
      put_fits v p there = line_fits p 1 0 (Put (place vars v)) (omega arith) (omega arith) (omega arith) (omega arith, tt) tt refl (λ h. (h, tt))

      -- a counter is set to 0
      start_fits : (p counter : ℕ) → counter < task.cells → IsFitCode p 0 0 (at 0 (Const (pos 0)) ++ at 1 (Put counter))
      start_fits p counter room =
          then_fit p 0 1 0 (at 0 (Const (pos 0))) (at 1 (Put counter))
          (line_fits p 0 1 (Const (pos 0)) (omega arith) (omega arith) (omega arith) tt tt refl (λ h. (h, tt)))
          (line_fits (p + 1) 1 0 (Put counter) (omega arith) (omega arith) (omega arith) (omega arith, tt) tt refl (λ h. (h, tt)))

      -- a round's end leads back to its start
      round_fits : (p counter turns start : ℕ) → counter < task.cells → Leads task.code 0 start → IsFitCode p 0 0 (at 0 (Loop counter turns start))
      round_fits p counter turns start room back = line_fits p 0 0 (Loop counter turns start) (omega arith) (omega arith) (omega arith) (omega arith, tt) tt refl (λ h. (back, (h, tt)))

      for_fits : (v turns p counter : ℕ) (inner : List Line) → HasWord vars v → counter < task.cells → IsFitCode (p + 4) 0 0 inner
          → IsFitCode p 0 0 (at 0 (Const (pos 0)) ++ (at 1 (Put counter) ++ (at 0 (Get counter) ++ (at 1 (Put (place vars v)) ++ (inner ++ at 0 (Loop counter turns (p + 2)))))))
      for_fits v turns p counter inner there room body =
          let round = at 0 (Loop counter turns (p + 2)) in
          let set = at 1 (Put (place vars v)) in
          let get = at 0 (Get counter) in
          let held : IsFitCode (p + 1 + 1 + 1 + 1) 0 0 inner = moved (p + 4) (p + 1 + 1 + 1 + 1) 0 0 inner (omega arith) body in
          record {
            fit =
                λ stands behind.
                let back : Leads task.code 0 (p + 1 + 1) = record { line = record { instr = Get counter; depth = 0 }; there = stands.1.1.0; deep = refl } in
                let start = leads_at 0 (p + 1 + 1) (p + 2) (omega arith) back in
                (then_fit p 0 0 0 (at 0 (Const (pos 0)) ++ at 1 (Put counter)) (get ++ (set ++ (inner ++ round))) (start_fits p counter room)
                (moved (p + 1 + 1) (p + 2) 0 0 (get ++ (set ++ (inner ++ round))) (omega arith)
                (then_fit (p + 1 + 1) 0 1 0 get (set ++ (inner ++ round))
                (line_fits (p + 1 + 1) 0 1 (Get counter) (omega arith) (omega arith) (omega arith) (omega arith, tt) tt refl (λ h. (h, tt)))
                (then_fit (p + 1 + 1 + 1) 1 0 0 set (inner ++ round) (put_fits v (p + 1 + 1 + 1) there)
                (then_fit (p + 1 + 1 + 1 + 1) 0 0 0 inner round held (round_fits (p + 1 + 1 + 1 + 1 + length inner) counter turns (p + 2) room start)))))).fit stands behind;
          }

      while_fits : (test : Expr) (turns p counter : ℕ) (inner : List Line) → IsSound vars test → height test ≤ 128 → counter < task.cells
          → (let before = expr_code test vars 0 in let body_at = p + 2 + length before + 1 in
          IsFitCode body_at 0 0 inner → IsFitCode p 0 0 (at 0 (Const (pos 0)) ++ (at 1 (Put counter) ++ (before ++ (at 1 (Branch (body_at + length inner + 1)) ++ (inner ++ at 0 (Loop counter turns (p + 2))))))))
      while_fits test turns p counter inner sound low room body =
          let before = expr_code test vars 0 in
          let out = p + 2 + length before + 1 + length inner + 1 in
          let round = at 0 (Loop counter turns (p + 2)) in
          let branch = at 1 (Branch out) in
          let turn = before ++ (branch ++ (inner ++ round)) in
          let whole = at 0 (Const (pos 0)) ++ (at 1 (Put counter) ++ turn) in
          record {
            fit =
                λ stands behind.
                let e : p + length whole ≡ out = omega (arith, length-append before (branch ++ (inner ++ round)), length-append inner round) in
                let ends = leads_at 0 (p + length whole) out e behind in
                let stands_turn = stands_front task.code (p + 1 + 1) before (branch ++ (inner ++ round)) stands.1.1 in
                let start = leads_at 0 (p + 1 + 1) (p + 2) (omega arith) (expr_leads test vars 0 (p + 1 + 1) stands_turn) in
                let branched = line_fits (p + 2 + length before) 1 0 (Branch out) (omega arith) (omega arith) (omega arith) tt tt refl (λ h. (ends, (h, tt))) in
                (then_fit p 0 0 0 (at 0 (Const (pos 0)) ++ at 1 (Put counter)) turn (start_fits p counter room)
                (then_fit (p + 2) 0 1 0 before (branch ++ (inner ++ round)) (value_fits test sound 0 (p + 2) (omega arith))
                (then_fit (p + 2 + length before) 1 0 0 branch (inner ++ round) branched
                (then_fit (p + 2 + length before + 1) 0 0 0 inner round body (round_fits (p + 2 + length before + 1 + length inner) counter turns (p + 2) room start))))).fit stands behind;
          }

    module _ (room : ℕ) (enough : all_words vars + room ≤ task.cells) where
      abbrev words_within : all_words vars ≤ task.cells
      words_within = omega arith

      mutual
        -- the code of statements that fit
        pub block_code_fits : (b : Block) → Fits b vars → IsWithin b (length task.inputs) (length task.outputs) → (p : ℕ) (counters : Counters) → HaveCounters b vars counters 0 room → IsFitCode p 0 0 (block_code b vars p counters)
        block_code_fits done fits within p counters has = nothing_fits p 0
        block_code_fits (next s rest) fits within p counters has =
            let first = stmt_code s vars p counters in
            let later = behind counters (stmt_loops s) in
            then_fit p 0 0 0 first (block_code rest vars (p + length first) later) (stmt_code_fits s fits.0 within.0 p counters has.0) (block_code_fits rest fits.1 within.1 (p + length first) later has.1)

        stmt_code_fits : (s : Stmt) → StmtFits s vars → StmtIsWithin s (length task.inputs) (length task.outputs) → (p : ℕ) (counters : Counters) → StmtHasCounters s vars counters 0 room → IsFitCode p 0 0 (stmt_code s vars p counters)
        stmt_code_fits (item id act) fits within p counters has = act_code_fits act fits within p (counter_of counters id) has
        stmt_code_fits (choice id test held other) fits within p counters has =
            let before = expr_code test vars 0 in
            let yes_at = p + length before + 1 in
            let yes_code = block_code held vars yes_at counters in
            let no_at = yes_at + held_length (has_statement other) (length yes_code) in
            let low = within.0 in
            let later = behind counters (loops held) in
            choice_fits (has_statement other) p before yes_code (block_code other vars no_at later) (value_fits words_within test fits.0 0 p (omega arith))
            (block_code_fits held fits.1 within.1 yes_at counters has.0) (block_code_fits other fits.2 within.2 no_at later has.1)
        stmt_code_fits (timed id window body) fits within p counters has =
            let hold = hold_code (hold_of window body) in
            then_fit p 0 0 0 hold (block_code body vars (p + length hold) counters) (hold_code_fits (hold_of window body) p) (block_code_fits body fits within (p + length hold) counters has)

        act_code_fits : (act : Act) → ActFits act vars → ActIsWithin act (length task.inputs) (length task.outputs) → (p counter : ℕ) → ActHasCounters act vars counter 0 room → IsFitCode p 0 0 (act_code act vars p counter)
        act_code_fits (assign v e) fits within p counter has =
            let code = expr_code e vars 0 in
            then_fit p 0 1 0 code (at 1 (Put (place vars v))) (value_fits words_within e fits.1 0 p (omega arith)) (put_fits words_within v (p + length code) fits.0)
        act_code_fits (assign_at v i e) fits within p counter has =
            let index = expr_code i vars 0 in
            let code = expr_code e vars 1 in
            let put = PutAt (place vars v) (width vars v) in
            let there = array_within vars v in
            let one = within.0 in
            let two = within.1 in
            then_fit p 0 1 0 index (code ++ at 2 put) (value_fits words_within i fits.0 0 p (omega arith))
            (then_fit (p + length index) 1 2 0 code (at 2 put) (value_fits words_within e fits.1 1 (p + length index) (omega arith))
            (line_fits (p + length index + length code) 2 0 put (omega arith) (omega arith) (omega arith) (omega arith, tt) tt refl (λ h. (h, tt))))
        act_code_fits (receive v port) fits within p counter has =
            line_fits p 0 0 (Receive port (place vars v)) (omega arith) (omega arith) (omega arith) (omega arith, tt) within refl (λ h. (h, tt))
        act_code_fits (send e port) fits within p counter has =
            let code = expr_code e vars 0 in
            let low = within.0 in
            then_fit p 0 1 0 code (at 1 (Send port)) (value_fits words_within e fits 0 p (omega arith)) (line_fits (p + length code) 1 0 (Send port) (omega arith) (omega arith) (omega arith) tt within.1 refl (λ h. (h, tt)))
        act_code_fits (for_loop v turns body) fits within p counter has =
            let own = has (omega arith) in
            let at_number = own.at in
            let in_room = own.within in
            let inner = in_order (counter + 1) in
            for_fits words_within v turns p counter (block_code body vars (p + 4) inner) fits.0 (omega arith)
            (block_code_fits body fits.2 within (p + 4) inner (ordered vars 0 room body (counter + 1) (suc own.number) (omega arith) (omega arith) (omega arith)))
        act_code_fits (while_loop test turns body) fits within p counter has =
            let own = has (omega arith) in
            let at_number = own.at in
            let in_room = own.within in
            let inner = in_order (counter + 1) in
            let body_at = p + 2 + length (expr_code test vars 0) + 1 in
            while_fits words_within test turns p counter (block_code body vars body_at inner) fits.0 within.0 (omega arith)
            (block_code_fits body fits.2 within.1 body_at inner (ordered vars 0 room body (counter + 1) (suc own.number) (omega arith) (omega arith) (omega arith)))
        act_code_fits (copy a b) fits within p counter has =
            let one = array_within vars a in
            let two = array_within vars b in
            let same = fits.same in
            line_fits p 0 0 (Copy (place vars a) (place vars b) (width vars a)) (omega arith) (omega arith) (omega arith) (omega arith, (omega arith, tt)) tt refl (λ h. (h, tt))
