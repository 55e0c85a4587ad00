-- The code of an `if`: its test, and the branch that the test chooses.
use Rattle.std.proofs.Common.{◌≡◌, ℕ, ◌+◌, Bool, true, false, cond, ℤ, List, [], ◌∷◌, ◌++◌, length, refl, sym, subst, arith, append_assoc, length-append, inl, inr}
use Rattle.std.proofs.lemmas.Bool.{cond_both, true≢false}
use Rattle.tcel_num.specs.Arithmetic.{holds}
use Rattle.tcel_core.specs.declared.var.Var.{Var}
use Rattle.tcel_core.specs.Contents.{has_statement, loops}
use Rattle.tcel_core.specs.Language.{Expr, Block, choice, done, next}
use Rattle.tcel_core.specs.Meaning.{exec, value}
use Rattle.tcel_core.specs.Outcome.{Memory, quiet}
use Rattle.tcel_core.specs.Scope.{IsSound}
use Rattle.tcel_core.proofs.Remain.{takes}
use Rattle.tcel_target.specs.declared.costs.CostKey.TheVariants as keys
use Rattle.tcel_image.specs.declared.image.Instr.TheVariants.{Branch, Jump}
use Rattle.tcel_image.specs.declared.image.Line.{Line}
use Rattle.tcel_code.specs.Counters.{Counters, behind}
use Rattle.tcel_code.specs.Code.{at, expr_code, block_code, stmt_code, branches_code, held_length}
use Rattle.tcel_cost.specs.Expressions.{expr_cycles}
use Rattle.tcel_cost.specs.Walks.{Then, Either, Passes, jump_cost}
use Rattle.tcel_code.proofs.ExprRuns.{Stands, stands_front, stands_back}
use Rattle.tcel_code.proofs.Runs.{BlockDoes, Goes, Runs, StmtDoes, goes_by, goes_to, pass_goes, stays_goes, test_goes, then_goes, then_quiet}
use Rattle.tcel_cost.proofs.RunWalks.{Given, RunWalks, StmtRunWalks}
use Rattle.tcel_code.proofs.Steps.{Setting, quiet_step}

-- ---- where the branches stand

yes_stands : (code : List Line) (has : Bool) (from : ℕ) (yes_code no_code : List Line) → Stands code from (branches_code has from yes_code no_code) → Stands code from yes_code
yes_stands code true from yes_code no_code stands = stands_front code from yes_code (at 0 (Jump (from + length yes_code + 1 + length no_code)) ++ no_code) stands
yes_stands code false from yes_code no_code stands = stands

no_stands : (code : List Line) (has : Bool) (from : ℕ) (yes_code no_code : List Line) → (has ≡ false → length no_code ≡ 0) → Stands code from (branches_code has from yes_code no_code) → Stands code (from + held_length has (length yes_code)) no_code
no_stands code true from yes_code no_code none stands =
    let there : from + length yes_code + 1 ≡ from + (length yes_code + 1) = omega arith in
    subst (λ k. Stands code k no_code) there (stands_back code from yes_code (at 0 (Jump (from + length yes_code + 1 + length no_code)) ++ no_code) stands).1
no_stands code false from yes_code [] none stands = tt
no_stands code false from yes_code (line ∷ no_code) none stands = let h = none refl in absurd (omega arith)

length-branches : (has : Bool) (from : ℕ) (yes_code no_code : List Line) → (has ≡ false → length no_code ≡ 0) → length (branches_code has from yes_code no_code) ≡ held_length has (length yes_code) + length no_code
length-branches true from yes_code no_code none = omega (arith, length-append yes_code (at 0 (Jump (from + length yes_code + 1 + length no_code)) ++ no_code))
length-branches false from yes_code no_code none = let zero_long = none refl in omega arith

-- from the end of the one branch past the other
past_other : (s : Setting) (has : Bool) (m : Memory) (low from entry floor : ℕ) (yes_code no_code : List Line) (others : List ℤ) (taken : List ℕ) → (has ≡ false → length no_code ≡ 0) →
    Stands s.task.code from (branches_code has from yes_code no_code) →
    Goes s (Passes (cond has s.costs.jump 0)) (quiet m) low (from + length yes_code) (from + held_length has (length yes_code) + length no_code) entry floor m.cells others taken
past_other s true m low from entry floor yes_code no_code others taken none stands =
    let target = from + length yes_code + 1 + length no_code in
    let jump_stands = (stands_back s.task.code from yes_code (at 0 (Jump target) ++ no_code) stands).0 in
    goes_to s
    (pass_goes s s.costs.jump m low (from + length yes_code) target entry floor m.cells others others taken refl (λ j h. refl)
    (λ dues ran since ahead.
    quiet_step s taken dues (Jump target) 0 (λ now r. refl) (s.ranges keys.Jump).0 (from + length yes_code) target ran since s.stack s.stack (m.cells ++ others) (m.cells ++ others) jump_stands (λ spent. refl) ahead))
    (omega arith)
past_other s false m low from entry floor yes_code no_code others taken none stands =
    let zero_long = none refl in stays_goes s m low (from + length yes_code) (from + length yes_code + length no_code) entry floor others taken (omega arith)

-- a block without a statement has no code
no_statement : (b : Block) (vars : List Var) (from : ℕ) (counters : Counters) → has_statement b ≡ false → length (block_code b vars from counters) ≡ 0
no_statement done vars from counters none = refl
no_statement (next stmt rest) vars from counters none = absurd (true≢false none)

module _ (s : Setting) where
  open s use {costs, task, vars}

  -- where both its branches do what they mean, an `if` does
  pub choice_runs : (id : ℕ) (test : Expr) (held other : Block) → IsSound vars test → BlockDoes s held → BlockDoes s other → StmtDoes s (choice id test held other)
  choice_runs id test held other sound held_does other_does m low p entry floor counters others taken order has_counters stands =
      let before = expr_code test vars 0 in
      let test_cycles = expr_cycles costs test + costs.branch in
      let has = has_statement other in
      let yes_at = p + length before + 1 in
      let yes_code = block_code held vars yes_at counters in
      let no_at = yes_at + held_length has (length yes_code) in
      let later = behind counters (loops held) in
      let other_code = block_code other vars no_at later in
      let none = no_statement other vars no_at later in
      let branches = branches_code has yes_at yes_code other_code in
      let branch = at 1 (Branch no_at) in
      let tested = stands_front task.code p (before ++ branch) branches (subst (Stands task.code p) (sym (append_assoc before branch branches)) stands) in
      let behind = (stands_back task.code p before (branch ++ branches) stands).1 in
      let holds_now = holds (value test vars m.cells) in
      let HeldWalks = Given (holds_now ≡ true) (RunWalks held vars costs m) in
      let OtherWalks = Given (holds_now ≡ false) (RunWalks other vars costs m) in
      let BranchWalks = Either (Then HeldWalks (Passes (jump_cost costs other))) OtherWalks in
      let end_at : no_at + length other_code ≡ p + length (before ++ (branch ++ branches)) = omega (arith, length-append before (branch ++ branches), length-branches has yes_at yes_code other_code none) in
      cond_both holds_now (exec held vars) (exec other vars)
      (λ f. Runs s (StmtRunWalks (choice id test held other) vars costs m) (stmt_code (choice id test held other) vars p counters) (f m) low p entry floor m.cells others taken)
      (λ is.
      let o = exec held vars m in
      let does = held_does m low yes_at (entry + test_cycles) floor counters others taken order has_counters.0 (yes_stands task.code has yes_at yes_code other_code behind) in
      let r = goes_by s HeldWalks does (λ from to es w. (is, w)) in
      let past = past_other s has o.memory low yes_at r.end floor yes_code other_code r.left (takes o.events taken) none behind in
      goes_to s
      (then_goes s (exec held vars) (test_goes s test sound true m low p no_at entry floor others taken order.words tested is) (goes_by s BranchWalks (then_quiet s r past) (λ from to es w. inl w)))
      end_at)
      (λ is.
      let does = other_does m low no_at (entry + test_cycles) floor later others taken order has_counters.1
      (no_stands task.code has yes_at yes_code other_code none behind) in
      let r = goes_by s OtherWalks does (λ from to es w. (is, w)) in
      goes_to s
      (then_goes s (exec other vars) (test_goes s test sound false m low p no_at entry floor others taken order.words tested is) (goes_by s BranchWalks r (λ from to es w. inr w)))
      end_at)
