-- The walks that a run of statements takes: of each `if` the branch that its test chooses.
use Rattle.tcel_core.specs.Contents.{hold_of}
use Rattle.std.proofs.Common.{◌≡◌, ℕ, ◌+◌, true, false, List, ◌++◌, length, sym, ap, ◌∙◌, subst, arith, length-append, append-nil, inl, inr}
use Rattle.std.proofs.lemmas.Bool.{cond-true, cond-false}
use Rattle.tcel_num.specs.Arithmetic.{holds}
use Rattle.tcel_core.specs.declared.var.Var.{Var}
use Rattle.tcel_core.specs.Language.{Expr, Block, done, next, Stmt, item, choice, timed}
use Rattle.tcel_core.specs.Meaning.{exec, exec_act, exec_stmt, value}
use Rattle.tcel_core.specs.Outcome.{Memory, Occurrence, Outcome}
use Rattle.tcel_core.proofs.Bodies.{length-enclosed}
use Rattle.tcel_target.specs.declared.costs.Costs.{Costs}
use Rattle.tcel_cost.specs.Expressions.{expr_cycles}
use Rattle.tcel_cost.specs.Walks.{Counts, Walks, StmtWalks, ActWalks, Then, Either, Passes, held_entry, jump_cost}

-- a walk, where this is so
abbrev pub Given : Type 0 → Counts → Counts
Given P walks entry end counts = P × walks entry end counts

-- a walk with a count for each of these events
abbrev pub Counting : List Occurrence → Counts → Counts
Counting events walks entry end counts = walks entry end counts × (length counts ≡ length events)

abbrev mutual
  pub RunWalks : Block → List Var → Costs → Memory → Counts
  RunWalks done vars costs m = Passes 0
  RunWalks (next s rest) vars costs m = Then (StmtRunWalks s vars costs m) (RunWalks rest vars costs (exec_stmt s vars m).memory)

  pub StmtRunWalks : Stmt → List Var → Costs → Memory → Counts
  StmtRunWalks (item id act) vars costs m = Counting (exec_act act vars m).events (ActWalks act vars costs)
  StmtRunWalks (choice id test held other) vars costs m =
      Then (Passes (expr_cycles costs test + costs.branch))
      (Either (Then (Given (holds (value test vars m.cells) ≡ true) (RunWalks held vars costs m)) (Passes (jump_cost costs other)))
      (Given (holds (value test vars m.cells) ≡ false) (RunWalks other vars costs m)))
  StmtRunWalks (timed id window body) vars costs m = λ entry. RunWalks body vars costs m (held_entry (hold_of window body) entry)

-- each of them is a walk
mutual
  pub run_walk : (b : Block) (vars : List Var) (costs : Costs) (m : Memory) (entry end : ℕ) (counts : List ℕ) → RunWalks b vars costs m entry end counts → Walks b vars costs entry end counts
  run_walk done vars costs m entry end counts w = w
  run_walk (next s rest) vars costs m entry end counts w = record {
    middle = w.middle;
    before = w.before;
    after = w.after;
    one = stmt_run_walk s vars costs m entry w.middle w.before w.one;
    two = run_walk rest vars costs (exec_stmt s vars m).memory w.middle end w.after w.two;
    joined = w.joined;
  }

  pub stmt_run_walk : (s : Stmt) (vars : List Var) (costs : Costs) (m : Memory) (entry end : ℕ) (counts : List ℕ) → StmtRunWalks s vars costs m entry end counts → StmtWalks s vars costs entry end counts
  stmt_run_walk (item id act) vars costs m entry end counts w = w.0
  stmt_run_walk (choice id test held other) vars costs m entry end counts w = record {
    middle = w.middle;
    before = w.before;
    after = w.after;
    one = w.one;
    two =
        elim w.two as (λ _. Either (Then (Walks held vars costs) (Passes (jump_cost costs other))) (Walks other vars costs) w.middle end w.after) [
          | inl held_walk ↦
              inl (
              record {
                middle = held_walk.middle;
                before = held_walk.before;
                after = held_walk.after;
                one = run_walk held vars costs m w.middle held_walk.middle held_walk.before held_walk.one.1;
                two = held_walk.two;
                joined = held_walk.joined;
              }
              )
          | inr other_walk ↦ inr (run_walk other vars costs m w.middle end w.after other_walk.1)
        ];
    joined = w.joined;
  }
  stmt_run_walk (timed id window body) vars costs m entry end counts w = run_walk body vars costs m (held_entry (hold_of window body) entry) end counts w

-- what is so of both branches of an `if` is so of what it does
pub by_branch : (test : Expr) (held other : Block) (vars : List Var) (costs : Costs) (m : Memory) (id entry end : ℕ) (counts : List ℕ) → StmtRunWalks (choice id test held other) vars costs m entry end counts →
    (P : List Occurrence → List ℕ → Type 0) →
    ((to : ℕ) (cs : List ℕ) → RunWalks held vars costs m (entry + (expr_cycles costs test + costs.branch)) to cs → P (exec held vars m).events cs) →
    ((to : ℕ) (cs : List ℕ) → RunWalks other vars costs m (entry + (expr_cycles costs test + costs.branch)) to cs → P (exec other vars m).events cs) →
    P (exec_stmt (choice id test held other) vars m).events counts
by_branch test held other vars costs m id entry end counts walk P one two =
    let holds_now = holds (value test vars m.cells) in
    let inner : ℕ = entry + (expr_cycles costs test + costs.branch) in
    let behind : counts ≡ walk.after = walk.joined ∙ ap (λ l. l ++ walk.after) walk.one.1 in
    subst (P (exec_stmt (choice id test held other) vars m).events) (sym behind)
    (elim walk.two as (λ _. P (exec_stmt (choice id test held other) vars m).events walk.after) [
      | inl w ↦
          let all : walk.after ≡ w.before = w.joined ∙ ap (λ l. w.before ++ l) w.two.1 ∙ append-nil w.before in
          let here : RunWalks held vars costs m inner w.middle w.before = subst (λ k. RunWalks held vars costs m k w.middle w.before) walk.one.0 w.one.1 in
          subst (P (exec_stmt (choice id test held other) vars m).events) (sym all)
          (subst (λ (f : Memory → Outcome). P (f m).events w.before) (sym (cond-true holds_now (exec held vars) (exec other vars) w.one.0)) (one w.middle w.before here))
      | inr w ↦
          let here : RunWalks other vars costs m inner end walk.after = subst (λ k. RunWalks other vars costs m k end walk.after) walk.one.0 w.1 in
          subst (λ (f : Memory → Outcome). P (f m).events walk.after) (sym (cond-false holds_now (exec held vars) (exec other vars) w.0)) (two end walk.after here)
    ])

-- ---- as many counts as events

mutual
  pub block_counts : (b : Block) (vars : List Var) (costs : Costs) (m : Memory) (entry end : ℕ) (counts : List ℕ) → RunWalks b vars costs m entry end counts → length counts ≡ length (exec b vars m).events
  block_counts done vars costs m entry end counts walk = ap length walk.1
  block_counts (next s rest) vars costs m entry end counts walk =
      let o = exec_stmt s vars m in
      let one = stmt_counts s vars costs m entry walk.middle walk.before walk.one in
      let two = block_counts rest vars costs o.memory walk.middle end walk.after walk.two in
      ap length walk.joined ∙ omega (arith, length-append walk.before walk.after, length-append o.events (exec rest vars o.memory).events)

  pub stmt_counts : (s : Stmt) (vars : List Var) (costs : Costs) (m : Memory) (entry end : ℕ) (counts : List ℕ) → StmtRunWalks s vars costs m entry end counts → length counts ≡ length (exec_stmt s vars m).events
  stmt_counts (item id act) vars costs m entry end counts walk = walk.1
  stmt_counts (choice id test held other) vars costs m entry end counts walk =
      let inner : ℕ = entry + (expr_cycles costs test + costs.branch) in
      by_branch test held other vars costs m id entry end counts walk (λ es cs. length cs ≡ length es)
      (λ to cs w. block_counts held vars costs m inner to cs w) (λ to cs w. block_counts other vars costs m inner to cs w)
  stmt_counts (timed id window body) vars costs m entry end counts walk =
      block_counts body vars costs m (held_entry (hold_of window body) entry) end counts walk ∙ sym (length-enclosed id window true (exec body vars m).events)
