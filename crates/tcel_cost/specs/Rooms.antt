-- How much a body adds to a count at most, and costs to which that can be added in 64 bits.
use Rattle.std.specs.Prelude.{ℕ, ◌+◌, ◌*◌, ◌^◌, ◌≤◌, max, List, IfSome}
use Rattle.tcel_core.specs.declared.var.Var.{Var}
use Rattle.tcel_core.specs.Cells.{width}
use Rattle.tcel_core.specs.Contents.{hold_of}
use Rattle.tcel_core.specs.Language.{Block, done, next, Stmt, item, choice, timed, Act, assign, assign_at, receive, send, for_loop, while_loop, copy}
use Rattle.tcel_target.specs.declared.costs.Costs.{Costs}
use Rattle.tcel_cost.specs.declared.numbers.Cost.{Cost}
use Rattle.tcel_cost.specs.Expressions.{expr_cycles}
use Rattle.tcel_cost.specs.Walks.{held_entry, jump_cost}

-- the cycles that statements take at most: both branches of an `if`, and each hold from 0
abbrev mutual
  pub block_most : Block → List Var → Costs → ℕ
  block_most done vars costs = 0
  block_most (next s rest) vars costs = stmt_most s vars costs + block_most rest vars costs

  pub stmt_most : Stmt → List Var → Costs → ℕ
  stmt_most (item id act) vars costs = act_most act vars costs
  stmt_most (choice id test taken other) vars costs =
      expr_cycles costs test + costs.branch + (block_most taken vars costs + jump_cost costs other + block_most other vars costs)
  stmt_most (timed id window body) vars costs = held_entry (hold_of window body) 0 + block_most body vars costs

  pub act_most : Act → List Var → Costs → ℕ
  act_most (assign v e) vars costs = expr_cycles costs e + costs.store
  act_most (assign_at v i e) vars costs = expr_cycles costs i + expr_cycles costs e + costs.store_at
  act_most (receive v port) vars costs = costs.receive
  act_most (send e port) vars costs = expr_cycles costs e + costs.send
  act_most (copy a b) vars costs = width vars a * (costs.load + costs.store)
  act_most (for_loop v turns body) vars costs =
      costs.const_ + costs.store + max 1 turns * (costs.load + costs.store + block_most body vars costs + costs.loop_)
  act_most (while_loop test turns body) vars costs =
      costs.const_ + costs.store + max 1 turns * (expr_cycles costs test + costs.branch + block_most body vars costs + costs.loop_)

-- each number that is there is at most this
pub record IsUpTo (limit : ℕ) (c : Cost) : Type 0 where
  pub total : c.total ≤ limit
  pub first : IfSome c.first (λ n. n ≤ limit)
  pub last : IfSome c.last (λ n. n ≤ limit)
  pub quiet : IfSome c.quiet (λ n. n ≤ limit)

-- so much can be added to each number
pub record HasRoom (c : Cost) (more : ℕ) : Type 0 where
  pub limit : ℕ
  pub upto : IsUpTo limit c
  pub room : limit + more ≤ 2 ^ 63

-- so many rounds can be added up
pub record CanRepeat (turns : ℕ) (round : Cost) : Type 0 where
  pub limit : ℕ
  pub upto : IsUpTo limit round
  pub room : max 1 turns * limit ≤ 2 ^ 63

-- one cost can be added to another
pub record CanJoin (c own : Cost) : Type 0 where
  pub limit : ℕ
  pub upto : IsUpTo limit own
  pub room : HasRoom c limit
