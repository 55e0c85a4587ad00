-- How a body's cost is found: each statement takes the cost of what was walked before it to the cost of both. A cost is the four numbers of the
-- walks so far: the greatest counts at which they end, have their first event and their last, and end without an event.
use Rattle.std.specs.Prelude.{ℕ, ◌+◌, ◌-◌, ◌*◌, max, List, Option, None, Some}
use Rattle.tcel_core.specs.declared.var.Var.{Var}
use Rattle.tcel_core.specs.Cells.{width}
use Rattle.tcel_core.specs.Contents.{hold_of}
use Rattle.tcel_core.specs.Language.{Block, done, next, Stmt, item, choice, timed, Act, assign, assign_at, receive, send, for_loop, while_loop, copy}
use Rattle.tcel_target.specs.declared.costs.Costs.{Costs}
use Rattle.tcel_cost.specs.declared.numbers.Cost.{Cost}
use Rattle.tcel_cost.specs.Expressions.{expr_cycles}
use Rattle.tcel_cost.specs.Walks.{held_entry, jump_cost}

-- ---- counts that may be absent

-- the greater of two, or the one that is there
abbrev pub greater : Option ℕ → Option ℕ → Option ℕ
greater None b = b
greater (Some a) None = Some a
greater (Some a) (Some b) = Some (max a b)

-- a count from another start
abbrev pub from_start : ℕ → Option ℕ → Option ℕ
from_start start None = None
from_start start (Some n) = Some (start + n)

-- the sum of two, where both are there
abbrev pub both : Option ℕ → Option ℕ → Option ℕ
both None b = None
both (Some a) b = from_start a b

-- a count, where the other is there
abbrev pub where_some : Option ℕ → Option ℕ → Option ℕ
where_some None n = None
where_some (Some other) n = n

-- so many times a count
abbrev pub times : ℕ → Option ℕ → Option ℕ
times n None = None
times n (Some count) = Some (n * count)

-- behind a hold
abbrev pub held_count : Option ℕ → Option ℕ → Option ℕ
held_count hold None = None
held_count hold (Some n) = Some (held_entry hold n)

-- ---- costs

-- nothing was walked, from an entry count
abbrev pub entered : ℕ → Cost
entered entry = record { total = entry; first = None; last = None; quiet = Some entry }

-- so many cycles, without an event
abbrev pub passed : ℕ → Cost → Cost
passed cycles c = record { total = cycles + c.total; first = c.first; last = c.last; quiet = from_start cycles c.quiet }

-- so many cycles, with an event at their end
abbrev pub shown : ℕ → Cost → Cost
shown cycles c =
    record { total = cycles + c.total; first = greater c.first (from_start cycles c.quiet); last = Some (cycles + c.total); quiet = None }

-- a hold
abbrev pub held : Option ℕ → Cost → Cost
held hold c = record { total = held_entry hold c.total; first = c.first; last = c.last; quiet = held_count hold c.quiet }

-- one of two
abbrev pub either : Cost → Cost → Cost
either a b =
    record { total = max a.total b.total; first = greater a.first b.first; last = greater a.last b.last; quiet = greater a.quiet b.quiet }

-- what costs this from any entry
abbrev pub joined : Cost → Cost → Cost
joined c own =
    record {
      total = c.total + own.total;
      first = greater c.first (both c.quiet own.first);
      last = greater (from_start c.total own.last) (where_some own.quiet c.last);
      quiet = both c.quiet own.quiet;
    }

-- what so many rounds take without an event; nothing where no round is without one
abbrev pub quiet_rounds : ℕ → Option ℕ → ℕ
quiet_rounds n None = 0
quiet_rounds n (Some count) = n * count

-- so many rounds, at least one: the first event may come in the last of them, behind quiet ones
abbrev pub rounds : ℕ → Cost → Cost
rounds n round =
    record {
      total = n * round.total;
      first = from_start (quiet_rounds (n - 1) round.quiet) round.first;
      last = from_start ((n - 1) * round.total) round.last;
      quiet = times n round.quiet;
    }

-- ---- statements

abbrev mutual
  pub block_cost : Block → List Var → Costs → Cost → Cost
  block_cost done vars costs c = c
  block_cost (next s rest) vars costs c = block_cost rest vars costs (stmt_cost s vars costs c)

  pub stmt_cost : Stmt → List Var → Costs → Cost → Cost
  stmt_cost (item id act) vars costs c = act_cost act vars costs c
  stmt_cost (choice id test taken other) vars costs c =
      let inner = passed (expr_cycles costs test + costs.branch) c in
      either (passed (jump_cost costs other) (block_cost taken vars costs inner)) (block_cost other vars costs inner)
  stmt_cost (timed id window body) vars costs c = block_cost body vars costs (held (hold_of window body) c)

  pub act_cost : Act → List Var → Costs → Cost → Cost
  act_cost (assign v e) vars costs c = passed (expr_cycles costs e + costs.store) c
  act_cost (assign_at v i e) vars costs c = passed (expr_cycles costs i + expr_cycles costs e + costs.store_at) c
  act_cost (receive v port) vars costs c = shown costs.receive c
  act_cost (send e port) vars costs c = shown (expr_cycles costs e + costs.send) c
  act_cost (copy a b) vars costs c = passed (width vars a * (costs.load + costs.store)) c
  act_cost (for_loop v turns body) vars costs c =
      let round = passed costs.loop_ (block_cost body vars costs (entered (costs.load + costs.store))) in
      joined (passed (costs.const_ + costs.store) c) (rounds turns round)
  act_cost (while_loop test turns body) vars costs c =
      let tested = expr_cycles costs test + costs.branch in
      let round = passed costs.loop_ (block_cost body vars costs (entered tested)) in
      let begun = passed (costs.const_ + costs.store) c in
      either (passed tested begun) (joined begun (rounds turns round))
