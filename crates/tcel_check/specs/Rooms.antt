-- What building a core body asks: bounds in range, and room for the numbers, since each statement is a node and takes one at the most.
use Rattle.std.specs.Prelude.{◌≢◌, ℕ, ◌+◌, ◌≤◌, length, AllPairs}
use Rattle.tcel_core.specs.Language as core
use Rattle.tcel_core.specs.Language.{done, next, item, choice, timed, for_loop, while_loop}
use Rattle.tcel_core.specs.Limits.{IsBounded, IsCount, IsTime, nodes, stmt_nodes}
use Rattle.tcel_core.specs.Sound.{IsPriority, declared_names}
use Rattle.tcel_check.specs.Checked.{Numbers, outside, in_loop}

-- the bounds of windows and loops are in range
abbrev mutual
  pub HasBounds : core.Block → Type 0
  HasBounds done = Unit {0}
  HasBounds (next s rest) = StmtHasBounds s × HasBounds rest

  pub StmtHasBounds : core.Stmt → Type 0
  StmtHasBounds (item id act) = ActHasBounds act
  StmtHasBounds (choice id test held other) = HasBounds held × HasBounds other
  StmtHasBounds (timed id window body) = IsBounded window × HasBounds body

  pub ActHasBounds : core.Act → Type 0
  ActHasBounds (for_loop v n body) = IsCount n × HasBounds body
  ActHasBounds (while_loop test n body) = IsCount n × HasBounds body
  ActHasBounds _ = Unit {0}

abbrev pub used : Numbers → ℕ
used (outside items ifs blocks) = items + (ifs + blocks)
used in_loop = 0

-- a statement, and statements, that can be numbered from here
pub record StmtFits (start : Numbers) (s : core.Stmt) : Type 0 where
  pub bounded : StmtHasBounds s
  pub room : used start + stmt_nodes s ≤ 4001

pub record BlockFits (start : Numbers) (b : core.Block) : Type 0 where
  pub bounded : HasBounds b
  pub room : used start + nodes b ≤ 4001

-- a core task that can be built
pub record TaskFits (task : core.Task) : Type 0 where
  pub priority : IsPriority task.priority
  pub period : IsTime task.period
  pub deadline : IsTime task.deadline
  pub distinct : AllPairs ◌≢◌ (declared_names task)
  pub few : length (declared_names task) ≤ 256
  pub bounded : HasBounds task.body
  pub room : nodes task.body ≤ 4000
