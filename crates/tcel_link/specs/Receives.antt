-- The receives from an input that stand in statements.
use Rattle.std.specs.Prelude.{ℕ, ◌+◌, ◌==◌, Bool, true, false, ◌&&◌, ◌||◌, if◌then◌else◌}
use Rattle.tcel_core.specs.Language.{Block, done, next, Stmt, item, choice, timed, Act, receive, for_loop, while_loop}

-- how many there are
abbrev mutual
  pub receives : Block → ℕ → ℕ
  receives done input = 0
  receives (next s rest) input = stmt_receives s input + receives rest input

  pub stmt_receives : Stmt → ℕ → ℕ
  stmt_receives (item id act) input = act_receives act input
  stmt_receives (choice id test held other) input = receives held input + receives other input
  stmt_receives (timed id window body) input = receives body input

  pub act_receives : Act → ℕ → ℕ
  act_receives (receive v port) input = if port == input then 1 else 0
  act_receives (for_loop v turns body) input = receives body input
  act_receives (while_loop test turns body) input = receives body input
  act_receives _ input = 0

-- whether one stands inside a loop, where the statements themselves may stand inside one
abbrev mutual
  pub receives_in_loop : Block → ℕ → Bool → Bool
  receives_in_loop done input inside = false
  receives_in_loop (next s rest) input inside = stmt_receives_in_loop s input inside || receives_in_loop rest input inside

  pub stmt_receives_in_loop : Stmt → ℕ → Bool → Bool
  stmt_receives_in_loop (item id act) input inside = act_receives_in_loop act input inside
  stmt_receives_in_loop (choice id test held other) input inside = receives_in_loop held input inside || receives_in_loop other input inside
  stmt_receives_in_loop (timed id window body) input inside = receives_in_loop body input inside

  pub act_receives_in_loop : Act → ℕ → Bool → Bool
  act_receives_in_loop (receive v port) input inside = inside && port == input
  act_receives_in_loop (for_loop v turns body) input inside = receives_in_loop body input true
  act_receives_in_loop (while_loop test turns body) input inside = receives_in_loop body input true
  act_receives_in_loop _ input inside = false
