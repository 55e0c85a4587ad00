-- What stands in a body.
use Rattle.std.specs.Prelude.{ℕ, ◌+◌, ◌==◌, Bool, true, false, List, [], ◌∷◌, ◌++◌, Option, None, if◌then◌else◌}
use Rattle.tcel_core.specs.Language.{Window, Block, done, next, Stmt, item, choice, timed, Act, receive, send, for_loop, while_loop}

-- whether a block has a statement
abbrev pub has_statement : Block → Bool
has_statement done = false
has_statement (next s rest) = true

-- whether there is a receive or a send in statements
abbrev mutual
  pub has_event : Block → Bool
  has_event done = false
  has_event (next s rest) = if stmt_has_event s then true else has_event rest

  pub stmt_has_event : Stmt → Bool
  stmt_has_event (item id act) = act_has_event act
  stmt_has_event (choice id test held other) = if has_event held then true else has_event other
  stmt_has_event (timed id window body) = has_event body

  pub act_has_event : Act → Bool
  act_has_event (receive v port) = true
  act_has_event (send e port) = true
  act_has_event (for_loop v turns body) = has_event body
  act_has_event (while_loop test turns body) = has_event body
  act_has_event _ = false

-- the bound of the hold with which a `do` block begins: it has `start after`, and a receive or a send stands in it
abbrev pub hold_of : Window → Block → Option ℕ
hold_of window body = if has_event body then window.after else None

-- how many loops stand in statements
abbrev mutual
  pub loops : Block → ℕ
  loops done = 0
  loops (next s rest) = stmt_loops s + loops rest

  pub stmt_loops : Stmt → ℕ
  stmt_loops (item id act) = act_loops act
  stmt_loops (choice id test held other) = loops held + loops other
  stmt_loops (timed id window body) = loops body

  pub act_loops : Act → ℕ
  act_loops (for_loop v turns body) = 1 + loops body
  act_loops (while_loop test turns body) = 1 + loops body
  act_loops _ = 0

-- an item outside loops, by its number, with how many loops it holds
pub record Looped : Type 0 where
  pub id : ℕ
  pub loops : ℕ

-- the items of a body in text order
abbrev mutual
  pub item_loops : Block → List Looped
  item_loops done = []
  item_loops (next s rest) = stmt_item_loops s ++ item_loops rest

  pub stmt_item_loops : Stmt → List Looped
  stmt_item_loops (item id act) = record { id = id; loops = act_loops act } ∷ []
  stmt_item_loops (choice id test held other) = item_loops held ++ item_loops other
  stmt_item_loops (timed id window body) = item_loops body

-- how many loops stand in front of the first item with a number
abbrev pub loops_before : ℕ → List Looped → ℕ
loops_before id [] = 0
loops_before id (i ∷ items) = if i.id == id then 0 else i.loops + loops_before id items
