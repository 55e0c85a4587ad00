-- The two parts of a sliced task: the first has all its events, and the rest follows it.
use Rattle.std.specs.Prelude.{◌≡◌, ℕ, zero, suc, ◌+◌, ◌≤◌, pos, Bool, false, not, ◌==◌, ◌&&◌, ◌||◌, List, [], ◌∷◌, ◌++◌, length, map, filter, flat_map, None, if◌then◌else◌}
use Rattle.std.specs.List.{list_any, position_or_len}
use Rattle.tcel_core.specs.declared.parts.Parts.{Parts}
use Rattle.tcel_core.specs.declared.var.Keep.{Keep}
use Rattle.tcel_core.specs.declared.var.Var.{Var}
use Rattle.tcel_core.specs.declared.var.VarKind.{VarKind}
use Rattle.tcel_core.specs.Cells.{all_words}
use Rattle.tcel_core.specs.Contents.{loops}
use Rattle.tcel_core.specs.Kept.{IsKeptSet}
use Rattle.tcel_core.specs.Kinds.{Slicing, holds_kept, is_kind_3, is_live, is_fetched}
use Rattle.tcel_core.specs.Language.{Expr, number, variable, element, unary, binary, Block, done, next, joined, Stmt, item, choice, timed, Act, assign, assign_at, receive, send, for_loop, while_loop, copy, Task}
use Rattle.tcel_core.specs.Numbering.{numbers_from}
use Rattle.tcel_core.specs.Paths.{Point, at_item, at_test, points}
use Rattle.tcel_core.specs.Plain.{plain_body}

-- ---- the variables that slicing adds

-- the first part's copy of a variable; the value that a variable has right behind an item; the truth of an `if`'s test
pub data Added : Type 0 where
  copy_of : ℕ → Added
  saved : ℕ → ℕ → Added
  truth_of : ℕ → Added

-- whether two of them are one
abbrev pub is_same : Added → Added → Bool
is_same (copy_of v) (copy_of w) = v == w
is_same (saved n v) (saved m w) = (n == m) && (v == w)
is_same (truth_of n) (truth_of m) = n == m
is_same _ _ = false

-- the numbers of the variables
abbrev pub variables : Slicing → List ℕ
variables s = numbers_from 0 (length s.vars)

-- the variables for which an item is live
abbrev pub live_variables : Slicing → ℕ → List ℕ
live_variables s n = filter (is_live s n) (variables s)

-- an item outside the kept set, or a kept one that is live for a variable
abbrev pub is_left : Slicing → Point → Bool
is_left s (at_item id act) = not (s.kept id) || list_any (is_live s id) (variables s)
is_left s (at_test id test held other) = false

-- whether something of the statements is left for the rest
abbrev pub has_rest : Slicing → Block → Bool
has_rest s b = list_any (is_left s) (points b)

-- an `if` with these branches stands in both parts
abbrev pub is_split : Slicing → Block → Block → Bool
is_split s held other = (holds_kept s held || holds_kept s other) && (has_rest s held || has_rest s other)

-- what is saved behind an item, and for which tests
abbrev pub saved_at : Slicing → Point → List Added
saved_at s (at_item id act) = map (saved id) (if s.kept id then live_variables s id else [])
saved_at s (at_test id test held other) = []

abbrev pub truth_at : Slicing → Point → List Added
truth_at s (at_item id act) = []
truth_at s (at_test id test held other) = if is_split s held other then truth_of id ∷ [] else []

-- copies in order of declaration, what is saved in order of item and then of variable, and the tests' truths in order of the ifs
abbrev pub added : Slicing → List Added
added s = map copy_of (filter (is_kind_3 s) (variables s)) ++ (flat_map (saved_at s) (points s.body) ++ flat_map (truth_at s) (points s.body))

-- the number of an added variable: they stand behind the task's own
abbrev pub number_of : Slicing → Added → ℕ
number_of s a = length s.vars + position_or_len (is_same a) (added s)

-- what a variable holds
abbrev pub kind_of : List Var → ℕ → VarKind
kind_of [] v = VarKind.Int
kind_of (x ∷ xs) zero = x.kind
kind_of (x ∷ xs) (suc v) = kind_of xs v

-- a copy or a saved value has its variable's kind
abbrev pub added_kind : List Var → Added → VarKind
added_kind vars (copy_of v) = kind_of vars v
added_kind vars (saved n v) = kind_of vars v
added_kind vars (truth_of n) = VarKind.Bool

-- an added variable has no name, and is 0 at a frame's start
abbrev pub added_variable : List Var → Added → Var
added_variable vars a = record { name = None; kind = added_kind vars a; keep = Keep.Temp; first = pos 0 }

-- the variables of both parts
abbrev pub all_variables : Slicing → List Var
all_variables s = s.vars ++ map (added_variable s.vars) (added s)

-- ---- the first part

-- the variable that a kept item names
abbrev pub inside_number : Slicing → ℕ → ℕ
inside_number s v = if is_kind_3 s v then number_of s (copy_of v) else v

-- an expression over variables of other numbers
abbrev pub renamed_expr : (ℕ → ℕ) → Expr → Expr
renamed_expr f (number n) = number n
renamed_expr f (variable v) = variable (f v)
renamed_expr f (element v i) = element (f v) (renamed_expr f i)
renamed_expr f (unary op e) = unary op (renamed_expr f e)
renamed_expr f (binary op a b) = binary op (renamed_expr f a) (renamed_expr f b)

-- statements over variables of other numbers
abbrev mutual
  pub renamed_block : (ℕ → ℕ) → Block → Block
  renamed_block f done = done
  renamed_block f (next s rest) = next (renamed_stmt f s) (renamed_block f rest)

  pub renamed_stmt : (ℕ → ℕ) → Stmt → Stmt
  renamed_stmt f (item id act) = item id (renamed_act f act)
  renamed_stmt f (choice id test held other) = choice id (renamed_expr f test) (renamed_block f held) (renamed_block f other)
  renamed_stmt f (timed id window body) = timed id window (renamed_block f body)

  pub renamed_act : (ℕ → ℕ) → Act → Act
  renamed_act f (assign v e) = assign (f v) (renamed_expr f e)
  renamed_act f (assign_at v i e) = assign_at (f v) (renamed_expr f i) (renamed_expr f e)
  renamed_act f (receive v port) = receive (f v) port
  renamed_act f (send e port) = send (renamed_expr f e) port
  renamed_act f (for_loop v turns body) = for_loop (f v) turns (renamed_block f body)
  renamed_act f (while_loop test turns body) = while_loop (renamed_expr f test) turns (renamed_block f body)
  renamed_act f (copy from to) = copy (f from) (f to)

-- copies one after another, each from the first variable to the second
abbrev pub copies : List (ℕ × ℕ) → Block
copies [] = done
copies (c ∷ cs) = next (item 0 (copy c.0 c.1)) (copies cs)

-- what a kept item wrote and the rest wants is saved
abbrev pub saves : Slicing → ℕ → Block
saves s n = copies (map (λ v. (number_of s (copy_of v), number_of s (saved n v))) (live_variables s n))

-- an `if` by its test, or by the truth that was found before
abbrev pub split_choice : Slicing → ℕ → Expr → Bool → Block → Block → Block
split_choice s id test both held other =
    if both then next (item 0 (assign (number_of s (truth_of id)) test))
    (next (choice id (variable (number_of s (truth_of id))) held other) done)
    else (next (choice id test held other) done)

-- the statements with kept items
abbrev mutual
  pub first_of_block : Slicing → Block → Block
  first_of_block s done = done
  first_of_block s (next t rest) = joined (first_of_stmt s t) (first_of_block s rest)

  pub first_of_stmt : Slicing → Stmt → Block
  first_of_stmt s (item id act) = if s.kept id then next (item id (renamed_act (inside_number s) act)) (saves s id) else done
  first_of_stmt s (choice id test held other) =
      if holds_kept s held || holds_kept s other then
      split_choice s id (renamed_expr (inside_number s) test) (is_split s held other) (first_of_block s held) (first_of_block s other)
      else done
  first_of_stmt s (timed id window body) = if holds_kept s body then next (timed id window (first_of_block s body)) done else done

-- the copies that are read before they are written begin with their variables' values
abbrev pub fetches : Slicing → Block
fetches s = copies (map (λ v. (v, number_of s (copy_of v))) (filter (is_fetched s) (variables s)))

-- the part with all events
abbrev pub first_part : Slicing → Block
first_part s = joined (fetches s) (first_of_block s s.body)

-- ---- the rest

-- a variable gets the value that the kept item gave its copy
abbrev pub restores : Slicing → ℕ → Block
restores s n = copies (map (λ v. (number_of s (saved n v), v)) (live_variables s n))

-- the statements outside the kept set, and what the kept ones hand on
abbrev mutual
  pub rest_of_block : Slicing → Block → Block
  rest_of_block s done = done
  rest_of_block s (next t rest) = joined (rest_of_stmt s t) (rest_of_block s rest)

  pub rest_of_stmt : Slicing → Stmt → Block
  rest_of_stmt s (item id act) = if s.kept id then restores s id else next (item id act) done
  rest_of_stmt s (choice id test held other) =
      if has_rest s held || has_rest s other then
      next
      (choice id (if is_split s held other then variable (number_of s (truth_of id)) else test) (rest_of_block s held)
      (rest_of_block s other))
      done
      else done
  rest_of_stmt s (timed id window body) = rest_of_block s body

-- ---- both

-- two bodies, their variables, and the words that they need: those of the variables, and one counter a loop
pub record TaskParts : Type 0 where
  pub first : Block
  pub rest : Block
  pub vars : List Var
  pub words : ℕ

-- the parts of a body by its kept items
abbrev pub parts_of : Slicing → TaskParts
parts_of s =
    record {
      first = first_part s;
      rest = rest_of_block s s.body;
      vars = all_variables s;
      words = all_words (all_variables s) + loops s.body;
    }

-- a task's body with its kept items
abbrev pub slicing_of : Task → (ℕ → Bool) → Slicing
slicing_of task kept = record { vars = task.vars; body = task.body; kept = kept }

-- parts are a task's own: those by its kept set, where they need at most 65,536 words
pub record AreOwnParts (task : Task) (parts : TaskParts) : Type 0 where
  pub kept : ℕ → Bool
  pub least : IsKeptSet task.body kept
  pub are : parts ≡ parts_of (slicing_of task kept)
  pub few : parts.words ≤ 65536

-- the plain data that parts stand for
abbrev pub plain_parts : Parts → TaskParts
plain_parts p = record { first = plain_body p.first; rest = plain_body p.rest; vars = p.vars; words = p.words }
