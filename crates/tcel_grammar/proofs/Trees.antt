-- A machine that makes trees as it reads, for the proof that no list of tokens has two.
use Rattle.std.proofs.Common.{◌==◌, ℕ, ℤ, Bool, true, false, cond, List, [], ◌∷◌, Option, Some, None}
use Rattle.tcel_num.specs.Arithmetic.{unary_value}
use Rattle.tcel_num.specs.declared.at.At.{At}
use Rattle.tcel_num.specs.declared.op.Op.{Op}
use Rattle.tcel_token.specs.declared.keyword.Keyword.{Keyword}
use Rattle.tcel_token.specs.declared.sign.Sign.{Sign}
use Rattle.tcel_token.specs.declared.token.TokenKind.{TokenKind}
use Rattle.tcel_token.specs.Terminal.{Terminal}
use Rattle.tcel_tree.specs.declared.placed.Placed.{Placed}
use Rattle.tcel_tree.specs.declared.stmt.Window.{Window}
use Rattle.tcel_tree.specs.declared.task.Decl.{Decl}
use Rattle.tcel_tree.specs.declared.task.DeclKind.{DeclKind}
use Rattle.tcel_tree.specs.Language.{Expr, number, truth, variable, element, unary, binary, Block, done, next, Stmt, assign, assign_at, receive, send, choice, for_loop, while_loop, timed, Branch, absent, present, Task}
use Rattle.tcel_grammar.specs.Expressions.{Level, disjunction, conjunction, comparison, sum, term, factor, atom, binary_of, unary_of, level_of}
use Rattle.tcel_grammar.specs.Machine.{is_word, is_sign, rank}

-- what must come, and what becomes of it
pub data State : Type 0 where
  word_then : Keyword → State → State
  sign_then : Sign → State → State
  name_then : (List ℕ → At → State) → State
  number_then : (ℤ → At → State) → State
  atom_then : Bool → (Expr → State) → State
  name_end : List ℕ → At → (Expr → State) → State
  tail_then : Level → Expr → (Expr → State) → State
  stmts_then : (Block → State) → State
  target_then : List ℕ → At → (Stmt → State) → State
  else_then : (Branch → State) → State
  window_then : (Window → State) → State
  start_then : (Window → State) → State
  before_then : (Option Placed → State) → State
  within_then : (Option Placed → State) → State
  decls_then : (List Decl → State) → State
  keeper_then : Bool → (Decl → State) → State
  int_then : Bool → (DeclKind → State) → State
  first_then : (Option ℤ → State) → State
  bool_then : Bool → (DeclKind → State) → State
  truth_then : (Option Bool → State) → State
  tasks_then : (List Task → State) → State
  finished : List Task → State

-- ---- states of whole parts

abbrev pub term_state : (Expr → State) → State
term_state g = atom_then true (λ e. tail_then term e g)

abbrev pub sum_state : (Expr → State) → State
sum_state g = term_state (λ e. tail_then sum e g)

abbrev pub comparison_state : (Expr → State) → State
comparison_state g = sum_state (λ e. tail_then comparison e g)

abbrev pub conjunction_state : (Expr → State) → State
conjunction_state g = comparison_state (λ e. tail_then conjunction e g)

abbrev pub whole : (Expr → State) → State
whole g = conjunction_state (λ e. tail_then disjunction e g)

-- behind an operator of a level and what stands on its left
abbrev pub right_of : Level → Expr → At → Op → (Expr → State) → State
right_of disjunction e at op g = conjunction_state (λ b. tail_then disjunction (binary at op e b) g)
right_of conjunction e at op g = comparison_state (λ b. tail_then conjunction (binary at op e b) g)
right_of comparison e at op g = sum_state (λ b. g (binary at op e b))
right_of sum e at op g = term_state (λ b. tail_then sum (binary at op e b) g)
right_of term e at op g = atom_then true (λ b. tail_then term (binary at op e b) g)
right_of factor e at op g = g e
right_of atom e at op g = g e

abbrev pub placed_number : ℤ → At → Placed
placed_number n at = record { value = n; at = at }

abbrev pub block_state : (Block → State) → State
block_state f = sign_then Sign.LeftBrace (stmts_then f)

abbrev pub clause_state : Keyword → (Placed → State) → State
clause_state w f = word_then w (number_then (λ n at. f (placed_number n at)))

abbrev pub window_of : Option Placed → Option Placed → Option Placed → Window
window_of a b c = record { after = a; before = b; within = c }

abbrev pub decl_of : DeclKind → List ℕ → At → Decl
decl_of kind n at = record { kind = kind; name = n; at = at }

-- a task behind its first word
abbrev pub task_state : (Task → State) → State
task_state f =
    name_then (λ n at. word_then Keyword.Priority (number_then (λ p p_at. sign_then Sign.LeftBrace (decls_then (λ ds.
    word_then Keyword.Every (number_then (λ q q_at. within_then (λ finish. block_state (λ b. sign_then Sign.RightBrace
    (f (record { name = n; at = at; priority = placed_number p p_at; decls = ds; period = placed_number q q_at; finish = finish; body = b })))))))))))

-- ---- steps

abbrev pub at_tail : Level → Expr → (Expr → State) → At → Option Op → Option State → Option State
at_tail l e f at None later = later
at_tail l e f at (Some op) later = cond (rank (level_of op) == rank l) (Some (right_of l e at op f)) later

abbrev at_operand : (Expr → State) → At → TokenKind → Option State
at_operand f at (TokenKind.Number n) = Some (f (number at n))
at_operand f at (TokenKind.Name n) = Some (name_end n at f)
at_operand f at (TokenKind.Word Keyword.True) = Some (f (truth at true))
at_operand f at (TokenKind.Word Keyword.False) = Some (f (truth at false))
at_operand f at (TokenKind.Sign Sign.LeftRound) = Some (whole (λ e. sign_then Sign.RightRound (f e)))
at_operand f at _ = None

abbrev at_atom : Bool → (Expr → State) → At → Option Op → TokenKind → Option State
at_atom true f at (Some op) kind = Some (atom_then false (λ e. f (unary at op e)))
at_atom false f at (Some op) kind = None
at_atom signed f at None kind = at_operand f at kind

abbrev at_stmts : (Block → State) → At → TokenKind → Option State
at_stmts f at (TokenKind.Sign Sign.RightBrace) = Some (f done)
at_stmts f at (TokenKind.Name n) = Some (target_then n at (λ s. stmts_then (λ b. f (next s b))))
at_stmts f at (TokenKind.Word Keyword.Receive) =
    Some (name_then (λ n n_at. word_then Keyword.From (name_then (λ p p_at. sign_then Sign.Semicolon (stmts_then (λ b. f (next (receive at n n_at p p_at) b)))))))
at_stmts f at (TokenKind.Word Keyword.Send) =
    Some (whole (λ e. word_then Keyword.To (name_then (λ p p_at. sign_then Sign.Semicolon (stmts_then (λ b. f (next (send at e p p_at) b)))))))
at_stmts f at (TokenKind.Word Keyword.If) =
    Some (whole (λ e. block_state (λ held. else_then (λ o. stmts_then (λ b. f (next (choice at e held o) b))))))
at_stmts f at (TokenKind.Word Keyword.For) =
    Some (name_then (λ n n_at. sign_then Sign.Less (number_then (λ m m_at. block_state (λ c. stmts_then (λ b. f (next (for_loop at n n_at (placed_number m m_at) c) b)))))))
at_stmts f at (TokenKind.Word Keyword.While) =
    Some (whole (λ e. word_then Keyword.Limit (number_then (λ m m_at. block_state (λ c. stmts_then (λ b. f (next (while_loop at e (placed_number m m_at) c) b)))))))
at_stmts f at (TokenKind.Word Keyword.Do) =
    Some (window_then (λ w. block_state (λ c. stmts_then (λ b. f (next (timed at w c) b)))))
at_stmts f at _ = None

abbrev at_target : List ℕ → At → (Stmt → State) → TokenKind → Option State
at_target n at f (TokenKind.Sign Sign.Becomes) = Some (whole (λ e. sign_then Sign.Semicolon (f (assign at n e))))
at_target n at f (TokenKind.Sign Sign.LeftSquare) =
    Some (whole (λ i. sign_then Sign.RightSquare (sign_then Sign.Becomes (whole (λ e. sign_then Sign.Semicolon (f (assign_at at n i e)))))))
at_target n at f _ = None

abbrev at_start : (Window → State) → TokenKind → Option State
at_start f (TokenKind.Word Keyword.After) =
    Some (number_then (λ n at. before_then (λ b. within_then (λ c. f (window_of (Some (placed_number n at)) b c)))))
at_start f (TokenKind.Word Keyword.Before) = Some (number_then (λ n at. within_then (λ c. f (window_of None (Some (placed_number n at)) c))))
at_start f _ = None

abbrev at_decls : (List Decl → State) → TokenKind → Option State → Option State
at_decls f (TokenKind.Word Keyword.Input) later =
    Some (name_then (λ n at. sign_then Sign.Semicolon (decls_then (λ ds. f (decl_of DeclKind.Input n at ∷ ds)))))
at_decls f (TokenKind.Word Keyword.Output) later =
    Some (name_then (λ n at. sign_then Sign.Semicolon (decls_then (λ ds. f (decl_of DeclKind.Output n at ∷ ds)))))
at_decls f (TokenKind.Word Keyword.Local) later = Some (keeper_then false (λ d. decls_then (λ ds. f (d ∷ ds))))
at_decls f (TokenKind.Word Keyword.State) later = Some (keeper_then true (λ d. decls_then (λ ds. f (d ∷ ds))))
at_decls f _ later = later

abbrev at_keeper : Bool → (Decl → State) → TokenKind → Option State
at_keeper state f (TokenKind.Word Keyword.Int) = Some (name_then (λ n at. int_then state (λ kind. sign_then Sign.Semicolon (f (decl_of kind n at)))))
at_keeper state f (TokenKind.Word Keyword.Bool) = Some (name_then (λ n at. bool_then state (λ kind. sign_then Sign.Semicolon (f (decl_of kind n at)))))
at_keeper state f _ = None

abbrev at_int : Bool → (DeclKind → State) → TokenKind → Option State → Option State
at_int state f (TokenKind.Sign Sign.LeftSquare) later =
    Some (number_then (λ n at. sign_then Sign.RightSquare (f (DeclKind.Array state (placed_number n at)))))
at_int true f (TokenKind.Sign Sign.Is) later = Some (first_then (λ n. f (DeclKind.Int true n)))
at_int state f _ later = later

abbrev at_bool : Bool → (DeclKind → State) → TokenKind → Option State → Option State
at_bool true f (TokenKind.Sign Sign.Is) later = Some (truth_then (λ b. f (DeclKind.Bool true b)))
at_bool state f _ later = later

abbrev at_first : (Option ℤ → State) → TokenKind → Option State
at_first f (TokenKind.Number n) = Some (f (Some n))
at_first f (TokenKind.Sign Sign.Minus) = Some (number_then (λ n at. f (Some (unary_value Op.Neg n))))
at_first f _ = None

abbrev at_truth : (Option Bool → State) → TokenKind → Option State
at_truth f (TokenKind.Word Keyword.True) = Some (f (Some true))
at_truth f (TokenKind.Word Keyword.False) = Some (f (Some false))
at_truth f _ = None

abbrev at_name : (List ℕ → At → State) → At → TokenKind → Option State
at_name f at (TokenKind.Name n) = Some (f n at)
at_name f at _ = None

abbrev at_number : (ℤ → At → State) → At → TokenKind → Option State
at_number f at (TokenKind.Number n) = Some (f n at)
at_number f at _ = None

-- the state behind a token
abbrev pub tree_step : State → Terminal → Option State
tree_step (word_then w s) t = cond (is_word w t.kind) (Some s) None
tree_step (sign_then r s) t = cond (is_sign r t.kind) (Some s) None
tree_step (name_then f) t = at_name f t.at t.kind
tree_step (number_then f) t = at_number f t.at t.kind
tree_step (atom_then signed f) t = at_atom signed f t.at (unary_of t.kind) t.kind
tree_step (name_end n at f) t =
    cond (is_sign Sign.LeftSquare t.kind) (Some (whole (λ i. sign_then Sign.RightSquare (f (element at n i))))) (tree_step (f (variable at n)) t)
tree_step (tail_then l e f) t = at_tail l e f t.at (binary_of t.kind) (tree_step (f e) t)
tree_step (stmts_then f) t = at_stmts f t.at t.kind
tree_step (target_then n at f) t = at_target n at f t.kind
tree_step (else_then f) t = cond (is_word Keyword.Else t.kind) (Some (block_state (λ b. f (present b)))) (tree_step (f absent) t)
tree_step (window_then f) t =
    cond (is_word Keyword.Start t.kind) (Some (start_then f))
    (cond (is_word Keyword.Finish t.kind) (Some (clause_state Keyword.Within (λ n. f (window_of None None (Some n))))) (tree_step (f (window_of None None None)) t))
tree_step (start_then f) t = at_start f t.kind
tree_step (before_then f) t =
    cond (is_word Keyword.Start t.kind) (Some (clause_state Keyword.Before (λ n. f (Some n)))) (tree_step (f None) t)
tree_step (within_then f) t =
    cond (is_word Keyword.Finish t.kind) (Some (clause_state Keyword.Within (λ n. f (Some n)))) (tree_step (f None) t)
tree_step (decls_then f) t = at_decls f t.kind (tree_step (f []) t)
tree_step (keeper_then state f) t = at_keeper state f t.kind
tree_step (int_then state f) t = at_int state f t.kind (tree_step (f (DeclKind.Int state None)) t)
tree_step (first_then f) t = at_first f t.kind
tree_step (bool_then state f) t = at_bool state f t.kind (tree_step (f (DeclKind.Bool state None)) t)
tree_step (truth_then f) t = at_truth f t.kind
tree_step (tasks_then f) t = cond (is_word Keyword.Task t.kind) (Some (task_state (λ u. tasks_then (λ us. f (u ∷ us))))) (tree_step (f []) t)
tree_step (finished p) t = None

-- the tree where the tokens end
abbrev pub tree_end : State → Option (List Task)
tree_end (finished p) = Some p
tree_end (name_end n at f) = tree_end (f (variable at n))
tree_end (tail_then l e f) = tree_end (f e)
tree_end (else_then f) = tree_end (f absent)
tree_end (tasks_then f) = tree_end (f [])
tree_end _ = None

abbrev pub after_step : Option State → (State → Option (List Task)) → Option (List Task)
after_step None go = None
after_step (Some s) go = go s

-- the tree that the machine makes
abbrev pub made : State → List Terminal → Option (List Task)
made s [] = tree_end s
made s (t ∷ ts) = after_step (tree_step s t) (λ r. made r ts)
