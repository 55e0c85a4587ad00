-- No list of tokens has two trees: the machine that makes trees makes each tree that the grammar gives.
use Rattle.std.proofs.Common.{◌≡◌, ◌==◌, ℕ, Bool, true, false, not, List, [], ◌∷◌, Option, Some, None, refl, sym, ap, ◌∙◌, nat_lt, nat_le, arith, eq-eqb}
use Rattle.std.proofs.lemmas.Bool.{ltb-true, leb-true, le-leb, eqb-true}
use Rattle.std.proofs.lemmas.Option.{same_Some}
use Rattle.tcel_num.specs.declared.at.At.{At}
use Rattle.tcel_num.specs.declared.op.Op.{Op}
use Rattle.tcel_token.specs.declared.keyword.Keyword.{Keyword}
use Rattle.tcel_token.specs.declared.sign.Sign.{Sign}
use Rattle.tcel_token.specs.declared.token.TokenKind.{TokenKind}
use Rattle.tcel_token.specs.Terminal.{Terminal}
use Rattle.tcel_tree.specs.declared.placed.Placed.{Placed}
use Rattle.tcel_tree.specs.declared.stmt.Window.{Window}
use Rattle.tcel_tree.specs.declared.task.Decl.{Decl}
use Rattle.tcel_tree.specs.declared.task.DeclKind.{DeclKind}
use Rattle.tcel_tree.specs.Language.{Expr, variable, unary, element, Block, next, Stmt, Branch, absent, present, Task}
use Rattle.tcel_grammar.specs.Expressions.{Level, binary_of, level_of, disjunction, conjunction, comparison, sum, term, factor, atom, here, IsToken, there, IsBinary, between, before, IsExpr, a_conjunction, disjoined, a_comparison, conjoined, a_sum, compared, a_term, added, a_factor, multiplied, an_atom, applied, a_number, yes, no, a_variable, an_element, bracketed}
use Rattle.tcel_grammar.specs.Statements.{IsWhole, numbered, IsClause, unsaid, said, IsWindow, window, IsBlock, block, IsStmts, no_more, one_more, IsStmt, assigned, assigned_at, received, sent, chosen, counted, repeated, done_in, IsBranch, no_else, with_else}
use Rattle.tcel_grammar.specs.Programs.{unset, set, set_below, unset_truth, set_true, set_false, IsInt, an_array, a_local, a_state, IsBool, a_local_truth, a_state_truth, IsDecl, an_input, an_output, an_int, a_bool, IsDecls, no_decl, one_decl, every, IsTask, task, IsProgram, last_task, one_task}
use Rattle.tcel_grammar.specs.Machine.{is_sign, is_word, rank, word_number, sign_number}
use Rattle.tcel_grammar.proofs.Trees.{State, word_then, sign_then, atom_then, tail_then, name_end, stmts_then, else_then, window_then, before_then, within_then, decls_then, int_then, bool_then, tasks_then, finished, term_state, sum_state, comparison_state, conjunction_state, whole, right_of, block_state, window_of, at_tail, after_step, tree_step, made}

-- ---- what may stand behind an expression of a level

abbrev past_at : Level → Option Op → Bool → Bool
past_at l None square = not square
past_at l (Some op) square = nat_le (rank (level_of op)) (rank l)

-- the next token is no bracket of an index, and no operator that groups tighter
abbrev past : Level → List Terminal → Bool
past l [] = true
past l (t ∷ ts) = past_at l (binary_of t.kind) (is_sign Sign.LeftSquare t.kind)

weaker_at : (l m : Level) (o : Option Op) (square : Bool) → nat_le (rank l) (rank m) ≡ true → past_at l o square ≡ true → past_at m o square ≡ true
weaker_at l m None square h e = e
weaker_at l m (Some op) square h e =
    let a = leb-true (rank l) (rank m) h in
    let b = leb-true (rank (level_of op)) (rank l) e in
    le-leb (rank (level_of op)) (rank m) (omega arith)

weaker : (l m : Level) (ts : List Terminal) → nat_le (rank l) (rank m) ≡ true → past l ts ≡ true → past m ts ≡ true
weaker l m [] h e = refl
weaker l m (t ∷ ts) h e = weaker_at l m (binary_of t.kind) (is_sign Sign.LeftSquare t.kind) h e

not_level : (a b c : ℕ) → nat_le a b ≡ true → nat_lt b c ≡ true → (a == c) ≡ false
not_level a b c e f = go (a == c) refl
  where
    go : (d : Bool) → (a == c) ≡ d → d ≡ false
    go true g = let x = leb-true a b e in let y = ltb-true b c f in let z = eqb-true a c g in absurd (omega arith)
    go false g = refl

fall_at : (m l : Level) (e : Expr) (f : Expr → State) (at : At) (o : Option Op) (square : Bool) (later : Option State) → nat_lt (rank m) (rank l) ≡ true → past_at m o square ≡ true →
    at_tail l e f at o later ≡ later
fall_at m l e f at None square later h g = refl
fall_at m l e f at (Some op) square later h g = rw (not_level (rank (level_of op)) (rank m) (rank l) g h) refl

-- a tail that can't go on is left
fall : (m l : Level) (ts : List Terminal) → nat_lt (rank m) (rank l) ≡ true → past m ts ≡ true → (e : Expr) (f : Expr → State) → made (tail_then l e f) ts ≡ made (f e) ts
fall m l [] h g e f = refl
fall m l (t ∷ ts) h g e f =
    ap (λ (o : Option State). after_step o (λ r. made r ts)) (fall_at m l e f t.at (binary_of t.kind) (is_sign Sign.LeftSquare t.kind) (tree_step (f e) t) h g)

operator_past : {l : Level} {ts rest : List Terminal} {at : At} {op : Op} → IsBinary l ts at op rest → past l ts ≡ true
operator_past {l} (between here e f) = rw (e, f) (le-leb (rank l) (rank l) (omega arith))

operator_made : {l : Level} {ts rest : List Terminal} {at : At} {op : Op} → IsBinary l ts at op rest → (e : Expr) (f : Expr → State) → made (tail_then l e f) ts ≡ made (right_of l e at op f) rest
operator_made {l} (between here e f) x g = rw (e, f, eq-eqb (rank l) (rank l) refl) refl

-- ---- expressions

abbrev Makes : Level → List Terminal → Expr → List Terminal → Type 0
Makes disjunction ts e rest = past disjunction rest ≡ true → (g : Expr → State) → made (whole g) ts ≡ made (tail_then disjunction e g) rest
Makes conjunction ts e rest = past conjunction rest ≡ true → (g : Expr → State) → made (conjunction_state g) ts ≡ made (tail_then conjunction e g) rest
Makes comparison ts e rest = past conjunction rest ≡ true → (g : Expr → State) → made (comparison_state g) ts ≡ made (g e) rest
Makes sum ts e rest = past sum rest ≡ true → (g : Expr → State) → made (sum_state g) ts ≡ made (tail_then sum e g) rest
Makes term ts e rest = past term rest ≡ true → (g : Expr → State) → made (term_state g) ts ≡ made (tail_then term e g) rest
Makes factor ts e rest = past term rest ≡ true → (g : Expr → State) → made (atom_then true g) ts ≡ made (g e) rest
Makes atom ts e rest = past term rest ≡ true → (signed : Bool) (g : Expr → State) → made (atom_then signed g) ts ≡ made (g e) rest

name_made : (n : List ℕ) (at : At) (ts : List Terminal) → past term ts ≡ true → (g : Expr → State) → made (name_end n at g) ts ≡ made (g (variable at n)) ts
name_made n at [] e g = refl
name_made n at (t ∷ ts) e g = rw (no_square t.kind e) refl
  where
    no_square : (kind : TokenKind) → past_at term (binary_of kind) (is_sign Sign.LeftSquare kind) ≡ true → is_sign Sign.LeftSquare kind ≡ false
    no_square (TokenKind.Sign Sign.LeftSquare) f = cc
    no_square (TokenKind.Sign _) f = refl
    no_square (TokenKind.Word w) f = refl
    no_square (TokenKind.Name m) f = refl
    no_square (TokenKind.Number m) f = refl

-- a token at which an expression ends
token_past : {kind : TokenKind} {ts rest : List Terminal} → IsToken kind ts rest → binary_of kind ≡ None → is_sign Sign.LeftSquare kind ≡ false → past disjunction ts ≡ true
token_past there e f = rw (e, f) refl

token_fall : {kind : TokenKind} {ts rest : List Terminal} → IsToken kind ts rest → binary_of kind ≡ None → (e : Expr) (f : Expr → State) → made (tail_then disjunction e f) ts ≡ made (f e) ts
token_fall there h e f = rw h refl

sign_made : {s : Sign} {ts rest : List Terminal} → IsToken (TokenKind.Sign s) ts rest → (r : State) → made (sign_then s r) ts ≡ made r rest
sign_made {s} there r = rw (eq-eqb (sign_number s) (sign_number s) refl) refl

word_made : {w : Keyword} {ts rest : List Terminal} → IsToken (TokenKind.Word w) ts rest → (r : State) → made (word_then w r) ts ≡ made r rest
word_made {w} there r = rw (eq-eqb (word_number w) (word_number w) refl) refl

makes_expr : {level : Level} {ts rest : List Terminal} {e : Expr} → IsExpr level ts e rest → Makes level ts e rest
makes_expr {rest = rest} (a_conjunction d) = λ p g. makes_expr d (weaker disjunction conjunction rest refl p) (λ e. tail_then disjunction e g) ∙ fall disjunction conjunction rest refl p _ _
makes_expr {rest = rest} (disjoined left by right) = λ p g.
    makes_expr left (operator_past by) g ∙ operator_made by _ g ∙ makes_expr right (weaker disjunction conjunction rest refl p) _ ∙ fall disjunction conjunction rest refl p _ _
makes_expr (a_comparison d) = λ p g. makes_expr d p (λ e. tail_then conjunction e g)
makes_expr {rest = rest} (conjoined left by right) = λ p g. makes_expr left (operator_past by) g ∙ operator_made by _ g ∙ makes_expr right p _
makes_expr {rest = rest} (a_sum d) = λ p g.
    makes_expr d (weaker conjunction sum rest refl p) (λ e. tail_then comparison e g) ∙ fall conjunction sum rest refl p _ _ ∙ fall conjunction comparison rest refl p _ _
makes_expr {rest = rest} (compared {a = a} left by right) = λ p g.
    let q = operator_past by in
    makes_expr left (weaker comparison sum a refl q) (λ e. tail_then comparison e g) ∙ fall comparison sum a refl q _ _ ∙ operator_made by _ g
    ∙ makes_expr right (weaker conjunction sum rest refl p) _ ∙ fall conjunction sum rest refl p _ _
makes_expr {rest = rest} (a_term d) = λ p g. makes_expr d (weaker sum term rest refl p) (λ e. tail_then sum e g) ∙ fall sum term rest refl p _ _
makes_expr {rest = rest} (added left by right) = λ p g.
    makes_expr left (operator_past by) g ∙ operator_made by _ g ∙ makes_expr right (weaker sum term rest refl p) _ ∙ fall sum term rest refl p _ _
makes_expr (a_factor d) = λ p g. makes_expr d p (λ e. tail_then term e g)
makes_expr (multiplied left by right) = λ p g. makes_expr left (operator_past by) g ∙ operator_made by _ g ∙ makes_expr right p _
makes_expr (an_atom d) = λ p g. makes_expr d p true g
makes_expr (applied {at = at} {op = op} (before here h) d) = λ p g. rw h (makes_expr d p false (λ e. g (unary at op e)))
makes_expr (a_number here) = λ p signed g. refl
makes_expr (yes here) = λ p signed g. refl
makes_expr (no here) = λ p signed g. refl
makes_expr {rest = rest} (a_variable {at = at} {name = n} here) = λ p signed g. name_made n at rest p g
makes_expr (an_element {at = at} {name = n} here there index close) = λ p signed g.
    makes_expr index (token_past close refl refl) (λ i. sign_then Sign.RightSquare (g (element at n i))) ∙ token_fall close refl _ _ ∙ sign_made close _
makes_expr (bracketed there d close) = λ p signed g.
    makes_expr d (token_past close refl refl) (λ e. sign_then Sign.RightRound (g e)) ∙ token_fall close refl _ _ ∙ sign_made close _

-- an expression in front of a token at which it ends
makes_whole : {kind : TokenKind} {ts a rest : List Terminal} {e : Expr} → IsWhole ts e a → IsToken kind a rest → binary_of kind ≡ None → is_sign Sign.LeftSquare kind ≡ false →
    (f : Expr → State) → made (whole f) ts ≡ made (f e) a
makes_whole d end h g f = makes_expr d (token_past end h g) f ∙ token_fall end h _ f

-- ---- statements

-- no else block stands here
abbrev no_branch : List Terminal → Bool
no_branch [] = true
no_branch (t ∷ ts) = not (is_word Keyword.Else t.kind)

stmt_start : {ts rest : List Terminal} {s : Stmt} → IsStmt ts s rest → no_branch ts ≡ true
stmt_start (assigned here d e f) = refl
stmt_start (assigned_at here d e f g h i) = refl
stmt_start (received here d e f g) = refl
stmt_start (sent here d e f g) = refl
stmt_start (chosen here d e f) = refl
stmt_start (counted here d e f g) = refl
stmt_start (repeated here d e f g) = refl
stmt_start (done_in here d e) = refl

stmts_start : {ts a rest : List Terminal} {b : Block} → IsStmts ts b a → IsToken (TokenKind.Sign Sign.RightBrace) a rest → no_branch ts ≡ true
stmts_start no_more there = refl
stmts_start (one_more s others) close = stmt_start s

no_branch_made : (ts : List Terminal) → no_branch ts ≡ true → (f : Branch → State) → made (else_then f) ts ≡ made (f absent) ts
no_branch_made [] e f = refl
no_branch_made (t ∷ ts) e f = rw (go (is_word Keyword.Else t.kind) e) refl
  where
    go : (b : Bool) → not b ≡ true → b ≡ false
    go true g = cc
    go false g = refl

-- clauses of windows, in front of a block
makes_within : {ts a rest : List Terminal} {n : Option Placed} {b : Block} → IsClause Keyword.Finish Keyword.Within ts n a → IsBlock a b rest → (f : Option Placed → State) → made (within_then f) ts ≡ made (f n) a
makes_within unsaid (block there inner end) f = refl
makes_within (said there there (numbered here)) b f = refl

makes_before : {ts a c rest : List Terminal} {m n : Option Placed} {b : Block} → IsClause Keyword.Start Keyword.Before ts m a → IsClause Keyword.Finish Keyword.Within a n c → IsBlock c b rest →
    (f : Option Placed → Option Placed → State) → made (before_then (λ x. within_then (λ y. f x y))) ts ≡ made (f m n) c
makes_before unsaid unsaid (block there inner end) f = refl
makes_before unsaid (said there there (numbered here)) b f = refl
makes_before {m = m} (said there there (numbered here)) w b f = makes_within w b (λ y. f m y)

makes_window : {ts a rest : List Terminal} {w : Window} {b : Block} → IsWindow ts w a → IsBlock a b rest → (f : Window → State) → made (window_then f) ts ≡ made (f w) a
makes_window (window unsaid unsaid unsaid) (block there inner end) f = refl
makes_window (window unsaid unsaid (said there there (numbered here))) b f = refl
makes_window (window {before = m} unsaid (said there there (numbered here)) w) b f = makes_within w b (λ y. f (window_of None m y))
makes_window (window {after = m} (said there there (numbered here)) v w) b f = makes_before v w b (λ x y. f (window_of m x y))

mutual
  makes_block : {ts rest : List Terminal} {b : Block} → IsBlock ts b rest → (f : Block → State) → made (block_state f) ts ≡ made (f b) rest
  makes_block (block there inner close) f = makes_stmts inner close f

  makes_stmts : {ts a rest : List Terminal} {b : Block} → IsStmts ts b a → IsToken (TokenKind.Sign Sign.RightBrace) a rest → (f : Block → State) → made (stmts_then f) ts ≡ made (f b) rest
  makes_stmts no_more there f = refl
  makes_stmts (one_more {s = s} d others) close f = makes_stmt d (stmts_start others close) f ∙ makes_stmts others close (λ b. f (next s b))

  makes_stmt : {ts rest : List Terminal} {s : Stmt} → IsStmt ts s rest → no_branch rest ≡ true → (f : Block → State) → made (stmts_then f) ts ≡ made (stmts_then (λ b. f (next s b))) rest
  makes_stmt (assigned here there value end) p f = makes_whole value end refl refl _ ∙ sign_made end _
  makes_stmt (assigned_at here there index close there value end) p f = makes_whole index close refl refl _ ∙ sign_made close _ ∙ makes_whole value end refl refl _ ∙ sign_made end _
  makes_stmt (received here here there here there) p f = refl
  makes_stmt (sent here value to here there) p f = makes_whole value to refl refl _ ∙ word_made to _
  makes_stmt (chosen here test held other) p f = before_block test held _ ∙ makes_block held _ ∙ makes_branch other p _
  makes_stmt (counted here here there (numbered here) body) p f = makes_block body _
  makes_stmt (repeated here test limit (numbered here) body) p f = makes_whole test limit refl refl _ ∙ word_made limit _ ∙ makes_block body _
  makes_stmt (done_in here w body) p f = makes_window w body _ ∙ makes_block body _

  before_block : {ts a rest : List Terminal} {e : Expr} {b : Block} → IsWhole ts e a → IsBlock a b rest → (f : Expr → State) → made (whole f) ts ≡ made (f e) a
  before_block d (block brace inner close) f = makes_whole d brace refl refl f

  makes_branch : {ts rest : List Terminal} {b : Branch} → IsBranch ts b rest → no_branch rest ≡ true → (f : Branch → State) → made (else_then f) ts ≡ made (f b) rest
  makes_branch {rest = rest} no_else p f = no_branch_made rest p f
  makes_branch (with_else there body) p f = makes_block body (λ b. f (present b))

-- ---- declarations and tasks

makes_int : {state : Bool} {ts a rest : List Terminal} {kind : DeclKind} → IsInt state ts kind a → IsToken (TokenKind.Sign Sign.Semicolon) a rest → (f : DeclKind → State) →
    made (int_then state (λ k. sign_then Sign.Semicolon (f k))) ts ≡ made (f kind) rest
makes_int {state = true} (an_array there (numbered here) there) there f = refl
makes_int {state = false} (an_array there (numbered here) there) there f = refl
makes_int a_local there f = refl
makes_int (a_state unset) there f = refl
makes_int (a_state (set there here)) there f = refl
makes_int (a_state (set_below there there here)) there f = refl

makes_bool : {state : Bool} {ts a rest : List Terminal} {kind : DeclKind} → IsBool state ts kind a → IsToken (TokenKind.Sign Sign.Semicolon) a rest → (f : DeclKind → State) →
    made (bool_then state (λ k. sign_then Sign.Semicolon (f k))) ts ≡ made (f kind) rest
makes_bool a_local_truth there f = refl
makes_bool (a_state_truth unset_truth) there f = refl
makes_bool (a_state_truth (set_true there there)) there f = refl
makes_bool (a_state_truth (set_false there there)) there f = refl

makes_decl : {ts rest : List Terminal} {d : Decl} → IsDecl ts d rest → (f : List Decl → State) → made (decls_then f) ts ≡ made (decls_then (λ ds. f (d ∷ ds))) rest
makes_decl (an_input there here there) f = refl
makes_decl (an_output there here there) f = refl
makes_decl (an_int {state = true} there there here d end) f = makes_int d end _
makes_decl (an_int {state = false} there there here d end) f = makes_int d end _
makes_decl (a_bool {state = true} there there here d end) f = makes_bool d end _
makes_decl (a_bool {state = false} there there here d end) f = makes_bool d end _

makes_decls : {ts a rest : List Terminal} {ds : List Decl} → IsDecls ts ds a → IsToken (TokenKind.Word Keyword.Every) a rest → (f : List Decl → State) → made (decls_then f) ts ≡ made (f ds) a
makes_decls no_decl there f = refl
makes_decls (one_decl {d = d} e others) close f = makes_decl e f ∙ makes_decls others close (λ ds. f (d ∷ ds))

-- a task, behind its first word
makes_task : {ts rest : List Terminal} {t : Task} → IsTask ts t rest → (f : List Task → State) → made (tasks_then f) ts ≡ made (tasks_then (λ us. f (t ∷ us))) rest
makes_task (task there here there (numbered here) there ds (every word (numbered here) w b) end) f =
    makes_decls ds word _ ∙ word_made word _ ∙ makes_within w b _ ∙ makes_block b _ ∙ sign_made end _

makes_program : {ts : List Terminal} {p : List Task} → IsProgram ts p → (f : List Task → State) → made (tasks_then f) ts ≡ made (f p) []
makes_program (last_task t) f = makes_task t f
makes_program (one_task {t = t} d others) f = makes_task d f ∙ makes_program others (λ us. f (t ∷ us))

-- tokens have one tree at most
pub one_tree : (ts : List Terminal) (p q : List Task) → IsProgram ts p → IsProgram ts q → p ≡ q
one_tree ts p q d e = same_Some _ _ (sym (makes_program d finished) ∙ makes_program e finished)
