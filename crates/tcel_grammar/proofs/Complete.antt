-- The machine reads each program.
use Rattle.std.proofs.Common.{◌≡◌, Bool, true, false, List, [], ◌∷◌, Option, None, refl, ◌∙◌}
use Rattle.tcel_token.specs.declared.sign.Sign.{Sign}
use Rattle.tcel_token.specs.declared.keyword.Keyword.{Keyword}
use Rattle.tcel_token.specs.declared.token.TokenKind.{TokenKind}
use Rattle.tcel_token.specs.Terminal.{Terminal}
use Rattle.tcel_tree.specs.Language.{Expr, Block, Stmt, Branch, Task}
use Rattle.tcel_tree.specs.declared.placed.Placed.{Placed}
use Rattle.tcel_tree.specs.declared.stmt.Window.{Window}
use Rattle.tcel_tree.specs.declared.task.Decl.{Decl}
use Rattle.tcel_tree.specs.declared.task.DeclKind.{DeclKind}
use Rattle.tcel_grammar.specs.Expressions.{Level, binary_of, disjunction, conjunction, comparison, sum, term, factor, atom, here, IsToken, there, before, IsExpr, a_conjunction, disjoined, a_comparison, conjoined, a_sum, compared, a_term, added, a_factor, multiplied, an_atom, applied, a_number, yes, no, a_variable, an_element, bracketed}
use Rattle.tcel_grammar.specs.Statements.{IsWhole, IsNumber, numbered, IsClause, unsaid, said, IsWindow, window, IsBlock, block, IsStmts, no_more, one_more, IsStmt, assigned, assigned_at, received, sent, chosen, counted, repeated, done_in, IsBranch, no_else, with_else}
use Rattle.tcel_grammar.specs.Programs.{unset, set, set_below, unset_truth, set_true, set_false, IsInt, an_array, a_local, a_state, IsBool, a_local_truth, a_state_truth, IsDecl, an_input, an_output, an_int, a_bool, IsDecls, no_decl, one_decl, every, IsTask, task, IsProgram, last_task, one_task}
use Rattle.tcel_grammar.specs.Machine.{Symbol, operand, behind_operand, this_sign, this_word, any_name, any_number, more_stmts, more_decls, task_block, behind_int, behind_bool, more_tasks, one_block, do_clauses, behind_after, last_clause, expr, program, is_sign}
use Rattle.tcel_grammar.proofs.Accepts.{accepts, last, operator_read, past_operand, sign_read, word_read}

-- what the machine does with an expression of a level: it comes behind an operand
abbrev Claim : Level → List Terminal → List Terminal → Type 0
Claim disjunction ts rest = (named compared : Bool) × ((k : List Symbol) → accepts (expr ∷ k) ts ≡ accepts (last named compared ∷ k) rest)
Claim conjunction ts rest = (named compared : Bool) × ((k : List Symbol) → accepts (expr ∷ k) ts ≡ accepts (last named compared ∷ k) rest)
Claim comparison ts rest = (named compared : Bool) × ((k : List Symbol) → accepts (expr ∷ k) ts ≡ accepts (last named compared ∷ k) rest)
Claim sum ts rest = (named : Bool) × ((c : Bool) (k : List Symbol) → accepts (operand true c ∷ k) ts ≡ accepts (last named c ∷ k) rest)
Claim term ts rest = (named : Bool) × ((c : Bool) (k : List Symbol) → accepts (operand true c ∷ k) ts ≡ accepts (last named c ∷ k) rest)
Claim factor ts rest = (named : Bool) × ((c : Bool) (k : List Symbol) → accepts (operand true c ∷ k) ts ≡ accepts (last named c ∷ k) rest)
Claim atom ts rest = (named : Bool) × ((signed c : Bool) (k : List Symbol) → accepts (operand signed c ∷ k) ts ≡ accepts (last named c ∷ k) rest)

pub reads_expr : {level : Level} {ts rest : List Terminal} {e : Expr} → IsExpr level ts e rest → Claim level ts rest
reads_expr (a_conjunction d) = reads_expr d
reads_expr (disjoined left by right) =
    let a = reads_expr left in
    let b = reads_expr right in
    (b.0, b.1, λ k. a.2 k ∙ operator_read a.0 a.1 by refl k ∙ b.2 k)
reads_expr (a_comparison d) = reads_expr d
reads_expr (conjoined left by right) =
    let a = reads_expr left in
    let b = reads_expr right in
    (b.0, b.1, λ k. a.2 k ∙ operator_read a.0 a.1 by refl k ∙ b.2 k)
reads_expr (a_sum d) = let a = reads_expr d in (a.0, false, λ k. a.1 false k)
reads_expr (compared left by right) =
    let a = reads_expr left in
    let b = reads_expr right in
    (b.0, true, λ k. a.1 false k ∙ operator_read a.0 false by refl k ∙ b.1 true k)
reads_expr (a_term d) = reads_expr d
reads_expr (added left by right) =
    let a = reads_expr left in
    let b = reads_expr right in
    (b.0, λ c k. a.1 c k ∙ operator_read a.0 c by refl k ∙ b.1 c k)
reads_expr (a_factor d) = reads_expr d
reads_expr (multiplied left by right) =
    let a = reads_expr left in
    let b = reads_expr right in
    (b.0, λ c k. a.1 c k ∙ operator_read a.0 c by refl k ∙ b.1 c k)
reads_expr (an_atom d) = let a = reads_expr d in (a.0, λ c k. a.1 true c k)
reads_expr (applied (before here e) d) = let a = reads_expr d in (a.0, λ c k. rw e (a.1 false c k))
reads_expr (a_number here) = (false, λ s c k. refl)
reads_expr (yes here) = (false, λ s c k. refl)
reads_expr (no here) = (false, λ s c k. refl)
reads_expr (a_variable here) = (true, λ s c k. refl)
reads_expr (an_element here there index end) =
    let a = reads_expr index in
    (false, λ s c k. a.2 (this_sign Sign.RightSquare ∷ behind_operand 5 c ∷ k) ∙ past_operand a.0 a.1 end refl refl _ ∙ sign_read end _)
reads_expr (bracketed there d end) =
    let a = reads_expr d in
    (false, λ s c k. a.2 (this_sign Sign.RightRound ∷ behind_operand 5 c ∷ k) ∙ past_operand a.0 a.1 end refl refl _ ∙ sign_read end _)

-- an expression and the sign behind it
sign_behind : {s : Sign} {ts a rest : List Terminal} {e : Expr} → IsWhole ts e a → IsToken (TokenKind.Sign s) a rest → binary_of (TokenKind.Sign s) ≡ None →
    is_sign Sign.LeftSquare (TokenKind.Sign s) ≡ false → (k : List Symbol) → accepts (expr ∷ this_sign s ∷ k) ts ≡ accepts k rest
sign_behind {s} d end p q k = let a = reads_expr d in a.2 (this_sign s ∷ k) ∙ past_operand a.0 a.1 end p q (this_sign s ∷ k) ∙ sign_read end k

-- an expression and the word behind it
word_behind : {w : Keyword} {ts a rest : List Terminal} {e : Expr} → IsWhole ts e a → IsToken (TokenKind.Word w) a rest → binary_of (TokenKind.Word w) ≡ None →
    (k : List Symbol) → accepts (expr ∷ this_word w ∷ k) ts ≡ accepts k rest
word_behind {w} d end p k = let a = reads_expr d in a.2 (this_word w ∷ k) ∙ past_operand a.0 a.1 end p refl (this_word w ∷ k) ∙ word_read end k

-- an expression before a block
before_block : {ts a rest : List Terminal} {e : Expr} {b : Block} → IsWhole ts e a → IsBlock a b rest → (k : List Symbol) → accepts (expr ∷ one_block ∷ k) ts ≡ accepts (one_block ∷ k) a
before_block d (block brace inner end) k = let a = reads_expr d in a.2 (one_block ∷ k) ∙ past_operand a.0 a.1 brace refl refl (one_block ∷ k)

reads_number : {ts rest : List Terminal} {n : Placed} → IsNumber ts n rest → (k : List Symbol) → accepts (any_number ∷ k) ts ≡ accepts k rest
reads_number (numbered here) k = refl

-- the last clause of a window
reads_within : {ts a rest : List Terminal} {n : Option Placed} {b : Block} → IsClause Keyword.Finish Keyword.Within ts n a → IsBlock a b rest → (k : List Symbol) →
    accepts (last_clause ∷ k) ts ≡ accepts k a
reads_within unsaid (block there inner end) k = refl
reads_within (said there there (numbered here)) b k = refl

-- the last two
reads_before : {ts a c rest : List Terminal} {m n : Option Placed} {b : Block} → IsClause Keyword.Start Keyword.Before ts m a → IsClause Keyword.Finish Keyword.Within a n c → IsBlock c b rest →
    (k : List Symbol) → accepts (behind_after ∷ k) ts ≡ accepts k c
reads_before unsaid unsaid (block there inner end) k = refl
reads_before unsaid (said there there (numbered here)) b k = refl
reads_before (said there there (numbered here)) w b k = reads_within w b k

reads_window : {ts a rest : List Terminal} {w : Window} {b : Block} → IsWindow ts w a → IsBlock a b rest → (k : List Symbol) → accepts (do_clauses ∷ k) ts ≡ accepts k a
reads_window (window unsaid unsaid unsaid) (block there inner end) k = refl
reads_window (window unsaid unsaid (said there there (numbered here))) b k = refl
reads_window (window unsaid (said there there (numbered here)) w) b k = reads_within w b k
reads_window (window (said there there (numbered here)) v w) b k = reads_before v w b k

-- what the machine does where statements may come, maybe behind an `if` block: they may come again
abbrev Goes : Bool → List Terminal → List Terminal → Type 0
Goes o ts rest = (later : Bool) × ((k : List Symbol) → accepts (more_stmts o ∷ k) ts ≡ accepts (more_stmts later ∷ k) rest)

mutual
  reads_block : {ts rest : List Terminal} {b : Block} → IsBlock ts b rest → (k : List Symbol) → accepts (one_block ∷ k) ts ≡ accepts k rest
  reads_block (block there inner there) k = (reads_stmts inner false).1 k

  reads_stmts : {ts rest : List Terminal} {b : Block} → IsStmts ts b rest → (o : Bool) → Goes o ts rest
  reads_stmts no_more o = (o, λ k. refl)
  reads_stmts (one_more s others) o =
      let a = reads_stmt s o in
      let b = reads_stmts others a.0 in
      (b.0, λ k. a.1 k ∙ b.1 k)

  reads_stmt : {ts rest : List Terminal} {s : Stmt} → IsStmt ts s rest → (o : Bool) → Goes o ts rest
  reads_stmt (assigned here there value end) o = (false, λ k. sign_behind value end refl refl (more_stmts false ∷ k))
  reads_stmt (assigned_at here there index close there value end) o =
      (false, λ k. sign_behind index close refl refl (this_sign Sign.Becomes ∷ expr ∷ this_sign Sign.Semicolon ∷ more_stmts false ∷ k) ∙ sign_behind value end refl refl (more_stmts false ∷ k))
  reads_stmt (received here here there here there) o = (false, λ k. refl)
  reads_stmt (sent here value to here there) o = (false, λ k. word_behind value to refl (any_name ∷ this_sign Sign.Semicolon ∷ more_stmts false ∷ k))
  reads_stmt (chosen here test held other) o =
      let c = reads_branch other in
      (c.0, λ k. before_block test held (more_stmts true ∷ k) ∙ reads_block held (more_stmts true ∷ k) ∙ c.1 k)
  reads_stmt (counted here here there (numbered here) body) o = (false, λ k. reads_block body (more_stmts false ∷ k))
  reads_stmt (repeated here test limit (numbered here) body) o =
      (false, λ k. word_behind test limit refl (any_number ∷ one_block ∷ more_stmts false ∷ k) ∙ reads_block body (more_stmts false ∷ k))
  reads_stmt (done_in here w body) o = (false, λ k. reads_window w body (one_block ∷ more_stmts false ∷ k) ∙ reads_block body (more_stmts false ∷ k))

  reads_branch : {ts rest : List Terminal} {b : Branch} → IsBranch ts b rest → Goes true ts rest
  reads_branch no_else = (true, λ k. refl)
  reads_branch (with_else there body) = (false, λ k. reads_block body (more_stmts false ∷ k))

-- behind `int NAME` and `bool NAME`, in front of a semicolon
reads_int : {state : Bool} {ts a rest : List Terminal} {kind : DeclKind} → IsInt state ts kind a → IsToken (TokenKind.Sign Sign.Semicolon) a rest →
    (k : List Symbol) → accepts (behind_int state ∷ this_sign Sign.Semicolon ∷ k) ts ≡ accepts k rest
reads_int (an_array there (numbered here) there) there k = refl
reads_int a_local there k = refl
reads_int (a_state unset) there k = refl
reads_int (a_state (set there here)) there k = refl
reads_int (a_state (set_below there there here)) there k = refl

reads_bool : {state : Bool} {ts a rest : List Terminal} {kind : DeclKind} → IsBool state ts kind a → IsToken (TokenKind.Sign Sign.Semicolon) a rest →
    (k : List Symbol) → accepts (behind_bool state ∷ this_sign Sign.Semicolon ∷ k) ts ≡ accepts k rest
reads_bool a_local_truth there k = refl
reads_bool (a_state_truth unset_truth) there k = refl
reads_bool (a_state_truth (set_true there there)) there k = refl
reads_bool (a_state_truth (set_false there there)) there k = refl

reads_decl : {ts rest : List Terminal} {d : Decl} → IsDecl ts d rest → (k : List Symbol) → accepts (more_decls ∷ k) ts ≡ accepts (more_decls ∷ k) rest
reads_decl (an_input there here there) k = refl
reads_decl (an_output there here there) k = refl
reads_decl (an_int {state = true} there there here d end) k = reads_int d end (more_decls ∷ k)
reads_decl (an_int {state = false} there there here d end) k = reads_int d end (more_decls ∷ k)
reads_decl (a_bool {state = true} there there here d end) k = reads_bool d end (more_decls ∷ k)
reads_decl (a_bool {state = false} there there here d end) k = reads_bool d end (more_decls ∷ k)

reads_decls : {ts rest : List Terminal} {ds : List Decl} → IsDecls ts ds rest → (k : List Symbol) → accepts (more_decls ∷ k) ts ≡ accepts (more_decls ∷ k) rest
reads_decls no_decl k = refl
reads_decls (one_decl d others) k = reads_decl d k ∙ reads_decls others k

reads_task : {ts rest : List Terminal} {t : Task} → IsTask ts t rest → (k : List Symbol) → accepts (this_word Keyword.Task ∷ any_name ∷ this_word Keyword.Priority ∷ any_number ∷ task_block ∷ k) ts ≡ accepts k rest
reads_task (task there here there (numbered here) there ds (every there (numbered here) w b) end) k =
    reads_decls ds k ∙ reads_within w b (one_block ∷ this_sign Sign.RightBrace ∷ k) ∙ reads_block b (this_sign Sign.RightBrace ∷ k) ∙ sign_read end k

-- behind a task, the next one is read as the first is
next_task : {ts rest : List Terminal} {t : Task} → IsTask ts t rest → accepts (more_tasks ∷ []) ts ≡ accepts program ts
next_task (task there name there priority brace ds e end) = refl

next_program : {ts : List Terminal} {p : List Task} → IsProgram ts p → accepts (more_tasks ∷ []) ts ≡ accepts program ts
next_program (last_task t) = next_task t
next_program (one_task t others) = next_task t

-- each program is read to its end
pub reads_program : {ts : List Terminal} {p : List Task} → IsProgram ts p → accepts program ts ≡ true
reads_program (last_task t) = reads_task t (more_tasks ∷ [])
reads_program (one_task t others) = reads_task t (more_tasks ∷ []) ∙ next_program others ∙ reads_program others
