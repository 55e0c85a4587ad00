-- The canonical tokens of a program are those that it was read from, but for some brackets and signs.
use Rattle.std.proofs.Common.{◌≡◌, ℕ, zero, suc, Bool, true, false, List, [], ◌∷◌, Option, Some, refl, sym, subst, arith}
use Rattle.std.proofs.lemmas.Int.{ints}
use Rattle.std.specs.Prelude.{ℤ, pos, negsuc, neg_ℤ, flat_map}
use Rattle.tcel_num.specs.declared.at.At.{At}
use Rattle.tcel_token.specs.declared.keyword.Keyword.{Keyword}
use Rattle.tcel_token.specs.declared.sign.Sign.{Sign}
use Rattle.tcel_token.specs.declared.token.TokenKind.{TokenKind}
use Rattle.tcel_token.specs.Terminal.{Terminal, kinds}
use Rattle.tcel_token.specs.WellFormed.{IsWritable}
use Rattle.tcel_tree.specs.declared.placed.Placed.{Placed}
use Rattle.tcel_tree.specs.declared.stmt.Window.{Window}
use Rattle.tcel_tree.specs.declared.task.Decl.{Decl}
use Rattle.tcel_tree.specs.declared.task.DeclKind.{DeclKind}
use Rattle.tcel_tree.specs.Language.{Expr, Block, Stmt, Branch, Task}
use Rattle.tcel_grammar.specs.Expressions.{disjunction, IsPlaced, IsToken}
use Rattle.tcel_grammar.specs.Statements.{IsWhole, IsNumber, numbered, IsClause, unsaid, said, IsWindow, window, IsBlock, block, IsStmts, no_more, one_more, IsStmt, assigned, assigned_at, received, sent, chosen, counted, repeated, done_in, IsBranch, no_else, with_else}
use Rattle.tcel_grammar.specs.Programs as grammar
use Rattle.tcel_grammar.specs.Programs.{IsFirst, unset, set, set_below, IsFirstTruth, unset_truth, set_true, set_false, IsInt, an_array, a_local, a_state, IsBool, a_local_truth, a_state_truth, IsDecl, an_input, an_output, an_int, a_bool, IsDecls, no_decl, one_decl, every, IsTask, task, IsProgram, last_task, one_task}
use Rattle.tcel_show.specs.Canonical.{whole_tokens, word, clause_tokens, window_tokens, braced, block_tokens, stmt_tokens, branch_tokens, first_tokens, first_truth_tokens, keeper, front_tokens, back_tokens, decl_tokens, task_tokens, program_tokens}
use Rattle.tcel_show.proofs.Lighter.{Lightens, nothing, token_then, placed_then, then, unsigned_then}
use Rattle.tcel_show.proofs.LighterExprs.{expr_fits}
use Rattle.tcel_show.proofs.ReadExprs.{Writable, placed_writable, token_writable}
use Rattle.tcel_show.proofs.ReadStmts.{number_known}
use Rattle.tcel_show.proofs.ReadPrograms.{below_same, decl_of, variable_tokens_are, decl_known, task_known}

-- ---- statements

whole_lightens : {ts rest : List Terminal} {e : Expr} → IsWhole ts e rest → Lightens (whole_tokens e) ts rest
whole_lightens d = expr_fits d disjunction refl

number_then : {n : Placed} {ks : List TokenKind} {ts more rest : List Terminal} → IsNumber ts n more → Lightens ks more rest → Lightens (TokenKind.Number n.value ∷ ks) ts rest
number_then (numbered p) h = placed_then p h

clause_lightens : {opening closing : Keyword} {ts rest : List Terminal} {o : Option Placed} → IsClause opening closing ts o rest → Lightens (clause_tokens opening closing o) ts rest
clause_lightens unsaid = nothing
clause_lightens (said a b n) = token_then a (token_then b (number_then n nothing))

window_lightens : {ts rest : List Terminal} {w : Window} → IsWindow ts w rest → Lightens (window_tokens w) ts rest
window_lightens (window a b c) = then (then (clause_lightens a) (clause_lightens b)) (clause_lightens c)

mutual
  block_lightens : {ts rest : List Terminal} {b : Block} → IsBlock ts b rest → Lightens (braced (block_tokens b)) ts rest
  block_lightens (block l d r) = token_then l (then (stmts_lighten d) (token_then r nothing))

  stmts_lighten : {ts rest : List Terminal} {b : Block} → IsStmts ts b rest → Lightens (block_tokens b) ts rest
  stmts_lighten no_more = nothing
  stmts_lighten (one_more d ds) = then (stmt_lightens d) (stmts_lighten ds)

  stmt_lightens : {ts rest : List Terminal} {s : Stmt} → IsStmt ts s rest → Lightens (stmt_tokens s) ts rest
  stmt_lightens (assigned n o d r) = placed_then n (token_then o (then (whole_lightens d) (token_then r nothing)))
  stmt_lightens (assigned_at n l i r o d e) =
      placed_then n (token_then l (then (whole_lightens i) (token_then r (token_then o (then (whole_lightens d) (token_then e nothing))))))
  stmt_lightens (received k n f p e) = placed_then k (placed_then n (token_then f (placed_then p (token_then e nothing))))
  stmt_lightens (sent k d t p e) = placed_then k (then (whole_lightens d) (token_then t (placed_then p (token_then e nothing))))
  stmt_lightens (chosen k d b o) = placed_then k (then (whole_lightens d) (then (block_lightens b) (branch_lightens o)))
  stmt_lightens (counted k n l t b) = placed_then k (placed_then n (token_then l (number_then t (block_lightens b))))
  stmt_lightens (repeated k d l t b) = placed_then k (then (whole_lightens d) (token_then l (number_then t (block_lightens b))))
  stmt_lightens (done_in k w b) = placed_then k (then (window_lightens w) (block_lightens b))

  branch_lightens : {ts rest : List Terminal} {b : Branch} → IsBranch ts b rest → Lightens (branch_tokens b) ts rest
  branch_lightens no_else = nothing
  branch_lightens (with_else e b) = token_then e (block_lightens b)

-- ---- declarations

natural_lightens : (n : ℤ) {ts a rest : List Terminal} {at : At} → IsWritable (TokenKind.Number n) → IsToken (TokenKind.Sign Sign.Is) ts a →
    IsPlaced (TokenKind.Number n) a at rest → Lightens (first_tokens (Some n)) ts rest
natural_lightens (pos n) w i p = token_then i (placed_then p nothing)
natural_lightens (negsuc n) w i p = absurd (omega (arith, ints))

below_lightens : (n : ℤ) {ts a b rest : List Terminal} {at : At} → IsWritable (TokenKind.Number n) → IsToken (TokenKind.Sign Sign.Is) ts a →
    IsToken (TokenKind.Sign Sign.Minus) a b → IsPlaced (TokenKind.Number n) b at rest → Lightens (first_tokens (Some (neg_ℤ n))) ts rest
below_lightens (pos zero) w i m p = token_then i (unsigned_then m (placed_then p nothing))
below_lightens (pos (suc n)) w i m p = token_then i (token_then m (placed_then p nothing))
below_lightens (negsuc n) w i m p = absurd (omega (arith, ints))

first_lightens : {ts rest : List Terminal} {first : Option ℤ} → IsFirst ts first rest → Writable (kinds ts) → Lightens (first_tokens first) ts rest
first_lightens unset w = nothing
first_lightens (set {n = n} i p) w = natural_lightens n (placed_writable p (token_writable i w)).0 i p
first_lightens {ts} {rest} (set_below {n = n} i m p) w =
    let number = (placed_writable p (token_writable m (token_writable i w))).0 in
    subst (λ (z : ℤ). Lightens (first_tokens (Some z)) ts rest) (sym (below_same n number)) (below_lightens n number i m p)

truth_lightens : {ts rest : List Terminal} {first : Option Bool} → IsFirstTruth ts first rest → Lightens (first_truth_tokens first) ts rest
truth_lightens unset_truth = nothing
truth_lightens (set_true i t) = token_then i (token_then t nothing)
truth_lightens (set_false i t) = token_then i (token_then t nothing)

-- what stands in front of and behind a variable's name
record Around (state : Bool) (type : Keyword) (kind : DeclKind) (ts rest : List Terminal) : Type 0 where
  pub front : front_tokens kind ≡ keeper state ∷ word type ∷ []
  pub back : Lightens (back_tokens kind) ts rest

around_int : {state : Bool} {ts rest : List Terminal} {kind : DeclKind} → IsInt state ts kind rest → Writable (kinds ts) → Around state Keyword.Int kind ts rest
around_int (an_array l n r) w = record { front = refl; back = token_then l (number_then n (token_then r nothing)) }
around_int a_local w = record { front = refl; back = nothing }
around_int (a_state f) w = record { front = refl; back = first_lightens f w }

around_bool : {state : Bool} {ts rest : List Terminal} {kind : DeclKind} → IsBool state ts kind rest → Around state Keyword.Bool kind ts rest
around_bool a_local_truth = record { front = refl; back = nothing }
around_bool (a_state_truth f) = record { front = refl; back = truth_lightens f }

keeper_then : (state : Bool) {ks : List TokenKind} {ts more rest : List Terminal} → IsToken (TokenKind.Word (grammar.keeper state)) ts more → Lightens ks more rest →
    Lightens (keeper state ∷ ks) ts rest
keeper_then true k h = token_then k h
keeper_then false k h = token_then k h

variable_lightens : (state : Bool) (type : Keyword) (name : List ℕ) (at : At) (kind : DeclKind) {ts a b c d rest : List Terminal} →
    IsToken (TokenKind.Word (grammar.keeper state)) ts a → IsToken (TokenKind.Word type) a b → IsPlaced (TokenKind.Name name) b at c →
    Around state type kind c d → IsToken (TokenKind.Sign Sign.Semicolon) d rest → Lightens (decl_tokens (decl_of kind name at)) ts rest
variable_lightens state type name at kind {ts} {a} {b} {c} {d} {rest} k t n x e =
    subst (λ (ks : List TokenKind). Lightens ks ts rest) (sym (variable_tokens_are state type name at kind x.front))
    (keeper_then state k (token_then t (placed_then n (then x.back (token_then e nothing)))))

decl_lightens : {ts rest : List Terminal} {d : Decl} → IsDecl ts d rest → Writable (kinds ts) → Lightens (decl_tokens d) ts rest
decl_lightens (an_input i n e) w = token_then i (placed_then n (token_then e nothing))
decl_lightens (an_output i n e) w = token_then i (placed_then n (token_then e nothing))
decl_lightens (an_int {state = state} {at = at} {name = name} {kind = kind} k t n i e) w =
    let behind = (placed_writable n (token_writable t (token_writable k w))).1 in
    variable_lightens state Keyword.Int name at kind k t n (around_int i behind) e
decl_lightens (a_bool {state = state} {at = at} {name = name} {kind = kind} k t n b e) w = variable_lightens state Keyword.Bool name at kind k t n (around_bool b) e

decls_lighten : {ts rest : List Terminal} {ds : List Decl} → IsDecls ts ds rest → Writable (kinds ts) → Lightens (flat_map decl_tokens ds) ts rest
decls_lighten no_decl w = nothing
decls_lighten (one_decl x xs) w =
    then (decl_lightens x w) (decls_lighten xs (decl_known x w).behind)

-- ---- tasks and programs

task_lightens : {ts rest : List Terminal} {t : Task} → IsTask ts t rest → Writable (kinds ts) → Lightens (task_tokens t) ts rest
task_lightens (task k n p v l d (every e m c b) r) w =
    let inner = token_writable l (number_known v (token_writable p (placed_writable n (token_writable k w)).1)).behind in
    let frame = token_then e (number_then m (then (clause_lightens c) (block_lightens b))) in
    token_then k (placed_then n (token_then p (number_then v (token_then l
    (then (then (decls_lighten d inner) frame) (token_then r nothing))))))

pub program_lightens : {ts : List Terminal} {p : List Task} → IsProgram ts p → Writable (kinds ts) → Lightens (program_tokens p) ts []
program_lightens (last_task d) w = then (task_lightens d w) nothing
program_lightens (one_task d ds) w =
    then (task_lightens d w) (program_lightens ds (task_known d w).behind)
