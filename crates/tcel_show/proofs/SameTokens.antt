-- Trees that are equal but for places have the same canonical tokens.
use Rattle.std.proofs.Common.{◌≡◌, ℕ, List, [], ◌∷◌, ◌++◌, Option, Some, None, map, option_map, refl, sym, ap, ◌∙◌}
use Rattle.std.specs.Prelude.{flat_map}
use Rattle.tcel_token.specs.declared.keyword.Keyword.{Keyword}
use Rattle.tcel_token.specs.declared.sign.Sign.{Sign}
use Rattle.tcel_token.specs.declared.token.TokenKind.{TokenKind}
use Rattle.tcel_tree.specs.declared.placed.Placed.{Placed}
use Rattle.tcel_tree.specs.declared.stmt.Window.{Window}
use Rattle.tcel_tree.specs.declared.task.Decl.{Decl}
use Rattle.tcel_tree.specs.declared.task.DeclKind.{DeclKind}
use Rattle.tcel_tree.specs.declared.task.DeclKind.TheVariants.{Input, Output, Int, Bool, Array}
use Rattle.tcel_tree.specs.Language.{Expr, number, truth, variable, element, unary, binary, Block, done, next, Stmt, assign, assign_at, receive, send, choice, for_loop, while_loop, timed, Branch, absent, present, Task}
use Rattle.tcel_tree.specs.Unplaced.{unplaced, unplaced_expr, unplaced_window, unplaced_block, unplaced_stmt, unplaced_branch, unplaced_kind, unplaced_decl, unplaced_task, unplaced_program}
use Rattle.tcel_grammar.specs.Expressions.{Level, disjunction, factor, atom, level_of}
use Rattle.tcel_show.specs.Canonical.{op_token, left_place, right_place, enclosed, expr_tokens, whole_tokens, word, sign, clause_tokens, window_tokens, braced, for_head, limit_tokens, block_tokens, stmt_tokens, branch_tokens, front_tokens, back_tokens, decl_tokens, task_tokens, program_tokens}
use Rattle.tcel_show.proofs.ReadStmts.{ap_two, ap_three}

same_expr : (e : Expr) (place : Level) → expr_tokens (unplaced_expr e) place ≡ expr_tokens e place
same_expr (number at n) place = refl
same_expr (truth at b) place = refl
same_expr (variable at name) place = refl
same_expr (element at name i) place =
    ap (λ (ts : List TokenKind). TokenKind.Name name ∷ TokenKind.Sign Sign.LeftSquare ∷ (ts ++ TokenKind.Sign Sign.RightSquare ∷ [])) (same_expr i disjunction)
same_expr (unary at op e) place = ap (λ (ts : List TokenKind). enclosed factor place (op_token op ∷ ts)) (same_expr e atom)
same_expr (binary at op a b) place =
    ap_two (λ (xs ys : List TokenKind). enclosed (level_of op) place (xs ++ op_token op ∷ ys))
    (same_expr a (left_place (level_of op))) (same_expr b (right_place (level_of op)))

same_whole : (e : Expr) → whole_tokens (unplaced_expr e) ≡ whole_tokens e
same_whole e = same_expr e disjunction

same_clause : (opening closing : Keyword) (o : Option Placed) → clause_tokens opening closing (option_map unplaced o) ≡ clause_tokens opening closing o
same_clause opening closing None = refl
same_clause opening closing (Some n) = refl

same_window : (w : Window) → window_tokens (unplaced_window w) ≡ window_tokens w
same_window w =
    ap_three (λ (xs ys zs : List TokenKind). xs ++ ys ++ zs) (same_clause Keyword.Start Keyword.After w.after) (same_clause Keyword.Start Keyword.Before w.before)
    (same_clause Keyword.Finish Keyword.Within w.within)

mutual
  same_block : (b : Block) → block_tokens (unplaced_block b) ≡ block_tokens b
  same_block done = refl
  same_block (next s b) = ap_two (λ (xs ys : List TokenKind). xs ++ ys) (same_stmt s) (same_block b)

  same_stmt : (s : Stmt) → stmt_tokens (unplaced_stmt s) ≡ stmt_tokens s
  same_stmt (assign at name value) =
      ap (λ (ts : List TokenKind). TokenKind.Name name ∷ sign Sign.Becomes ∷ (ts ++ sign Sign.Semicolon ∷ [])) (same_whole value)
  same_stmt (assign_at at name index value) =
      ap_two
      (λ (xs ys : List TokenKind). TokenKind.Name name ∷ sign Sign.LeftSquare ∷ (xs ++ sign Sign.RightSquare ∷ sign Sign.Becomes ∷ (ys ++ sign Sign.Semicolon ∷ [])))
      (same_whole index) (same_whole value)
  same_stmt (receive at name name_at port port_at) = refl
  same_stmt (send at value port port_at) =
      ap (λ (ts : List TokenKind). word Keyword.Send ∷ (ts ++ word Keyword.To ∷ TokenKind.Name port ∷ sign Sign.Semicolon ∷ [])) (same_whole value)
  same_stmt (choice at test held other) =
      ap_three (λ (xs ys zs : List TokenKind). word Keyword.If ∷ (xs ++ (braced ys ++ zs))) (same_whole test) (same_block held) (same_branch other)
  same_stmt (for_loop at name name_at turns body) = ap (λ (ts : List TokenKind). for_head name turns ++ braced ts) (same_block body)
  same_stmt (while_loop at test turns body) =
      ap_two (λ (xs ys : List TokenKind). word Keyword.While ∷ (xs ++ (limit_tokens turns ++ braced ys))) (same_whole test) (same_block body)
  same_stmt (timed at window body) =
      ap_two (λ (xs ys : List TokenKind). word Keyword.Do ∷ (xs ++ braced ys)) (same_window window) (same_block body)

  same_branch : (b : Branch) → branch_tokens (unplaced_branch b) ≡ branch_tokens b
  same_branch absent = refl
  same_branch (present body) = ap (λ (ts : List TokenKind). word Keyword.Else ∷ braced ts) (same_block body)

decl_by : (kind : DeclKind) (name : List ℕ) →
    front_tokens (unplaced_kind kind) ++ TokenKind.Name name ∷ (back_tokens (unplaced_kind kind) ++ sign Sign.Semicolon ∷ [])
    ≡ front_tokens kind ++ TokenKind.Name name ∷ (back_tokens kind ++ sign Sign.Semicolon ∷ [])
decl_by Input name = refl
decl_by Output name = refl
decl_by (Int state first) name = refl
decl_by (Bool state first) name = refl
decl_by (Array state size) name = refl

same_decls : (ds : List Decl) → flat_map decl_tokens (map unplaced_decl ds) ≡ flat_map decl_tokens ds
same_decls [] = refl
same_decls (d ∷ ds) = ap_two (λ (xs ys : List TokenKind). xs ++ ys) (decl_by d.kind d.name) (same_decls ds)

same_task : (t : Task) → task_tokens (unplaced_task t) ≡ task_tokens t
same_task t =
    ap_three
    (λ (ds c b : List TokenKind).
    word Keyword.Task ∷ TokenKind.Name t.name ∷ word Keyword.Priority ∷ TokenKind.Number t.priority.value
    ∷ braced (ds ++ word Keyword.Every ∷ TokenKind.Number t.period.value ∷ (c ++ braced b)))
    (same_decls t.decls) (same_clause Keyword.Finish Keyword.Within t.finish) (same_block t.body)

same_program : (ts : List Task) → program_tokens (unplaced_program ts) ≡ program_tokens ts
same_program [] = refl
same_program (t ∷ ts) = ap_two (λ (xs ys : List TokenKind). xs ++ ys) (same_task t) (same_program ts)

-- programs that are equal but for places
pub same_tokens : (p q : List Task) → unplaced_program p ≡ unplaced_program q → program_tokens p ≡ program_tokens q
same_tokens p q e = sym (same_program p) ∙ ap program_tokens e ∙ same_program q
