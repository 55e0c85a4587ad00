-- Statements are put piece by piece.
use Rattle.std.proofs.Common.{◌≡◌, ℕ, ◌+◌, ◌<◌, List, [], ◌∷◌, ◌++◌, Option, Some, None, Result, length, get_or, map, take, sym, ap, ◌∙◌, append_assoc}
use Rattle.std.specs.Prelude.{OnOk}
use Rattle.std.proofs.lemmas.List.{append-nil, map_more}
use Rattle.tcel_num.specs.declared.at.At.{At}
use Rattle.tcel_num.specs.declared.memory.NoMemory.{NoMemory}
use Rattle.tcel_token.specs.declared.keyword.Keyword.{Keyword}
use Rattle.tcel_token.specs.declared.sign.Sign.{Sign}
use Rattle.tcel_token.specs.declared.token.TokenKind.{TokenKind}
use Rattle.tcel_tree.specs.declared.expr.Expr as tree
use Rattle.tcel_tree.specs.declared.placed.Placed.{Placed}
use Rattle.tcel_tree.specs.declared.stmt.Stmt as tree_stmt
use Rattle.tcel_tree.specs.declared.stmt.StmtKind.TheVariants.{If, For, While, Do}
use Rattle.tcel_tree.specs.declared.stmt.Window.{Window}
use Rattle.tcel_tree.specs.Language.{Stmt}
use Rattle.tcel_tree.specs.Plain.{plain_expr, plain_stmt, plain_block, block_of}
use Rattle.tcel_show.specs.declared.writer.Writer.{Writer}
use Rattle.tcel_show.specs.Canonical.{block_tokens, braced, for_head, limit_tokens, stmt_tokens, whole_tokens, window_tokens, word, sign}
use Rattle.tcel_show.specs.Puts.{Puts}
use Rattle.tcel_tree.proofs.Forms.{choice_form, for_form, while_form, timed_form}
use Rattle.tcel_show.proofs.Putting.{puts_cons, puts_then, puts_same, if_put}

block_push : (ss : List Stmt) (s : Stmt) → block_tokens (block_of (ss ++ s ∷ [])) ≡ block_tokens (block_of ss) ++ stmt_tokens s
block_push [] s = append-nil (stmt_tokens s)
block_push (x ∷ ss) s =
    ap (λ (ts : List TokenKind). stmt_tokens x ++ ts) (block_push ss s) ∙ sym (append_assoc (stmt_tokens x) (block_tokens (block_of ss)) (stmt_tokens s))

-- one more statement of a block
pub put_more : (ss : List tree_stmt.Stmt) (i : ℕ) (s : tree_stmt.Stmt) {a b c : Writer} → i < length ss → s ≡ get_or ss i s →
    Puts a b (sign Sign.LeftBrace ∷ block_tokens (plain_block (take i ss))) → Puts b c (stmt_tokens (plain_stmt s)) →
    Puts a c (sign Sign.LeftBrace ∷ block_tokens (plain_block (take (i + 1) ss)))
put_more ss i s lt is p q =
    let last : plain_stmt (get_or ss i s) ≡ plain_stmt s = ap plain_stmt (sym is) in
    let front = map plain_stmt (take i ss) in
    let more : plain_block (take (i + 1) ss) ≡ block_of (front ++ plain_stmt s ∷ []) =
    ap block_of (map_more plain_stmt ss i s lt ∙ ap (λ (x : Stmt). front ++ x ∷ []) last)
    in
    puts_same (ap (λ (ts : List TokenKind). sign Sign.LeftBrace ∷ ts) (ap block_tokens more ∙ block_push front (plain_stmt s))) (puts_then p q)

-- a statement, with the blocks that it holds as slices
module _ (s : tree_stmt.Stmt) where
  in_form : {a b : Writer} {plain : Stmt} → plain_stmt s ≡ plain → Puts a b (stmt_tokens plain) → Puts a b (stmt_tokens (plain_stmt s))
  in_form form p = puts_same (ap stmt_tokens form) p

  pub put_if : (test : tree.Expr) (held : List tree_stmt.Stmt) (other : Option (List tree_stmt.Stmt)) {ys : List tree_stmt.Stmt} {a b c d : Writer} →
      s.what ≡ If test held other → other ≡ None → ys ≡ held →
      Puts a b (word Keyword.If ∷ []) → Puts b c (whole_tokens (plain_expr test)) → Puts c d (braced (block_tokens (plain_block ys))) →
      Puts a d (stmt_tokens (plain_stmt s))
  put_if test held other is absent same p q t =
      in_form (choice_form s test held None (rw absent at is))
      (puts_cons p (puts_then q (puts_same (append-nil (braced (block_tokens (plain_block held)))) (rw same at t))))

  pub put_if_else : (test : tree.Expr) (held block : List tree_stmt.Stmt) (other : Option (List tree_stmt.Stmt)) {ys zs : List tree_stmt.Stmt}
      {a b c d f : Writer} (g : Writer) (result : Result (Unit {0}) NoMemory) → s.what ≡ If test held other → other ≡ Some block → ys ≡ held → zs ≡ block →
      Puts a b (word Keyword.If ∷ []) → Puts b c (whole_tokens (plain_expr test)) → Puts c d (braced (block_tokens (plain_block ys))) →
      Puts d f (word Keyword.Else ∷ []) →
      OnOk result (Puts f g (braced (block_tokens (plain_block zs)))) → OnOk result (Puts a g (stmt_tokens (plain_stmt s)))
  put_if_else test held block other g result is present same also p q u v last =
      if_put result
      (λ t.
      in_form (choice_form s test held (Some block) (rw present at is))
      (puts_cons p (puts_then q (puts_then (rw same at u) (puts_cons v (rw also at t))))))
      last

  pub put_for : (name : List ℕ) (name_at : At) (turns : Placed) (body : List tree_stmt.Stmt) {ys : List tree_stmt.Stmt} {a b : Writer} (c : Writer)
      (result : Result (Unit {0}) NoMemory) → s.what ≡ For name name_at turns body → ys ≡ body → Puts a b (for_head name turns) →
      OnOk result (Puts b c (braced (block_tokens (plain_block ys)))) → OnOk result (Puts a c (stmt_tokens (plain_stmt s)))
  put_for name name_at turns body c result is same p last =
      if_put result (λ t. in_form (for_form s name name_at turns body is) (puts_then p (rw same at t))) last

  pub put_while : (test : tree.Expr) (turns : Placed) (body : List tree_stmt.Stmt) {ys : List tree_stmt.Stmt} {a b c d : Writer} (f : Writer)
      (result : Result (Unit {0}) NoMemory) → s.what ≡ While test turns body → ys ≡ body →
      Puts a b (word Keyword.While ∷ []) → Puts b c (whole_tokens (plain_expr test)) → Puts c d (limit_tokens turns) →
      OnOk result (Puts d f (braced (block_tokens (plain_block ys)))) → OnOk result (Puts a f (stmt_tokens (plain_stmt s)))
  put_while test turns body f result is same p q u last =
      if_put result (λ t. in_form (while_form s test turns body is) (puts_cons p (puts_then q (puts_then u (rw same at t))))) last

  pub put_timed : (window : Window) (body : List tree_stmt.Stmt) {ys : List tree_stmt.Stmt} {a b c : Writer} (d : Writer)
      (result : Result (Unit {0}) NoMemory) → s.what ≡ Do window body → ys ≡ body →
      Puts a b (word Keyword.Do ∷ []) → Puts b c (window_tokens window) →
      OnOk result (Puts c d (braced (block_tokens (plain_block ys)))) → OnOk result (Puts a d (stmt_tokens (plain_stmt s)))
  put_timed window body d result is same p q last =
      if_put result (λ t. in_form (timed_form s window body is) (puts_cons p (puts_then q (rw same at t)))) last
