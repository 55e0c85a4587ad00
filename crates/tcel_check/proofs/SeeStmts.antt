-- Statements are seen piece by piece.
use Rattle.std.proofs.Common.{◌≡◌, ℕ, ◌+◌, ◌<◌, List, [], ◌∷◌, ◌++◌, Option, Some, None, length, get_or, map, take, sym, ap, ◌∙◌, append_assoc}
use Rattle.std.proofs.lemmas.List.{append-nil, map_more}
use Rattle.tcel_num.specs.declared.at.At.{At}
use Rattle.tcel_tree.specs.declared.expr.Expr as tree
use Rattle.tcel_tree.specs.declared.placed.Placed.{Placed}
use Rattle.tcel_tree.specs.declared.stmt.Stmt as tree_stmt
use Rattle.tcel_tree.specs.declared.stmt.StmtKind.TheVariants.{Assign, AssignAt, Receive, Send, If, For, While, Do}
use Rattle.tcel_tree.specs.declared.stmt.Window.{Window}
use Rattle.tcel_tree.specs.declared.task.DeclKind.{DeclKind}
use Rattle.tcel_tree.specs.Language.{Stmt}
use Rattle.tcel_tree.specs.Plain.{plain_expr, plain_stmt, plain_block, block_of}
use Rattle.tcel_check.specs.declared.purpose.Purpose.TheVariants.{Scalar, Element, From, To}
use Rattle.tcel_check.specs.declared.value_type.ValueType.{ValueType}
use Rattle.tcel_check.specs.declared.walk.Walk.{Walk}
use Rattle.tcel_check.specs.Sights.{Sight, block_sights, stmt_sights, expr_sights, window_sights, inside, node, name, loop, window, bound}
use Rattle.tcel_check.specs.Types.{type_of}
use Rattle.tcel_check.specs.Walks.{Saw}
use Rattle.tcel_tree.proofs.Forms.{assign_form, assign_at_form, receive_form, send_form, choice_form, for_form, while_form, timed_form}
use Rattle.tcel_check.proofs.Walking.{saw_cons, saw_then, saw_same}

module _ (kind : List ℕ → Option DeclKind) (loops : ℕ) where
  sights_push : (ss : List Stmt) (s : Stmt) →
      block_sights (block_of (ss ++ s ∷ [])) kind loops ≡ block_sights (block_of ss) kind loops ++ stmt_sights s kind loops
  sights_push [] s = append-nil (stmt_sights s kind loops)
  sights_push (x ∷ ss) s =
      ap (λ (ts : List Sight). stmt_sights x kind loops ++ ts) (sights_push ss s)
      ∙ sym (append_assoc (stmt_sights x kind loops) (block_sights (block_of ss) kind loops) (stmt_sights s kind loops))

  -- one more statement of a block
  pub see_more : (ss : List tree_stmt.Stmt) (i : ℕ) (s : tree_stmt.Stmt) {a b c : Walk} → i < length ss → s ≡ get_or ss i s →
      Saw kind a b (block_sights (plain_block (take i ss)) kind loops) → Saw kind b c (stmt_sights (plain_stmt s) kind loops) →
      Saw kind a c (block_sights (plain_block (take (i + 1) ss)) kind loops)
  see_more ss i s lt is p q =
      let last : plain_stmt (get_or ss i s) ≡ plain_stmt s = ap plain_stmt (sym is) in
      let front = map plain_stmt (take i ss) in
      let more : plain_block (take (i + 1) ss) ≡ block_of (front ++ plain_stmt s ∷ []) =
      ap block_of (map_more plain_stmt ss i s lt ∙ ap (λ (x : Stmt). front ++ x ∷ []) last)
      in
      saw_same (ap (λ b. block_sights b kind loops) more ∙ sights_push front (plain_stmt s)) (saw_then p q)

  -- a statement, with the blocks that it holds as slices
  module _ (s : tree_stmt.Stmt) where
    in_form : {a b : Walk} {plain : Stmt} → plain_stmt s ≡ plain → Saw kind a b (stmt_sights plain kind loops) → Saw kind a b (stmt_sights (plain_stmt s) kind loops)
    in_form form p = saw_same (ap (λ (x : Stmt). stmt_sights x kind loops) form) p

    pub see_assign : (x : List ℕ) (e : tree.Expr) {a b c : Walk} → s.what ≡ Assign x e →
        Saw kind a b (node s.at ∷ []) → Saw kind b c (name s.at x (Scalar None) ∷ expr_sights (plain_expr e) (type_of (kind x))) →
        Saw kind a c (stmt_sights (plain_stmt s) kind loops)
    see_assign x e is p q = in_form (assign_form s x e is) (saw_cons p q)

    pub see_assign_at : (x : List ℕ) (i e : tree.Expr) {a b c d f : Walk} → s.what ≡ AssignAt x i e →
        Saw kind a b (node s.at ∷ []) → Saw kind b c (name s.at x Element ∷ []) → Saw kind c d (expr_sights (plain_expr i) (Some ValueType.Int)) →
        Saw kind d f (expr_sights (plain_expr e) (Some ValueType.Int)) → Saw kind a f (stmt_sights (plain_stmt s) kind loops)
    see_assign_at x i e is p q r t = in_form (assign_at_form s x i e is) (saw_cons p (saw_cons q (saw_then r t)))

    pub see_receive : (x : List ℕ) (x_at : At) (port : List ℕ) (port_at : At) {a b c d : Walk} → s.what ≡ Receive x x_at port port_at →
        Saw kind a b (node s.at ∷ []) → Saw kind b c (name x_at x (Scalar (Some ValueType.Int)) ∷ []) → Saw kind c d (name port_at port From ∷ []) →
        Saw kind a d (stmt_sights (plain_stmt s) kind loops)
    see_receive x x_at port port_at is p q r = in_form (receive_form s x x_at port port_at is) (saw_cons p (saw_cons q r))

    pub see_send : (e : tree.Expr) (port : List ℕ) (port_at : At) {a b c d : Walk} → s.what ≡ Send e port port_at →
        Saw kind a b (node s.at ∷ []) → Saw kind b c (expr_sights (plain_expr e) (Some ValueType.Int)) → Saw kind c d (name port_at port To ∷ []) →
        Saw kind a d (stmt_sights (plain_stmt s) kind loops)
    see_send e port port_at is p q r = in_form (send_form s e port port_at is) (saw_cons p (saw_then q r))

    pub see_if : (test : tree.Expr) (held : List tree_stmt.Stmt) (other : Option (List tree_stmt.Stmt)) {ys : List tree_stmt.Stmt} {a b c d : Walk} →
        s.what ≡ If test held other → other ≡ None → ys ≡ held →
        Saw kind a b (node s.at ∷ []) → Saw kind b c (expr_sights (plain_expr test) (Some ValueType.Bool)) →
        Saw kind c d (block_sights (plain_block ys) kind loops) → Saw kind a d (stmt_sights (plain_stmt s) kind loops)
    see_if test held other is absent same p q t =
        in_form (choice_form s test held None (rw absent at is))
        (saw_cons p (saw_then q (saw_same (append-nil (block_sights (plain_block held) kind loops)) (rw same at t))))

    pub see_if_else : (test : tree.Expr) (held block : List tree_stmt.Stmt) (other : Option (List tree_stmt.Stmt)) {ys zs : List tree_stmt.Stmt}
        {a b c d f : Walk} → s.what ≡ If test held other → other ≡ Some block → ys ≡ held → zs ≡ block →
        Saw kind a b (node s.at ∷ []) → Saw kind b c (expr_sights (plain_expr test) (Some ValueType.Bool)) →
        Saw kind c d (block_sights (plain_block ys) kind loops) → Saw kind d f (block_sights (plain_block zs) kind loops) →
        Saw kind a f (stmt_sights (plain_stmt s) kind loops)
    see_if_else test held block other is present same also p q t u =
        in_form (choice_form s test held (Some block) (rw present at is))
        (saw_cons p (saw_then q (saw_then (rw same at t) (rw also at u))))

    pub see_for : (x : List ℕ) (x_at : At) (turns : Placed) (body : List tree_stmt.Stmt) {ys : List tree_stmt.Stmt} {deep : ℕ} {a b c d f g : Walk} →
        s.what ≡ For x x_at turns body → ys ≡ body → deep ≡ inside loops →
        Saw kind a b (node s.at ∷ []) → Saw kind b c (loop s.at loops ∷ []) → Saw kind c d (name x_at x (Scalar (Some ValueType.Int)) ∷ []) →
        Saw kind d f (bound turns 4096 ∷ []) → Saw kind f g (block_sights (plain_block ys) kind deep) → Saw kind a g (stmt_sights (plain_stmt s) kind loops)
    see_for x x_at turns body is same deeper p q r t u =
        in_form (for_form s x x_at turns body is) (saw_cons p (saw_cons q (saw_cons r (saw_cons t (rw (same, deeper) at u)))))

    pub see_while : (test : tree.Expr) (turns : Placed) (body : List tree_stmt.Stmt) {ys : List tree_stmt.Stmt} {deep : ℕ} {a b c d f g : Walk} →
        s.what ≡ While test turns body → ys ≡ body → deep ≡ inside loops →
        Saw kind a b (node s.at ∷ []) → Saw kind b c (loop s.at loops ∷ []) → Saw kind c d (expr_sights (plain_expr test) (Some ValueType.Bool)) →
        Saw kind d f (bound turns 4096 ∷ []) → Saw kind f g (block_sights (plain_block ys) kind deep) → Saw kind a g (stmt_sights (plain_stmt s) kind loops)
    see_while test turns body is same deeper p q r t u =
        in_form (while_form s test turns body is) (saw_cons p (saw_cons q (saw_then r (saw_cons t (rw (same, deeper) at u)))))

    pub see_timed : (w : Window) (body : List tree_stmt.Stmt) {ys : List tree_stmt.Stmt} {a b c d f : Walk} →
        s.what ≡ Do w body → ys ≡ body →
        Saw kind a b (node s.at ∷ []) → Saw kind b c (window s.at loops ∷ []) → Saw kind c d (window_sights w) →
        Saw kind d f (block_sights (plain_block ys) kind loops) → Saw kind a f (stmt_sights (plain_stmt s) kind loops)
    see_timed w body is same p q r t = in_form (timed_form s w body is) (saw_cons p (saw_cons q (saw_then r (rw same at t))))
