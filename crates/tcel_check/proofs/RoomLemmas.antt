-- There is room for the numbers of all statements.
use Rattle.std.proofs.Common.{◌≡◌, ℕ, ◌+◌, ◌≤◌, List, [], ◌∷◌, ◌++◌, map, Option, Some, None, option_map, refl, sym, ap, ◌∙◌, arith}
use Rattle.std.proofs.lemmas.List.{map-append}
use Rattle.tcel_core.specs.Language as core
use Rattle.tcel_core.specs.Language.{joined}
use Rattle.tcel_core.specs.Limits.{nodes, stmt_nodes}
use Rattle.tcel_core.specs.Plain as plain_core
use Rattle.tcel_core.specs.declared.body.CoreStmt.{CoreStmt}
use Rattle.tcel_tree.specs.declared.expr.Expr as tree
use Rattle.tcel_tree.specs.declared.stmt.Stmt as tree_stmt
use Rattle.tcel_tree.specs.declared.stmt.StmtKind.TheVariants.{If}
use Rattle.tcel_core.specs.declared.body.CoreStmt.TheVariants.{If as core_if, rolls-If}
use Rattle.tcel_core.specs.declared.body.Body.{Body}
use Rattle.tcel_core.specs.declared.expr.CoreExpr.{CoreExpr}
use Rattle.tcel_core.proofs.PlainLaws.{plain_body-list, plain_stmt-choice}
use Rattle.tcel_tree.specs.Language.{Block, done, next, Stmt, assign, assign_at, receive, send, choice, for_loop, while_loop, timed, Branch, absent, present}
use Rattle.tcel_tree.specs.Plain.{branch_of, plain_block, plain_expr, plain_stmt}
use Rattle.tcel_check.specs.Checked.{Numbered, Numbers, outside, in_loop, core_block, core_branch, core_expr, core_stmt, if_number, behind_block, behind_branch, behind_if, behind_do, behind_item, behind_stmt}
use Rattle.tcel_check.specs.Rooms.{BlockFits, StmtFits, used}
use Rattle.tcel_tree.proofs.Forms.{choice_form}

used_item : (n : Numbers) → used (behind_item n) ≤ used n + 1
used_item (outside item test window) = omega arith
used_item in_loop = omega arith

used_if : (n : Numbers) → used (behind_if n) ≤ used n + 1
used_if (outside item test window) = omega arith
used_if in_loop = omega arith

used_do : (n : Numbers) → used (behind_do n) ≤ used n + 1
used_do (outside item test window) = omega arith
used_do in_loop = omega arith

module _ (names : Numbered) where
  mutual
    used_block : (b : Block) (n : Numbers) → used (behind_block b n) ≤ used n + nodes (core_block b names n)
    used_block done n = omega arith
    used_block (next s rest) n = let first = used_stmt s n in let others = used_block rest (behind_stmt s n) in omega arith

    used_stmt : (s : Stmt) (n : Numbers) → used (behind_stmt s n) ≤ used n + stmt_nodes (core_stmt s names n)
    used_stmt (assign at x e) n = let one = used_item n in omega arith
    used_stmt (assign_at at x i e) n = let one = used_item n in omega arith
    used_stmt (receive at x x_at port port_at) n = let one = used_item n in omega arith
    used_stmt (send at e port port_at) n = let one = used_item n in omega arith
    used_stmt (choice at test held other) n =
        let one = used_if n in
        let yes_part = used_block held (behind_if n) in
        let no_part = used_branch other (behind_block held (behind_if n)) in omega arith
    used_stmt (for_loop at x x_at turns body) n = let one = used_item n in omega arith
    used_stmt (while_loop at test turns body) n = let one = used_item n in omega arith
    used_stmt (timed at w body) n = let one = used_do n in let part = used_block body (behind_do n) in omega arith

    used_branch : (b : Branch) (n : Numbers) → used (behind_branch b n) ≤ used n + nodes (core_branch b names n)
    used_branch absent n = omega arith
    used_branch (present b) n = used_block b n

  -- the first of some statements, and the others
  first_fits : (s : Stmt) (rest : Block) (n : Numbers) → BlockFits n (core_block (next s rest) names n) → StmtFits n (core_stmt s names n)
  first_fits s rest n h = record { bounded = h.bounded.0; room = let all = h.room in omega arith }

  others_fit : (s : Stmt) (rest : Block) (n : Numbers) → BlockFits n (core_block (next s rest) names n) → BlockFits (behind_stmt s n) (core_block rest names (behind_stmt s n))
  others_fit s rest n h = record { bounded = h.bounded.1; room = let all = h.room in let first = used_stmt s n in omega arith }

  module _ (s : tree_stmt.Stmt) (test : tree.Expr) (held : List tree_stmt.Stmt) (other : Option (List tree_stmt.Stmt)) where
    pub fits_yes : {ys : List tree_stmt.Stmt} (n m : Numbers) → s.what ≡ If test held other → ys ≡ held → m ≡ behind_if n →
        StmtFits n (core_stmt (plain_stmt s) names n) → BlockFits m (core_block (plain_block ys) names m)
    fits_yes n m is same behind h =
        let whole : StmtFits n (core_stmt (choice s.at (plain_expr test) (plain_block held) (branch_of (option_map (map plain_stmt) other))) names n) =
        rw (choice_form s test held other is) at h
        in
        let all = whole.room in
        let one = used_if n in
        rw (same, behind) (record { bounded = whole.bounded.0; room = omega arith })

    pub fits_no : (block : List tree_stmt.Stmt) {ys zs : List tree_stmt.Stmt} (n k m : Numbers) → s.what ≡ If test held other → other ≡ Some block → ys ≡ held → zs ≡ block →
        k ≡ behind_if n → m ≡ behind_block (plain_block ys) k → StmtFits n (core_stmt (plain_stmt s) names n) → BlockFits m (core_block (plain_block zs) names m)
    fits_no block {ys} {zs} n k m is there same also first second h =
        let form = choice_form s test held (Some block) (rw there at is) in
        let whole : StmtFits n (core_stmt (choice s.at (plain_expr test) (plain_block held) (branch_of (Some (map plain_stmt block)))) names n) = rw form at h in
        let all = whole.room in
        let one = used_if n in
        let yes_part = used_block (plain_block held) (behind_if n) in
        let is_m : m ≡ behind_block (plain_block held) (behind_if n) = second ∙ rw (same, first) refl in
        rw (also, is_m) (record { bounded = whole.bounded.1; room = omega arith })

joined_push : (xs : List core.Stmt) (s : core.Stmt) (rest : core.Block) → joined (plain_core.block_of (xs ++ s ∷ [])) rest ≡ joined (plain_core.block_of xs) (core.next s rest)
joined_push [] s rest = refl
joined_push (x ∷ xs) s rest = ap (core.next x) (joined_push xs s rest)

pub joined_done : (b : core.Block) → joined b core.done ≡ b
joined_done core.done = refl
joined_done (core.next s rest) = ap (core.next s) (joined_done rest)

-- statements built so far, and those that are left
pub record Building (names : Numbered) (start : Numbers) (all : List tree_stmt.Stmt) (built : List CoreStmt) (left : List tree_stmt.Stmt) (now : Numbers) : Type 0 where
  pub body : joined (plain_core.block_of (map plain_core.plain_stmt built)) (core_block (plain_block left) names now) ≡ core_block (plain_block all) names start
  pub behind : behind_block (plain_block left) now ≡ behind_block (plain_block all) start
  pub fits : BlockFits now (core_block (plain_block left) names now)

module _ {names : Numbered} {start : Numbers} {all : List tree_stmt.Stmt} where
  pub build_first : {built : List CoreStmt} {now : Numbers} (left : List tree_stmt.Stmt) (s : tree_stmt.Stmt) (rest : List tree_stmt.Stmt) → left ≡ s ∷ rest →
      Building names start all built left now → StmtFits now (core_stmt (plain_stmt s) names now)
  build_first {built} {now} left s rest is h = first_fits names (plain_stmt s) (plain_block rest) now (rw is at h.fits)

  pub build_more : {built old : List CoreStmt} {now after : Numbers} (left : List tree_stmt.Stmt) (s : tree_stmt.Stmt) (rest : List tree_stmt.Stmt) (c : CoreStmt) → left ≡ s ∷ rest →
      built ≡ old ++ c ∷ [] → plain_core.plain_stmt c ≡ core_stmt (plain_stmt s) names now → after ≡ behind_stmt (plain_stmt s) now →
      Building names start all old left now → Building names start all built rest after
  build_more {built} {old} {now} {after} left s rest c is pushed made behind h =
      let fits : BlockFits now (core_block (plain_block (s ∷ rest)) names now) = rw is at h.fits in
      let body : joined (plain_core.block_of (map plain_core.plain_stmt old)) (core_block (plain_block (s ∷ rest)) names now) ≡ core_block (plain_block all) names start = rw is at h.body in
      let next_ones : behind_block (plain_block (s ∷ rest)) now ≡ behind_block (plain_block all) start = rw is at h.behind in
      let list : map plain_core.plain_stmt built ≡ map plain_core.plain_stmt old ++ core_stmt (plain_stmt s) names now ∷ [] =
      ap (map plain_core.plain_stmt) pushed ∙ map-append plain_core.plain_stmt old (c ∷ []) ∙ ap (λ (x : core.Stmt). map plain_core.plain_stmt old ++ x ∷ []) made
      in
      record {
        body = rw (list, behind) (joined_push (map plain_core.plain_stmt old) (core_stmt (plain_stmt s) names now) (core_block (plain_block rest) names (behind_stmt (plain_stmt s) now)) ∙ body);
        behind = rw behind next_ones;
        fits = rw behind (others_fit names (plain_stmt s) (plain_block rest) now fits);
      }

-- an `if` that is built, with no else block in the source
module _ (s : tree_stmt.Stmt) (test : tree.Expr) (held : List tree_stmt.Stmt) (other : Option (List tree_stmt.Stmt)) (names : Numbered) where
  pub built_if : (id : ℕ) (tested : CoreExpr) (yes_body no_body : Body) {ys : List tree_stmt.Stmt} (n k : Numbers) → s.what ≡ If test held other → other ≡ None → ys ≡ held →
      id ≡ if_number n → plain_core.plain_expr tested ≡ core_expr (plain_expr test) names → plain_core.plain_body yes_body ≡ core_block (plain_block ys) names k →
      k ≡ behind_if n → no_body.list ≡ [] → plain_core.plain_stmt (core_if id tested yes_body no_body) ≡ core_stmt (plain_stmt s) names n
  built_if id tested yes_body no_body {ys} n k is absent_there same numbered made body behind empty =
      let form = choice_form s test held None (rw absent_there at is) in
      let rolled : plain_core.plain_stmt (core_if id tested yes_body no_body) ≡ core.choice id (plain_core.plain_expr tested) (plain_core.plain_body yes_body) (plain_core.plain_body no_body) =
      ap plain_core.plain_stmt (sym (rolls-If id tested yes_body no_body)) ∙ plain_stmt-choice id tested yes_body no_body
      in
      let none : plain_core.plain_body no_body ≡ core.done = plain_body-list no_body ∙ ap (λ (l : List CoreStmt). plain_core.block_of (map plain_core.plain_stmt l)) empty in
      rolled ∙ rw (form, none, numbered, made, body, same, behind) refl
