-- In the two parts scalars that are set have a word, and copies are between variables of one width.
use Rattle.std.proofs.Common.{◌≡◌, ℕ, ◌<◌, Bool, true, false, cond, ◌||◌, List, [], ◌∷◌, map, length, refl, sym, ap, ◌∙◌, subst, arith, inl, inr}
use Rattle.tcel_core.specs.declared.var.Var.{Var}
use Rattle.tcel_core.specs.Cells.{width}
use Rattle.tcel_core.specs.Kinds.{Slicing, holds_kept, is_kind_3, is_live, is_fetched}
use Rattle.tcel_core.specs.Language.{Expr, number, variable, element, unary, binary, Block, done, next, joined, Stmt, item, choice, timed, Act, assign, assign_at, receive, send, for_loop, while_loop, copy}
use Rattle.tcel_core.specs.Parts.{copy_of, saved, truth_of, is_split, has_rest, number_of, all_variables, inside_number, copies, saves, restores, fetches, split_choice, live_variables, variables, first_of_block, first_of_stmt, rest_of_block, rest_of_stmt, renamed_expr, renamed_block, renamed_stmt, renamed_act}
use Rattle.std.specs.Prelude.{filter}
use Rattle.tcel_core.specs.Paths.{Point, at_item, at_test, points, stmt_points}
use Rattle.tcel_core.specs.Typing.{IsTyped, StmtIsTyped, ActIsTyped, Names, int}
use Rattle.tcel_parts.proofs.Alike.{IsRenaming, scalar_some, scalar_there}
use Rattle.tcel_parts.proofs.Hits.{and_both}
use Rattle.tcel_parts.proofs.Leaves.{IsProper, StmtIsProper, ActIsProper}
use Rattle.tcel_parts.proofs.Members.{In, in_left, in_right, in_filtered, numbers_within}
use Rattle.tcel_parts.proofs.NewVariables.{width_copy, width_saved, width_added, truth_in, inside_renames, own_renames}
use Rattle.tcel_parts.proofs.PartsWrite.{live_is}

-- ---- other numbers

module _ (vars vars' : List Var) (f : ℕ → ℕ) (renames : IsRenaming vars vars' f) (ins outs : ℕ) where
  mutual
    pub renamed_proper : (b : Block) → IsTyped (record { vars = vars; inputs = ins; outputs = outs }) b → IsProper vars' (renamed_block f b)
    renamed_proper done typed = tt
    renamed_proper (next t rest) typed = (stmt_renamed_proper t typed.0, renamed_proper rest typed.1)

    stmt_renamed_proper : (t : Stmt) → StmtIsTyped (record { vars = vars; inputs = ins; outputs = outs }) t → StmtIsProper vars' (renamed_stmt f t)
    stmt_renamed_proper (item id act) typed = act_renamed_proper act typed
    stmt_renamed_proper (choice id test held other) typed = (renamed_proper held typed.1, renamed_proper other typed.2)
    stmt_renamed_proper (timed id window body) typed = renamed_proper body typed

    pub act_renamed_proper : (act : Act) → ActIsTyped (record { vars = vars; inputs = ins; outputs = outs }) act → ActIsProper vars' (renamed_act f act)
    act_renamed_proper (assign v e) typed = subst (λ n. 0 < n) (renames.wide v (scalar_there vars v typed.0 typed.1)) (scalar_some vars v typed.0 typed.1)
    act_renamed_proper (assign_at v i e) typed = tt
    act_renamed_proper (receive v port) typed = subst (λ n. 0 < n) (renames.wide v (scalar_there vars v int typed.0)) (scalar_some vars v int typed.0)
    act_renamed_proper (send e port) typed = tt
    act_renamed_proper (for_loop v n body) typed =
        (subst (λ n. 0 < n) (renames.wide v (scalar_there vars v int typed.0)) (scalar_some vars v int typed.0), renamed_proper body typed.1)
    act_renamed_proper (while_loop test n body) typed = renamed_proper body typed.1
    act_renamed_proper (copy from to) typed = absurd typed

-- ---- the same numbers

pub own_expr : (e : Expr) → renamed_expr (λ v. v) e ≡ e
own_expr (number n) = refl
own_expr (variable v) = refl
own_expr (element v i) = ap (element v) (own_expr i)
own_expr (unary op e) = ap (unary op) (own_expr e)
own_expr (binary op a b) = ap (λ x. binary op x (renamed_expr (λ v. v) b)) (own_expr a) ∙ ap (binary op a) (own_expr b)

mutual
  own_block : (b : Block) → renamed_block (λ v. v) b ≡ b
  own_block done = refl
  own_block (next t rest) = ap (λ x. next x (renamed_block (λ v. v) rest)) (own_stmt t) ∙ ap (next t) (own_block rest)

  own_stmt : (t : Stmt) → renamed_stmt (λ v. v) t ≡ t
  own_stmt (item id act) = ap (item id) (own_act act)
  own_stmt (choice id test held other) =
      ap (λ x. choice id x (renamed_block (λ v. v) held) (renamed_block (λ v. v) other)) (own_expr test)
      ∙ (ap (λ x. choice id test x (renamed_block (λ v. v) other)) (own_block held) ∙ ap (choice id test held) (own_block other))
  own_stmt (timed id window body) = ap (timed id window) (own_block body)

  pub own_act : (act : Act) → renamed_act (λ v. v) act ≡ act
  own_act (assign v e) = ap (assign v) (own_expr e)
  own_act (assign_at v i e) = ap (λ x. assign_at v x (renamed_expr (λ v. v) e)) (own_expr i) ∙ ap (assign_at v i) (own_expr e)
  own_act (receive v port) = refl
  own_act (send e port) = ap (λ x. send x port) (own_expr e)
  own_act (for_loop v n body) = ap (for_loop v n) (own_block body)
  own_act (while_loop test n body) = ap (λ x. while_loop x n (renamed_block (λ v. v) body)) (own_expr test) ∙ ap (while_loop test n) (own_block body)
  own_act (copy from to) = refl

same_renames : (vars : List Var) → IsRenaming vars vars (λ v. v)
same_renames vars = record { wide = λ v h. refl; distinct = λ u v h g other. other }

-- an item of the task, over its own variables and over those of the parts
pub act_proper : (vars : List Var) (ins outs : ℕ) (act : Act) → ActIsTyped (record { vars = vars; inputs = ins; outputs = outs }) act → ActIsProper vars act
act_proper vars ins outs act typed = subst (ActIsProper vars) (own_act act) (act_renamed_proper vars vars (λ v. v) (same_renames vars) ins outs act typed)

-- ---- the two parts

proper-joined : (vars : List Var) (a b : Block) → IsProper vars a → IsProper vars b → IsProper vars (joined a b)
proper-joined vars done b h g = g
proper-joined vars (next t rest) b h g = (h.0, proper-joined vars rest b h.1 g)

copies_proper : (vars : List Var) (g h : ℕ → ℕ) (vs : List ℕ) → ((v : ℕ) → In vs v → width vars (g v) ≡ width vars (h v)) → IsProper vars (copies (map (λ v. (g v, h v)) vs))
copies_proper vars g h [] wide = tt
copies_proper vars g h (v ∷ vs) wide = (wide v (inl refl), copies_proper vars g h vs (λ w there. wide w (inr there)))

module _ (s : Slicing) (ins outs : ℕ) where
  abbrev Names_ : Names
  Names_ = record { vars = s.vars; inputs = ins; outputs = outs }

  -- live variables are of kind 3
  pub live_kind : (n v : ℕ) → is_live s n v ≡ true → is_kind_3 s v ≡ true
  live_kind n v h = (and_both _ _ h).0

  pub save_wide : (n : ℕ) (act : Act) → In (points s.body) (at_item n act) → s.kept n ≡ true → (v : ℕ) → In (live_variables s n) v →
      width (all_variables s) (number_of s (copy_of v)) ≡ width (all_variables s) (number_of s (saved n v))
  save_wide n act there kept v h =
      let l = live_is s n v h in
      sym (width_copy s v l.0 (live_kind n v l.1)) ∙ width_saved s n v act there kept l.0 l.1

  pub restore_wide : (n : ℕ) (act : Act) → In (points s.body) (at_item n act) → s.kept n ≡ true → (v : ℕ) → In (live_variables s n) v →
      width (all_variables s) (number_of s (saved n v)) ≡ width (all_variables s) v
  restore_wide n act there kept v h =
      let l = live_is s n v h in
      sym (width_saved s n v act there kept l.0 l.1) ∙ (own_renames s).wide v l.0

  chosen_proper : (c : Bool) (b : Block) → (c ≡ true → IsProper (all_variables s) b) → IsProper (all_variables s) (cond c b done)
  chosen_proper true b h = h refl
  chosen_proper false b h = tt

  mutual
    pub first_proper : (b : Block) → ((p : Point) → In (points b) p → In (points s.body) p) → IsTyped (record { vars = s.vars; inputs = ins; outputs = outs }) b → IsProper (all_variables s) (first_of_block s b)
    first_proper done inside typed = tt
    first_proper (next t rest) inside typed =
        proper-joined (all_variables s) (first_of_stmt s t) (first_of_block s rest)
        (stmt_first_proper t (λ p h. inside p (in_left (stmt_points t) (points rest) p h)) typed.0) (first_proper rest (λ p h. inside p (in_right (stmt_points t) (points rest) p h)) typed.1)

    pub stmt_first_proper : (t : Stmt) → ((p : Point) → In (stmt_points t) p → In (points s.body) p) → StmtIsTyped (record { vars = s.vars; inputs = ins; outputs = outs }) t → IsProper (all_variables s) (first_of_stmt s t)
    stmt_first_proper (item n act) inside typed =
        chosen_proper (s.kept n) (next (item n (renamed_act (inside_number s) act)) (saves s n))
        (λ kept. (
          act_renamed_proper s.vars (all_variables s) (inside_number s) (inside_renames s) ins outs act typed,
          copies_proper (all_variables s) (λ v. number_of s (copy_of v)) (λ v. number_of s (saved n v)) (live_variables s n) (save_wide n act (inside (at_item n act) (inl refl)) kept),
        ))
    stmt_first_proper (choice n test held other) inside typed =
        chosen_proper (holds_kept s held || holds_kept s other) (split_choice s n (renamed_expr (inside_number s) test) (is_split s held other) (first_of_block s held) (first_of_block s other))
        (λ _. splits (is_split s held other) refl
        (first_proper held (λ p h. inside p (inr (in_left (points held) (points other) p h))) typed.1) (first_proper other (λ p h. inside p (inr (in_right (points held) (points other) p h))) typed.2))
      where
        splits : (c : Bool) → is_split s held other ≡ c → IsProper (all_variables s) (first_of_block s held) → IsProper (all_variables s) (first_of_block s other) →
            IsProper (all_variables s) (split_choice s n (renamed_expr (inside_number s) test) c (first_of_block s held) (first_of_block s other))
        splits true e h g =
            let one = width_added s (truth_of n) (truth_in s n test held other (inside (at_test n test held other) (inl refl)) e) in
            ((omega arith), ((h, g), tt))
        splits false e h g = ((h, g), tt)
    stmt_first_proper (timed n window body) inside typed =
        chosen_proper (holds_kept s body) (next (timed n window (first_of_block s body)) done) (λ _. (first_proper body inside typed, tt))

  mutual
    pub rest_proper : (b : Block) → ((p : Point) → In (points b) p → In (points s.body) p) → IsTyped (record { vars = s.vars; inputs = ins; outputs = outs }) b → IsProper (all_variables s) (rest_of_block s b)
    rest_proper done inside typed = tt
    rest_proper (next t rest) inside typed =
        proper-joined (all_variables s) (rest_of_stmt s t) (rest_of_block s rest)
        (stmt_rest_proper t (λ p h. inside p (in_left (stmt_points t) (points rest) p h)) typed.0) (rest_proper rest (λ p h. inside p (in_right (stmt_points t) (points rest) p h)) typed.1)

    pub stmt_rest_proper : (t : Stmt) → ((p : Point) → In (stmt_points t) p → In (points s.body) p) → StmtIsTyped (record { vars = s.vars; inputs = ins; outputs = outs }) t → IsProper (all_variables s) (rest_of_stmt s t)
    stmt_rest_proper (item n act) inside typed = splits (s.kept n) refl
      where
        splits : (c : Bool) → s.kept n ≡ c → IsProper (all_variables s) (cond c (restores s n) (next (item n act) done))
        splits true e = copies_proper (all_variables s) (λ v. number_of s (saved n v)) (λ v. v) (live_variables s n) (restore_wide n act (inside (at_item n act) (inl refl)) e)
        splits false e = (subst (ActIsProper (all_variables s)) (own_act act) (act_renamed_proper s.vars (all_variables s) (λ v. v) (own_renames s) ins outs act typed), tt)
    stmt_rest_proper (choice n test held other) inside typed =
        chosen_proper (has_rest s held || has_rest s other)
        (next (choice n (cond (is_split s held other) (variable (number_of s (truth_of n))) test) (rest_of_block s held) (rest_of_block s other)) done)
        (λ _.
        ((rest_proper held (λ p h. inside p (inr (in_left (points held) (points other) p h))) typed.1, rest_proper other (λ p h. inside p (inr (in_right (points held) (points other) p h))) typed.2), tt))
    stmt_rest_proper (timed n window body) inside typed = rest_proper body inside typed

  -- the variables that are fetched
  pub fetched_is : (v : ℕ) → In (filter (is_fetched s) (variables s)) v → (v < length s.vars) × (is_fetched s v ≡ true) × (is_kind_3 s v ≡ true)
  fetched_is v h =
      let r = in_filtered (is_fetched s) (variables s) v h in
      let less = (numbers_within 0 (length s.vars) v r.0).1 in
      ((omega arith), r.1, (and_both _ _ r.1).0)

  pub fetch_wide : (v : ℕ) → In (filter (is_fetched s) (variables s)) v → width (all_variables s) v ≡ width (all_variables s) (number_of s (copy_of v))
  fetch_wide v h = let f = fetched_is v h in sym ((own_renames s).wide v f.0) ∙ width_copy s v f.0 f.2

  pub fetches_proper : IsProper (all_variables s) (fetches s)
  fetches_proper = copies_proper (all_variables s) (λ v. v) (λ v. number_of s (copy_of v)) (filter (is_fetched s) (variables s)) fetch_wide
