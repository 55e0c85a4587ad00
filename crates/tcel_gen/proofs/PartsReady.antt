-- The two parts of a checked task, and its body as a whole, fit an image, and their counters are among the body's.
use Rattle.std.proofs.Common.{◌≡◌, ℕ, ◌+◌, ◌<◌, ◌≤◌, Bool, true, false, cond, ◌||◌, List, [], ◌∷◌, ◌++◌, length, map, refl, sym, ap, ◌∙◌, subst, arith, inl, inr, append_assoc}
use Rattle.std.specs.Prelude.{filter}
use Rattle.std.specs.List.{AllByRecursion}
use Rattle.tcel_core.specs.declared.var.Var.{Var}
use Rattle.tcel_core.specs.Cells.{width}
use Rattle.tcel_core.specs.Contents.{Looped, act_loops, item_loops, loops, stmt_item_loops, stmt_loops}
use Rattle.tcel_core.specs.Kinds.{Slicing, holds_kept, is_fetched}
use Rattle.tcel_core.specs.Language.{Expr, variable, Block, done, next, joined, Stmt, item, choice, timed, Act, assign, assign_at, receive, send, for_loop, while_loop, copy}
use Rattle.tcel_core.specs.Limits.{IsWithinBounds, StmtIsWithinBounds, operators}
use Rattle.tcel_core.specs.Parts.{all_variables, copies, copy_of, fetches, first_of_block, first_of_stmt, first_part, has_rest, inside_number, is_split, live_variables, number_of, renamed_act, renamed_block, renamed_expr, renamed_stmt, rest_of_block, rest_of_stmt, restores, saved, saves, split_choice, truth_of, variables}
use Rattle.tcel_core.specs.Paths.{Point, at_item, at_test, points, stmt_points}
use Rattle.tcel_core.specs.Typing.{HasType, IsTyped, StmtIsTyped, bool}
use Rattle.tcel_image.specs.Spelling.{IsLength}
use Rattle.tcel_parts.proofs.Alike.{IsRenaming}
use Rattle.tcel_parts.proofs.Members.{In, in_left, in_right}
use Rattle.tcel_parts.proofs.NewVariables.{inside_renames, own_renames, truth_in, width_added, width_copy, width_saved}
use Rattle.tcel_parts.proofs.PartsProper.{fetch_wide, fetched_is, live_kind, own_act, own_expr, restore_wide, save_wide}
use Rattle.tcel_parts.proofs.PartsWrite.{live_is}
use Rattle.tcel_code.specs.Counters.{HasItsCounters, HaveTheirCounters}
use Rattle.tcel_gen.proofs.Sits.{ActSits, ExprSits, Sits, StmtSits, act_sits, expr_sits, sits_assign, sits_choice, sits_copy, sits_done, sits_item, sits_joined, sits_next, sits_timed, sits_variable}

-- ---- a part of a body

-- statements that fit, with their counters among those of a source
pub record IsPart (source : Block) (vars : List Var) (ins outs : ℕ) (b : Block) : Type 0 where
  pub sits : Sits vars ins outs b
  pub counters : HaveTheirCounters source b

all_append : (P : Looped → Type 0) (xs ys : List Looped) → AllByRecursion P xs → AllByRecursion P ys → AllByRecursion P (xs ++ ys)
all_append P [] ys h g = g
all_append P (x ∷ xs) ys h g = (h.0, all_append P xs ys h.1 g)

all_front : (P : Looped → Type 0) (xs ys : List Looped) → AllByRecursion P (xs ++ ys) → AllByRecursion P xs
all_front P [] ys h = tt
all_front P (x ∷ xs) ys h = (h.0, all_front P xs ys h.1)

all_back : (P : Looped → Type 0) (xs ys : List Looped) → AllByRecursion P (xs ++ ys) → AllByRecursion P ys
all_back P [] ys h = h
all_back P (x ∷ xs) ys h = all_back P xs ys h.1

item_loops-joined : (a b : Block) → item_loops (joined a b) ≡ item_loops a ++ item_loops b
item_loops-joined done b = refl
item_loops-joined (next t rest) b = ap (λ l. stmt_item_loops t ++ l) (item_loops-joined rest b) ∙ sym (append_assoc (stmt_item_loops t) (item_loops rest) (item_loops b))

module _ (source : Block) (vars : List Var) (ins outs : ℕ) where
  abbrev Has : List Looped → Type 0
  Has = AllByRecursion (HasItsCounters source)

  pub part_done : IsPart source vars ins outs done
  part_done = record { sits = sits_done vars ins outs; counters = tt }

  -- a statement in front
  part_next : (t : Stmt) (b : Block) → StmtSits vars ins outs t → Has (stmt_item_loops t) → IsPart source vars ins outs b → IsPart source vars ins outs (next t b)
  part_next t b h g k =
      record { sits = sits_next vars ins outs t b h k.sits; counters = all_append (HasItsCounters source) (stmt_item_loops t) (item_loops b) g k.counters }

  -- one alone
  part_one : (t : Stmt) → StmtSits vars ins outs t → Has (stmt_item_loops t) → IsPart source vars ins outs (next t done)
  part_one t h g = part_next t done h g part_done

  part_joined : (a b : Block) → IsPart source vars ins outs a → IsPart source vars ins outs b → IsPart source vars ins outs (joined a b)
  part_joined a b h g =
      record {
        sits = sits_joined vars ins outs a b h.sits g.sits;
        counters = subst Has (sym (item_loops-joined a b)) (all_append (HasItsCounters source) (item_loops a) (item_loops b) h.counters g.counters);
      }

  part_choice : (n : ℕ) (test : Expr) (held other : Block) → ExprSits vars test → IsPart source vars ins outs held → IsPart source vars ins outs other → IsPart source vars ins outs (next (choice n test held other) done)
  part_choice n test held other h g k =
      part_one (choice n test held other) (sits_choice vars ins outs n test held other h g.sits k.sits)
      (all_append (HasItsCounters source) (item_loops held) (item_loops other) g.counters k.counters)

  part_copies : (g h : ℕ → ℕ) (vs : List ℕ) → ((v : ℕ) → In vs v → IsLength (width vars (g v)) × (width vars (g v) ≡ width vars (h v))) →
      IsPart source vars ins outs (copies (map (λ v. (g v, h v)) vs))
  part_copies g h [] alike = part_done
  part_copies g h (v ∷ vs) alike =
      let both = alike v (inl refl) in
      part_next (item 0 (copy (g v) (h v))) (copies (map (λ v. (g v, h v)) vs)) (sits_item vars ins outs 0 (copy (g v) (h v)) (sits_copy vars ins outs (g v) (h v) both.0 both.1))
      ((λ some. absurd (omega arith)), tt) (part_copies g h vs (λ w there. alike w (inr there)))

  part_chosen : (c : Bool) (b : Block) → (c ≡ true → IsPart source vars ins outs b) → IsPart source vars ins outs (cond c b done)
  part_chosen true b h = h refl
  part_chosen false b h = part_done

-- ---- other numbers leave the loops as they are

module _ (f : ℕ → ℕ) where
  mutual
    renamed_loops : (b : Block) → loops (renamed_block f b) ≡ loops b
    renamed_loops done = refl
    renamed_loops (next t rest) = omega (arith, stmt_renamed_loops t, renamed_loops rest)

    stmt_renamed_loops : (t : Stmt) → stmt_loops (renamed_stmt f t) ≡ stmt_loops t
    stmt_renamed_loops (item id act) = act_renamed_loops act
    stmt_renamed_loops (choice id test held other) = omega (arith, renamed_loops held, renamed_loops other)
    stmt_renamed_loops (timed id window body) = renamed_loops body

    act_renamed_loops : (act : Act) → act_loops (renamed_act f act) ≡ act_loops act
    act_renamed_loops (assign v e) = refl
    act_renamed_loops (assign_at v i e) = refl
    act_renamed_loops (receive v port) = refl
    act_renamed_loops (send e port) = refl
    act_renamed_loops (for_loop v n body) = ap (λ n. 1 + n) (renamed_loops body)
    act_renamed_loops (while_loop test n body) = ap (λ n. 1 + n) (renamed_loops body)
    act_renamed_loops (copy from to) = refl

renamed_counters : (source : Block) (f : ℕ → ℕ) (n : ℕ) (act : Act) → HasItsCounters source (record { id = n; loops = act_loops act }) → HasItsCounters source (record { id = n; loops = act_loops (renamed_act f act) })
renamed_counters source f n act h = subst (λ k. HasItsCounters source (record { id = n; loops = k })) (sym (act_renamed_loops f act)) h

-- ---- the body itself

module _ (source : Block) (vars : List Var) (ins outs : ℕ) (sized : (v : ℕ) → v < length vars → IsLength (width vars v)) where
  same : IsRenaming vars vars (λ v. v)
  same = record { wide = λ v h. refl; distinct = λ u v h g other. other }

  mutual
    pub body_sits : (b : Block) → IsTyped (record { vars = vars; inputs = ins; outputs = outs }) b → IsWithinBounds b → Sits vars ins outs b
    body_sits done h k = sits_done vars ins outs
    body_sits (next t rest) h k = sits_next vars ins outs t rest (stmt_body_sits t h.0 k.0) (body_sits rest h.1 k.1)

    stmt_body_sits : (t : Stmt) → StmtIsTyped (record { vars = vars; inputs = ins; outputs = outs }) t → StmtIsWithinBounds t → StmtSits vars ins outs t
    stmt_body_sits (item n act) h k = sits_item vars ins outs n act (subst (ActSits vars ins outs) (own_act act) (act_sits vars vars (λ v. v) same sized ins outs act h k))
    stmt_body_sits (choice n test held other) h k =
        sits_choice vars ins outs n test held other (subst (ExprSits vars) (own_expr test) (expr_sits vars vars (λ v. v) same sized test bool h.0 k.0)) (body_sits held h.1 k.1) (body_sits other h.2 k.2)
    stmt_body_sits (timed n window body) h k = sits_timed vars ins outs n window body k.0.0 (body_sits body h k.1)

-- ---- both parts

module _ (s : Slicing) (ins outs : ℕ) (sized : (v : ℕ) → v < length s.vars → IsLength (width s.vars v)) where
  abbrev vars : List Var
  vars = all_variables s

  abbrev Part : Block → Type 0
  Part = IsPart s.body vars ins outs

  truth_some : (n : ℕ) (test : Expr) (held other : Block) → In (points s.body) (at_test n test held other) → is_split s held other ≡ true → 0 < width vars (number_of s (truth_of n))
  truth_some n test held other there e = let one = width_added s (truth_of n) (truth_in s n test held other there e) in omega arith

  part_saves : (n : ℕ) (act : Act) → In (points s.body) (at_item n act) → s.kept n ≡ true → Part (saves s n)
  part_saves n act there kept =
      part_copies s.body vars ins outs (λ v. number_of s (copy_of v)) (λ v. number_of s (saved n v)) (live_variables s n)
      (λ v h. let l = live_is s n v h in (subst IsLength (width_copy s v l.0 (live_kind s ins outs n v l.1)) (sized v l.0), save_wide s ins outs n act there kept v h))

  part_restores : (n : ℕ) (act : Act) → In (points s.body) (at_item n act) → s.kept n ≡ true → Part (restores s n)
  part_restores n act there kept =
      part_copies s.body vars ins outs (λ v. number_of s (saved n v)) (λ v. v) (live_variables s n)
      (λ v h. let l = live_is s n v h in (subst IsLength (width_saved s n v act there kept l.0 l.1) (sized v l.0), restore_wide s ins outs n act there kept v h))

  part_fetches : Part (fetches s)
  part_fetches =
      part_copies s.body vars ins outs (λ v. v) (λ v. number_of s (copy_of v)) (filter (is_fetched s) (variables s))
      (λ v h. let f = fetched_is s ins outs v h in (subst IsLength ((own_renames s).wide v f.0) (sized v f.0), fetch_wide s ins outs v h))

  part_split : (n : ℕ) (test : Expr) (c : Bool) (held other : Block) → ExprSits vars test → (c ≡ true → 0 < width vars (number_of s (truth_of n))) → Part held → Part other → Part (split_choice s n test c held other)
  part_split n test true held other h word g k =
      let truth = number_of s (truth_of n) in
      part_next s.body vars ins outs (item 0 (assign truth test)) (next (choice n (variable truth) held other) done)
      (sits_item vars ins outs 0 (assign truth test) (sits_assign vars ins outs truth test (word refl) h)) ((λ some. absurd (omega arith)), tt)
      (part_choice s.body vars ins outs n (variable truth) held other (sits_variable vars ins outs truth (word refl)) g k)
  part_split n test false held other h word g k = part_choice s.body vars ins outs n test held other h g k

  inside_expr : (test : Expr) → HasType s.vars test bool → operators test ≤ 64 → ExprSits vars (renamed_expr (inside_number s) test)
  inside_expr test h k = expr_sits s.vars vars (inside_number s) (inside_renames s) sized test bool h k

  mutual
    first_is : (b : Block) → ((p : Point) → In (points b) p → In (points s.body) p) → IsTyped (record { vars = s.vars; inputs = ins; outputs = outs }) b → IsWithinBounds b →
        HaveTheirCounters s.body b → Part (first_of_block s b)
    first_is done inside h k c = part_done s.body vars ins outs
    first_is (next t rest) inside h k c =
        part_joined s.body vars ins outs (first_of_stmt s t) (first_of_block s rest)
        (stmt_first_is t (λ p there. inside p (in_left (stmt_points t) (points rest) p there)) h.0 k.0 (all_front (HasItsCounters s.body) (stmt_item_loops t) (item_loops rest) c))
        (first_is rest (λ p there. inside p (in_right (stmt_points t) (points rest) p there)) h.1 k.1 (all_back (HasItsCounters s.body) (stmt_item_loops t) (item_loops rest) c))

    stmt_first_is : (t : Stmt) → ((p : Point) → In (stmt_points t) p → In (points s.body) p) → StmtIsTyped (record { vars = s.vars; inputs = ins; outputs = outs }) t → StmtIsWithinBounds t →
        AllByRecursion (HasItsCounters s.body) (stmt_item_loops t) → Part (first_of_stmt s t)
    stmt_first_is (item n act) inside h k c =
        let act' = renamed_act (inside_number s) act in
        part_chosen s.body vars ins outs (s.kept n) (next (item n act') (saves s n))
        (λ kept. part_next s.body vars ins outs (item n act') (saves s n)
        (sits_item vars ins outs n act' (act_sits s.vars vars (inside_number s) (inside_renames s) sized ins outs act h k))
        (renamed_counters s.body (inside_number s) n act c.0, tt) (part_saves n act (inside (at_item n act) (inl refl)) kept))
    stmt_first_is (choice n test held other) inside h k c =
        part_chosen s.body vars ins outs (holds_kept s held || holds_kept s other)
        (split_choice s n (renamed_expr (inside_number s) test) (is_split s held other) (first_of_block s held) (first_of_block s other))
        (λ _. part_split n (renamed_expr (inside_number s) test) (is_split s held other) (first_of_block s held) (first_of_block s other) (inside_expr test h.0 k.0)
        (truth_some n test held other (inside (at_test n test held other) (inl refl)))
        (first_is held (λ p there. inside p (inr (in_left (points held) (points other) p there))) h.1 k.1 (all_front (HasItsCounters s.body) (item_loops held) (item_loops other) c))
        (first_is other (λ p there. inside p (inr (in_right (points held) (points other) p there))) h.2 k.2 (all_back (HasItsCounters s.body) (item_loops held) (item_loops other) c)))
    stmt_first_is (timed n window body) inside h k c =
        part_chosen s.body vars ins outs (holds_kept s body) (next (timed n window (first_of_block s body)) done)
        (λ _. let inner = first_is body inside h k.1 c in
        part_one s.body vars ins outs (timed n window (first_of_block s body)) (sits_timed vars ins outs n window (first_of_block s body) k.0.0 inner.sits) inner.counters)

  pub first_part_is : IsTyped (record { vars = s.vars; inputs = ins; outputs = outs }) s.body → IsWithinBounds s.body → HaveTheirCounters s.body s.body → Part (first_part s)
  first_part_is h k c = part_joined s.body vars ins outs (fetches s) (first_of_block s s.body) part_fetches (first_is s.body (λ p there. there) h k c)

  rest_test : (n : ℕ) (test : Expr) (c : Bool) → HasType s.vars test bool → operators test ≤ 64 → (c ≡ true → 0 < width vars (number_of s (truth_of n))) → ExprSits vars (cond c (variable (number_of s (truth_of n))) test)
  rest_test n test true h k word = sits_variable vars ins outs (number_of s (truth_of n)) (word refl)
  rest_test n test false h k word = subst (ExprSits vars) (own_expr test) (expr_sits s.vars vars (λ v. v) (own_renames s) sized test bool h k)

  mutual
    pub rest_is : (b : Block) → ((p : Point) → In (points b) p → In (points s.body) p) → IsTyped (record { vars = s.vars; inputs = ins; outputs = outs }) b → IsWithinBounds b →
        HaveTheirCounters s.body b → Part (rest_of_block s b)
    rest_is done inside h k c = part_done s.body vars ins outs
    rest_is (next t rest) inside h k c =
        part_joined s.body vars ins outs (rest_of_stmt s t) (rest_of_block s rest)
        (stmt_rest_is t (λ p there. inside p (in_left (stmt_points t) (points rest) p there)) h.0 k.0 (all_front (HasItsCounters s.body) (stmt_item_loops t) (item_loops rest) c))
        (rest_is rest (λ p there. inside p (in_right (stmt_points t) (points rest) p there)) h.1 k.1 (all_back (HasItsCounters s.body) (stmt_item_loops t) (item_loops rest) c))

    stmt_rest_is : (t : Stmt) → ((p : Point) → In (stmt_points t) p → In (points s.body) p) → StmtIsTyped (record { vars = s.vars; inputs = ins; outputs = outs }) t → StmtIsWithinBounds t →
        AllByRecursion (HasItsCounters s.body) (stmt_item_loops t) → Part (rest_of_stmt s t)
    stmt_rest_is (item n act) inside h k c = chosen (s.kept n) refl
      where
        chosen : (kept : Bool) → s.kept n ≡ kept → Part (cond kept (restores s n) (next (item n act) done))
        chosen true e = part_restores n act (inside (at_item n act) (inl refl)) e
        chosen false e =
            part_one s.body vars ins outs (item n act)
            (sits_item vars ins outs n act (subst (ActSits vars ins outs) (own_act act) (act_sits s.vars vars (λ v. v) (own_renames s) sized ins outs act h k))) c
    stmt_rest_is (choice n test held other) inside h k c =
        let test' = cond (is_split s held other) (variable (number_of s (truth_of n))) test in
        part_chosen s.body vars ins outs (has_rest s held || has_rest s other) (next (choice n test' (rest_of_block s held) (rest_of_block s other)) done)
        (λ _. part_choice s.body vars ins outs n test' (rest_of_block s held) (rest_of_block s other)
        (rest_test n test (is_split s held other) h.0 k.0 (truth_some n test held other (inside (at_test n test held other) (inl refl))))
        (rest_is held (λ p there. inside p (inr (in_left (points held) (points other) p there))) h.1 k.1 (all_front (HasItsCounters s.body) (item_loops held) (item_loops other) c))
        (rest_is other (λ p there. inside p (inr (in_right (points held) (points other) p there))) h.2 k.2 (all_back (HasItsCounters s.body) (item_loops held) (item_loops other) c)))
    stmt_rest_is (timed n window body) inside h k c = rest_is body inside h k.1 c
