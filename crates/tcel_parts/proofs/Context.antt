-- What the rules of slicing say of a block in its place, by three rows behind it: which variables kept readers still need,
-- which the rest still wants, and which kept items still write.
use Rattle.std.proofs.Common.{◌≡◌, ℕ, Bool, true, false, not, ◌||◌, ◌&&◌, ◌==◌, List, [], ◌∷◌, ◌++◌, refl, sym, ap, ◌∙◌, subst, ◌⊎◌, inl, inr, eq-eqb}
use Rattle.std.specs.List.{list_any}
use Rattle.std.proofs.Math.Bool.{or_assoc, or-false}
use Rattle.std.proofs.lemmas.Bool.{true≢false, or_left, or_right}
use Rattle.std.proofs.lemmas.List.Folds.{list_any-append}
use Rattle.tcel_core.specs.Contents.{act_has_event}
use Rattle.tcel_core.specs.Kept.{Use, by_item, by_test, is_item, is_use, reaches, holds_item, stands_around, stmt_stands_around, IsClosed, IsKeptSet}
use Rattle.tcel_core.specs.Kinds.{Slicing, is_kept_item, holds_kept, reads_inside, reads_outside, writes_inside, writes_outside, is_kind_1, is_kind_2, is_kind_3, is_state_variable, is_live}
use Rattle.tcel_core.specs.Language.{Expr, Block, done, next, Stmt, item, choice, timed, Act}
use Rattle.tcel_core.specs.Paths.{Point, at_item, at_test, points, stmt_points, point_reads, point_writes, meets, behind, on_some_path}
use Rattle.tcel_core.specs.Uses.{act_reads, act_writes, expr_reads}
use Rattle.tcel_parts.specs.Rows.{row, row_behind, stmt_row_behind}
use Rattle.tcel_parts.proofs.Alike.{either}
use Rattle.tcel_parts.proofs.Hits.{Met, Passed, behind_found, and_both, and_true}
use Rattle.tcel_parts.proofs.Leaves.{neither}
use Rattle.tcel_parts.proofs.Members.{In, in_left, in_right, in_either, in_contained, any_from_in, in_from_any, none_from_any}
use Rattle.tcel_parts.proofs.Rows.{any_behind}

-- ---- behind a point in the text

abbrev pub late : (Point → Bool) → (Point → Bool) → List Point → Bool → Bool
late here such [] end = false
late here such (p ∷ ps) end = (here p && (list_any such ps || end)) || late here such ps end

late-append : (here such : Point → Bool) (ps qs : List Point) (end : Bool) → late here such (ps ++ qs) end ≡ (late here such ps (list_any such qs || end) || late here such qs end)
late-append here such [] qs end = refl
late-append here such (p ∷ ps) qs end =
    ap (λ b. (here p && (b || end)) || late here such (ps ++ qs) end) (list_any-append such ps qs)
    ∙ (ap (λ b. (here p && b) || late here such (ps ++ qs) end) (or_assoc (list_any such ps) (list_any such qs) end)
    ∙ (ap (λ b. (here p && (list_any such ps || (list_any such qs || end))) || b) (late-append here such ps qs end)
    ∙ sym (or_assoc (here p && (list_any such ps || (list_any such qs || end))) (late here such ps (list_any such qs || end)) (late here such qs end))))

late_none : (here such : Point → Bool) (ps : List Point) → late here such ps false ≡ behind here (list_any such) ps
late_none here such [] = refl
late_none here such (p ∷ ps) =
    ap (λ b. (here p && b) || late here such ps false) (or-false (list_any such ps)) ∙ ap (λ b. (here p && list_any such ps) || b) (late_none here such ps)

-- ---- a block in its place

-- what needs a variable, what wants it, and what is ahead in the text, before a block with these behind it
abbrev pub needed : Slicing → Block → (ℕ → Bool) → ℕ → Bool
needed s b N v = row (reads_inside s v) (λ p. point_writes p v) b (N v)

abbrev pub wanted : Slicing → Block → (ℕ → Bool) → ℕ → Bool
wanted s b X v = row (reads_outside s v) (λ p. point_writes p v) b (X v)

abbrev pub ahead : Slicing → List Point → (ℕ → Bool) → ℕ → Bool
ahead s ps W v = list_any (writes_inside s v) ps || W v

-- rows behind a point, of a block or of a statement
abbrev pub Behind : Type 0
Behind = (Point → Bool) → (Point → Bool) → (Point → Bool) → Bool → Bool

pub record Context (s : Slicing) (ps : List Point) (rows : Behind) (N X W : ℕ → Bool) : Type 0 where
  pub inside : (p : Point) → In ps p → In (points s.body) p
  -- what writes a variable that is needed behind it is kept
  pub keeps : (n v : ℕ) → rows (λ p. is_item n p && point_writes p v) (reads_inside s v) (λ p. point_writes p v) (N v) ≡ true → s.kept n ≡ true
  -- what is kept and writes a variable of kind 3 that is wanted behind it is live for it
  pub lives : (n v : ℕ) → is_kind_3 s v ≡ true → rows (λ p. is_item n p && writes_inside s v p) (reads_outside s v) (λ p. point_writes p v) (X v) ≡ true → is_live s n v ≡ true
  -- what the rest reads of kind 1 is written no more
  pub settles : (v : ℕ) → is_kind_1 s v ≡ true → late (reads_outside s v) (writes_inside s v) ps (W v) ≡ false

abbrev pub InBlock : Slicing → Block → (ℕ → Bool) → (ℕ → Bool) → (ℕ → Bool) → Type 0
InBlock s b N X W = Context s (points b) (λ here hit stop end. row_behind here hit stop b end) N X W

abbrev pub InStmt : Slicing → Stmt → (ℕ → Bool) → (ℕ → Bool) → (ℕ → Bool) → Type 0
InStmt s t N X W = Context s (stmt_points t) (λ here hit stop end. stmt_row_behind here hit stop t end) N X W

module _ (s : Slicing) where
  pub head : (t : Stmt) (rest : Block) (N X W : ℕ → Bool) → InBlock s (next t rest) N X W → InStmt s t (needed s rest N) (wanted s rest X) (ahead s (points rest) W)
  head t rest N X W c =
      record {
        inside = λ p h. c.inside p (in_left (stmt_points t) (points rest) p h);
        keeps = λ n v h. c.keeps n v (or_left _ _ h);
        lives = λ n v k h. c.lives n v k (or_left _ _ h);
        settles = λ v k.
            (neither (late (reads_outside s v) (writes_inside s v) (stmt_points t) (ahead s (points rest) W v)) (late (reads_outside s v) (writes_inside s v) (points rest) (W v))
            (sym (late-append (reads_outside s v) (writes_inside s v) (stmt_points t) (points rest) (W v)) ∙ c.settles v k)).0;
      }

  pub behind_head : (t : Stmt) (rest : Block) (N X W : ℕ → Bool) → InBlock s (next t rest) N X W → InBlock s rest N X W
  behind_head t rest N X W c =
      record {
        inside = λ p h. c.inside p (in_right (stmt_points t) (points rest) p h);
        keeps = λ n v h. c.keeps n v (or_right _ _ h);
        lives = λ n v k h. c.lives n v k (or_right _ _ h);
        settles = λ v k.
            (neither (late (reads_outside s v) (writes_inside s v) (stmt_points t) (ahead s (points rest) W v)) (late (reads_outside s v) (writes_inside s v) (points rest) (W v))
            (sym (late-append (reads_outside s v) (writes_inside s v) (stmt_points t) (points rest) (W v)) ∙ c.settles v k)).1;
      }

  module _ (id : ℕ) (test : Expr) (held other : Block) (N X W : ℕ → Bool) where
    split_text : InStmt s (choice id test held other) N X W → (v : ℕ) → is_kind_1 s v ≡ true →
        ((reads_outside s v (at_test id test held other) && (list_any (writes_inside s v) (points held ++ points other) || W v)) ≡ false)
        × (late (reads_outside s v) (writes_inside s v) (points held) (ahead s (points other) W v) ≡ false)
        × (late (reads_outside s v) (writes_inside s v) (points other) (W v) ≡ false)
    split_text c v k =
        let both = neither (reads_outside s v (at_test id test held other) && (list_any (writes_inside s v) (points held ++ points other) || W v)) (late (reads_outside s v) (writes_inside s v) (points held ++ points other) (W v)) (c.settles v k) in
        let two = neither (late (reads_outside s v) (writes_inside s v) (points held) (ahead s (points other) W v)) (late (reads_outside s v) (writes_inside s v) (points other) (W v))
        (sym (late-append (reads_outside s v) (writes_inside s v) (points held) (points other) (W v)) ∙ both.1)
        in (both.0, two.0, two.1)

    in_then : (here hit stop : Point → Bool) (end : Bool) → row_behind here hit stop held end ≡ true → stmt_row_behind here hit stop (choice id test held other) end ≡ true
    in_then here hit stop end h =
        or_right (here (at_test id test held other) && (row hit stop held end || row hit stop other end)) (row_behind here hit stop held end || row_behind here hit stop other end)
        (or_left (row_behind here hit stop held end) (row_behind here hit stop other end) h)

    in_else : (here hit stop : Point → Bool) (end : Bool) → row_behind here hit stop other end ≡ true → stmt_row_behind here hit stop (choice id test held other) end ≡ true
    in_else here hit stop end h =
        or_right (here (at_test id test held other) && (row hit stop held end || row hit stop other end)) (row_behind here hit stop held end || row_behind here hit stop other end)
        (or_right (row_behind here hit stop held end) (row_behind here hit stop other end) h)

    pub then_branch : InStmt s (choice id test held other) N X W → InBlock s held N X (ahead s (points other) W)
    then_branch c =
        record {
          inside = λ p h. c.inside p (inr (in_left (points held) (points other) p h));
          keeps = λ n v h. c.keeps n v (in_then _ _ _ _ h);
          lives = λ n v k h. c.lives n v k (in_then _ _ _ _ h);
          settles = λ v k. (split_text c v k).1;
        }

    pub else_branch : InStmt s (choice id test held other) N X W → InBlock s other N X W
    else_branch c =
        record {
          inside = λ p h. c.inside p (inr (in_right (points held) (points other) p h));
          keeps = λ n v h. c.keeps n v (in_else _ _ _ _ h);
          lives = λ n v k h. c.lives n v k (in_else _ _ _ _ h);
          settles = λ v k. (split_text c v k).2;
        }

    -- what the rest's test reads of kind 1 is written no more
    pub settled_test : InStmt s (choice id test held other) N X W → (v : ℕ) → is_kind_1 s v ≡ true → (holds_kept s held || holds_kept s other) ≡ false → expr_reads test v ≡ true → W v ≡ false
    settled_test c v k out reads =
        last (reads_outside s v (at_test id test held other)) (list_any (writes_inside s v) (points held ++ points other)) (W v)
        (and_true (not (holds_kept s held || holds_kept s other)) (expr_reads test v) (ap not out) reads) (split_text c v k).0
      where
        last : (a b w : Bool) → a ≡ true → (a && (b || w)) ≡ false → w ≡ false
        last true true w e h = absurd (true≢false h)
        last true false w e h = h
        last false b w e h = absurd (true≢false (sym e))

  -- ---- an item in its place

  module _ (n : ℕ) (act : Act) (N X W : ℕ → Bool) (c : InStmt s (item n act) N X W) where
    here : (at_item n act ∷ []) ≡ stmt_points (item n act)
    here = refl

    pub item_in : In (points s.body) (at_item n act)
    item_in = c.inside (at_item n act) (inl refl)

    pub unneeded : (v : ℕ) → s.kept n ≡ false → act_writes act v ≡ true → N v ≡ false
    unneeded v out writes = first (N v) refl
      where
        first : (b : Bool) → N v ≡ b → N v ≡ false
        first false e = e
        first true e =
            absurd (true≢false (sym (c.keeps n v (and_true ((n == n) && act_writes act v) (N v) (and_true (n == n) (act_writes act v) (eq-eqb n n refl) writes) e)) ∙ out))

    pub live_here : (v : ℕ) → s.kept n ≡ true → is_kind_3 s v ≡ true → act_writes act v ≡ true → X v ≡ true → is_live s n v ≡ true
    live_here v kept kind writes want =
        c.lives n v kind
        (and_true ((n == n) && (s.kept n && act_writes act v)) (X v)
        (and_true (n == n) (s.kept n && act_writes act v) (eq-eqb n n refl) (and_true (s.kept n) (act_writes act v) kept writes)) want)

    pub settled_item : (v : ℕ) → is_kind_1 s v ≡ true → s.kept n ≡ false → act_reads act v ≡ true → W v ≡ false
    settled_item v k out reads =
        last (not (s.kept n) && act_reads act v) (W v) (and_true (not (s.kept n)) (act_reads act v) (ap not out) reads) (c.settles v k)
      where
        last : (a w : Bool) → a ≡ true → ((a && (false || w)) || false) ≡ false → w ≡ false
        last true true e h = absurd (true≢false h)
        last true false e h = refl
        last false w e h = absurd (true≢false (sym e))

-- ---- kinds and writes

not_false : (b : Bool) → not b ≡ true → b ≡ false
not_false true h = absurd (true≢false (sym h))
not_false false h = refl

-- no item outside the kept set writes a variable of kind 1
pub kind_1_writes : (s : Slicing) (v n : ℕ) (act : Act) → is_kind_1 s v ≡ true → In (points s.body) (at_item n act) → s.kept n ≡ false → act_writes act v ≡ false
kind_1_writes s v n act k there out =
    let none = not_false (list_any (writes_outside s v) (points s.body)) (and_both _ _ k).0 in
    let here = none_from_any (writes_outside s v) (points s.body) (at_item n act) none there in
    last (s.kept n) (act_writes act v) out here
  where
    last : (a w : Bool) → a ≡ false → (not a && w) ≡ false → w ≡ false
    last true w e h = absurd (true≢false e)
    last false w e h = h

-- no kept item writes a variable of kind 2
pub kind_2_writes : (s : Slicing) (v n : ℕ) (act : Act) → is_kind_2 s v ≡ true → In (points s.body) (at_item n act) → s.kept n ≡ true → act_writes act v ≡ false
kind_2_writes s v n act k there kept =
    let none = not_false (list_any (writes_inside s v) (points s.body)) (and_both _ _ k).1 in
    let here = none_from_any (writes_inside s v) (points s.body) (at_item n act) none there in
    last (s.kept n) (act_writes act v) kept here
  where
    last : (a w : Bool) → a ≡ true → (a && w) ≡ false → w ≡ false
    last true w e h = h
    last false w e h = absurd (true≢false (sym e))

-- which kind a variable is of
pub kind_of_variable : (s : Slicing) (v : ℕ) →
    (is_kind_1 s v ≡ true) ⊎ (((is_kind_1 s v ≡ false) × (is_kind_2 s v ≡ true)) ⊎ ((is_kind_1 s v ≡ false) × (is_kind_2 s v ≡ false) × (is_kind_3 s v ≡ true)))
kind_of_variable s v = first (is_kind_1 s v) (is_kind_2 s v) refl refl
  where
    first : (a b : Bool) → is_kind_1 s v ≡ a → is_kind_2 s v ≡ b →
        (is_kind_1 s v ≡ true) ⊎ (((is_kind_1 s v ≡ false) × (is_kind_2 s v ≡ true)) ⊎ ((is_kind_1 s v ≡ false) × (is_kind_2 s v ≡ false) × (is_kind_3 s v ≡ true)))
    first true b e g = inl e
    first false true e g = inr (inl (e, g))
    first false false e g = inr (inr (e, g, and_true (not (is_kind_1 s v)) (not (is_kind_2 s v)) (ap not e) (ap not g)))

-- a variable of kind 3 is neither of kind 1 nor of kind 2
pub kind_3_alone : (s : Slicing) (v : ℕ) → is_kind_3 s v ≡ true → (is_kind_1 s v ≡ false) × (is_kind_2 s v ≡ false)
kind_3_alone s v k = let both = and_both (not (is_kind_1 s v)) (not (is_kind_2 s v)) k in (not_false (is_kind_1 s v) both.0, not_false (is_kind_2 s v) both.1)

-- ---- a whole body

-- the test of an `if` stands around what its branches hold
abbrev is_around : ℕ → ℕ → Point → Bool
is_around n id (at_item m act) = false
is_around n id (at_test m test held other) = (m == id) && (holds_item held n || holds_item other n)

mutual
  pub around : (b : Block) (id n : ℕ) (p : Point) → In (points b) p → is_around n id p ≡ true → stands_around b n id ≡ true
  around done id n p h g = absurd h
  around (next t rest) id n p h g =
      elim (in_either (stmt_points t) (points rest) p h) [
        | inl first ↦ or_left (stmt_stands_around t n id) (stands_around rest n id) (stmt_around t id n p first g)
        | inr later ↦ or_right (stmt_stands_around t n id) (stands_around rest n id) (around rest id n p later g)
      ]

  stmt_around : (t : Stmt) (id n : ℕ) (p : Point) → In (stmt_points t) p → is_around n id p ≡ true → stmt_stands_around t n id ≡ true
  stmt_around (item m act) id n p (inl e) g = absurd (true≢false (sym (subst (λ q. is_around n id q ≡ true) (sym e) g)))
  stmt_around (item m act) id n p (inr h) g = absurd h
  stmt_around (choice m test held other) id n p (inl e) g =
      or_left ((m == id) && (holds_item held n || holds_item other n)) (stands_around held n id || stands_around other n id) (subst (λ q. is_around n id q ≡ true) (sym e) g)
  stmt_around (choice m test held other) id n p (inr h) g =
      or_right ((m == id) && (holds_item held n || holds_item other n)) (stands_around held n id || stands_around other n id)
      (elim (in_either (points held) (points other) p h) [
        | inl first ↦ or_left (stands_around held n id) (stands_around other n id) (around held id n p first g)
        | inr second ↦ or_right (stands_around held n id) (stands_around other n id) (around other id n p second g)
      ])
  stmt_around (timed m window body) id n p h g = around body id n p h g

-- a kept item among these
kept_among : (s : Slicing) (b : Block) → holds_kept s b ≡ true → (n : ℕ) × (s.kept n ≡ true) × (holds_item b n ≡ true)
kept_among s b h = let r = in_from_any (is_kept_item s) (points b) h in chosen r.0 r.1 r.2
  where
    chosen : (p : Point) → In (points b) p → is_kept_item s p ≡ true → (n : ℕ) × (s.kept n ≡ true) × (holds_item b n ≡ true)
    chosen (at_item n act) there kept = (n, kept, any_from_in (is_item n) (points b) (at_item n act) there (eq-eqb n n refl))
    chosen (at_test n test held other) there kept = absurd (true≢false (sym kept))

-- a closed set has each item that writes what one of its items, or a test around one, needs behind it
pub closed_keeps : (s : Slicing) → IsClosed s.body s.kept → (n v : ℕ) →
    row_behind (λ p. is_item n p && point_writes p v) (reads_inside s v) (λ p. point_writes p v) s.body false ≡ true → s.kept n ≡ true
closed_keeps s closed n v h =
    kept_by n v (behind_found (λ p. is_item n p && point_writes p v) (reads_inside s v) (λ p. point_writes p v) s.body false h)
  where
    use_of : Point → Use
    use_of (at_item k act) = by_item k
    use_of (at_test k test held other) = by_test k

    uses_it : (p : Point) (v : ℕ) → reads_inside s v p ≡ true → (is_use (use_of p) p && point_reads p v) ≡ true
    uses_it (at_item k act) v h = and_true (k == k) (act_reads act v) (eq-eqb k k refl) (and_both (s.kept k) (act_reads act v) h).1
    uses_it (at_test k test held other) v h = and_true (k == k) (expr_reads test v) (eq-eqb k k refl) (and_both (holds_kept s held || holds_kept s other) (expr_reads test v) h).1

    reached : (n v : ℕ) (p : Point) →
        ((hit' : Point → Bool) → hit' p ≡ true → (e : Bool) → row_behind (λ q. is_item n q && point_writes q v) hit' (λ q. point_writes q v) s.body e ≡ true) →
        reads_inside s v p ≡ true → reaches s.body n (use_of p) v ≡ true
    reached n v p other reads =
        any_behind (λ q. is_item n q && point_writes q v) (λ q. is_use (use_of p) q && point_reads q v) (λ q. point_writes q v) s.body false
        ∙ other (λ q. is_use (use_of p) q && point_reads q v) (uses_it p v reads) false

    by_point : (n v : ℕ) (p : Point) → In (points s.body) p → reads_inside s v p ≡ true → reaches s.body n (use_of p) v ≡ true → s.kept n ≡ true
    by_point n v (at_item k act) there reads reach = closed.for_items n k v (and_both (s.kept k) (act_reads act v) reads).0 reach
    by_point n v (at_test k test held other) there reads reach =
        elim (either (holds_kept s held) (holds_kept s other) (and_both (holds_kept s held || holds_kept s other) (expr_reads test v) reads).0) [
          | inl first ↦
              let r = kept_among s held first in
              closed.for_tests n r.0 k v r.1
              (around s.body k r.0 (at_test k test held other) there (and_true (k == k) (holds_item held r.0 || holds_item other r.0) (eq-eqb k k refl) (or_left (holds_item held r.0) (holds_item other r.0) r.2))) reach
          | inr second ↦
              let r = kept_among s other second in
              closed.for_tests n r.0 k v r.1
              (around s.body k r.0 (at_test k test held other) there (and_true (k == k) (holds_item held r.0 || holds_item other r.0) (eq-eqb k k refl) (or_right (holds_item held r.0) (holds_item other r.0) r.2))) reach
        ]

    kept_by : (n v : ℕ) →
        Met (reads_inside s v) (λ p. point_writes p v) (points s.body) (λ hit' e. row_behind (λ p. is_item n p && point_writes p v) hit' (λ p. point_writes p v) s.body e)
        ⊎ Passed (reads_inside s v) (λ p. point_writes p v) false (λ hit' e. row_behind (λ p. is_item n p && point_writes p v) hit' (λ p. point_writes p v) s.body e) →
        s.kept n ≡ true
    kept_by n v (inl m) = by_point n v m.point m.there m.hits (reached n v m.point m.other m.hits)
    kept_by n v (inr p) = absurd (true≢false (sym p.ends))

-- a body by its kept set: nothing is needed behind it, the states are wanted, and nothing is ahead
pub whole : (s : Slicing) → IsKeptSet s.body s.kept → InBlock s s.body (λ v. false) (is_state_variable s.vars) (λ v. false)
whole s set =
    record {
      inside = λ p h. h;
      keeps = closed_keeps s set.closed;
      lives = λ n v kind h.
          and_true (is_kind_3 s v)
          (on_some_path (behind (λ p. is_item n p && writes_inside s v p) (meets (reads_outside s v) (λ p. point_writes p v) (is_state_variable s.vars v))) s.body) kind
          (any_behind (λ p. is_item n p && writes_inside s v p) (reads_outside s v) (λ p. point_writes p v) s.body (is_state_variable s.vars v) ∙ h);
      settles = λ v k. late_none (reads_outside s v) (writes_inside s v) (points s.body) ∙ not_false _ (and_both _ _ k).1;
    }

-- an item outside the kept set has no event
pub no_event : (s : Slicing) → IsKeptSet s.body s.kept → (n : ℕ) (act : Act) → In (points s.body) (at_item n act) → s.kept n ≡ false → act_has_event act ≡ false
no_event s set n act there out = first (act_has_event act) refl
  where
    first : (b : Bool) → act_has_event act ≡ b → act_has_event act ≡ false
    first false e = e
    first true e = absurd (true≢false (sym (set.closed.events n act (in_contained (points s.body) (at_item n act) there) e) ∙ out))
