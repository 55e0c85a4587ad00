-- What the walk marks is closed under what kept items need.
use Rattle.std.proofs.Common.{◌≡◌, ℕ, zero, suc, ◌<◌, Bool, true, false, cond, not, ◌&&◌, ◌||◌, ◌==◌, List, [], ◌∷◌, ◌++◌, length, refl, sym, ◌∙◌, subst, arith, ◌⊎◌, inl, inr, eq-eqb, eqb-true}
use Rattle.std.specs.Prelude.{Contains}
use Rattle.std.specs.List.{list_any}
use Rattle.std.proofs.lemmas.Bool.{true≢false, or_left, or_right}
use Rattle.std.proofs.lemmas.List.Folds.{list_any-append}
use Rattle.tcel_core.specs.declared.var.Var.{Var}
use Rattle.tcel_core.specs.Contents.{act_has_event}
use Rattle.tcel_core.specs.Kept.{by_item, by_test, is_item, is_use, holds_item, stands_around, stmt_stands_around, IsClosed}
use Rattle.tcel_core.specs.Kinds.{Slicing, is_kept_item, holds_kept, reads_inside}
use Rattle.tcel_core.specs.Language.{Expr, Block, done, next, Stmt, item, choice, timed, Act, Task}
use Rattle.tcel_core.specs.Numbering.{item_numbers, if_numbers, stmt_if_numbers}
use Rattle.tcel_core.specs.Paths.{Point, at_item, at_test, points, stmt_points, point_reads, point_writes}
use Rattle.tcel_core.specs.Sound.{IsSoundTask}
use Rattle.tcel_core.specs.Uses.{act_reads, act_writes, expr_reads}
use Rattle.tcel_flow.proofs.Backward.{over, over_stmt}
use Rattle.tcel_flow.proofs.Reached.{writes_few}
use Rattle.tcel_parts.specs.Rows.{row, stmt_row, row_behind, stmt_row_behind}
use Rattle.tcel_parts.proofs.Alike.{either}
use Rattle.tcel_parts.proofs.Distinct.{AreDistinct, split, numbers_distinct, test_numbered, stmt_test_numbered}
use Rattle.tcel_parts.proofs.Hits.{behind_found, and_both, and_true}
use Rattle.tcel_parts.proofs.Members.{In, in_left, in_right, in_either, any_from_in, in_from_any}
use Rattle.tcel_parts.proofs.OwnNames.{point_behind}
use Rattle.tcel_parts.proofs.Rows.{any_behind}
use Rattle.tcel_slice.specs.Keeping.{Known, have_common}
use Rattle.tcel_slice.proofs.Common.{common_some}
use Rattle.tcel_slice.proofs.Marks.{keep, is_wanted, grow, stmt_grow, IsFinal, StmtIsFinal, rest_final, head_final, else_final, then_final}

-- what is known before an item
picked : (k a w r : Bool) → ((k ≡ true) × (r ≡ true)) ⊎ ((not w ≡ true) × (a ≡ true)) → cond k ((a && not w) || r) a ≡ true
picked true a w r (inl h) = or_right (a && not w) r h.1
picked false a w r (inl h) = absurd (true≢false (sym h.0))
picked true a w r (inr h) = or_left (a && not w) r (and_true a (not w) h.1 h.0)
picked false a w r (inr h) = h.1

inner : (a b c d : Bool) → (a || b) ≡ true → ((false || b) ≡ true → c ≡ true) → ((c || a) ≡ true → d ≡ true) → d ≡ true
inner true b c d h f g = g (or_right c true refl)
inner false b c d h f g = g (or_left c false (f h))

branch : (a b c d : Bool) → (a || b) ≡ true → (a ≡ true → c ≡ true) → (b ≡ true → d ≡ true) → (c || d) ≡ true
branch true b c d h f g = or_left c d (f refl)
branch false b c d h f g = or_right c d (g h)

module _ (vars : List Var) (body : Block) (kept : ℕ → Bool) where
  abbrev s : Slicing
  s = record { vars = vars; body = body; kept = kept }

  abbrev stop : ℕ → Point → Bool
  stop v p = point_writes p v

  abbrev here : ℕ → ℕ → Point → Bool
  here n v p = is_item n p && point_writes p v

  -- a kept item was wanted where the walk met it
  decided : (n : ℕ) (act : Act) (t : Known) → StmtIsFinal kept (item n act) t → kept n ≡ true → is_wanted act t.needed ≡ true
  decided n act t f h =
      elim (either (t.marks n) (is_wanted act t.needed && (n == n)) (f.final n (inl refl) h)) [
        | inl before ↦ absurd (f.fresh n (inl refl) before)
        | inr wanted ↦ (and_both (is_wanted act t.needed) (n == n) wanted).0
      ]

  -- ---- a branch with a kept item is known to have one

  mutual
    holds : (b : Block) (t : Known) → IsFinal kept b t → (t.holds || holds_kept s b) ≡ true → (over keep b t).holds ≡ true
    holds done t f h =
        elim (either t.holds false h) [
          | inl e ↦ e
          | inr e ↦ absurd (true≢false (sym e))
        ]
    holds (next st rest) t f h =
        let one = stmt_holds st (over keep rest t) (head_final kept st rest t f) in
        elim (either t.holds (holds_kept s (next st rest)) h) [
          | inl e ↦ one (or_left (over keep rest t).holds (list_any (is_kept_item s) (stmt_points st)) (holds rest t (rest_final kept st rest t f) (or_left t.holds (holds_kept s rest) e)))
          | inr e ↦
              elim (either (list_any (is_kept_item s) (stmt_points st)) (holds_kept s rest) (sym (list_any-append (is_kept_item s) (stmt_points st) (points rest)) ∙ e)) [
                | inl first ↦ one (or_right (over keep rest t).holds (list_any (is_kept_item s) (stmt_points st)) first)
                | inr later ↦ one (or_left (over keep rest t).holds (list_any (is_kept_item s) (stmt_points st)) (holds rest t (rest_final kept st rest t f) (or_right t.holds (holds_kept s rest) later)))
              ]
        ]

    stmt_holds : (st : Stmt) (t : Known) → StmtIsFinal kept st t → (t.holds || list_any (is_kept_item s) (stmt_points st)) ≡ true → (over_stmt keep st t).holds ≡ true
    stmt_holds (item n act) t f h =
        elim (either t.holds (kept n || false) h) [
          | inl e ↦ or_left t.holds (is_wanted act t.needed) e
          | inr e ↦
              elim (either (kept n) false e) [
                | inl k ↦ or_right t.holds (is_wanted act t.needed) (decided n act t f k)
                | inr k ↦ absurd (true≢false (sym k))
              ]
        ]
    stmt_holds (choice m test held other) t f h =
        let second = over keep other (keep.enter t) in
        let first = over keep held (keep.again t second) in
        elim (either t.holds (list_any (is_kept_item s) (points held ++ points other)) h) [
          | inl e ↦ or_left t.holds first.holds e
          | inr e ↦
              or_right t.holds first.holds
              (inner (holds_kept s held) (holds_kept s other) second.holds first.holds (sym (list_any-append (is_kept_item s) (points held) (points other)) ∙ e)
              (holds other (keep.enter t) (else_final kept m test held other t f)) (holds held (keep.again t second) (then_final kept m test held other t f)))
        ]
    stmt_holds (timed m window b) t f h = holds b t f h

  -- ---- what kept items need is known to be needed

  module _ (v : ℕ) (small : v < 256) where
    mutual
      knows : (b : Block) (t : Known) → IsFinal kept b t → (N : Bool) → (N ≡ true → t.needed v ≡ true) → row (reads_inside s v) (stop v) b N ≡ true → (over keep b t).needed v ≡ true
      knows done t f N up h = up h
      knows (next st rest) t f N up h =
          stmt_knows st (over keep rest t) (head_final kept st rest t f) (row (reads_inside s v) (stop v) rest N) (knows rest t (rest_final kept st rest t f) N up) h

      stmt_knows : (st : Stmt) (t : Known) → StmtIsFinal kept st t → (N : Bool) → (N ≡ true → t.needed v ≡ true) → stmt_row (reads_inside s v) (stop v) st N ≡ true → (over_stmt keep st t).needed v ≡ true
      stmt_knows (item n act) t f N up h =
          picked (is_wanted act t.needed) (t.needed v) (act_writes act v) (act_reads act v)
          (elim (either (kept n && act_reads act v) (not (act_writes act v) && N) h) [
            | inl e ↦ let both = and_both (kept n) (act_reads act v) e in inl (decided n act t f both.0, both.1)
            | inr e ↦ let both = and_both (not (act_writes act v)) N e in inr (both.0, up both.1)
          ])
      stmt_knows (choice m test held other) t f N up h =
          let second = over keep other (keep.enter t) in
          let first = over keep held (keep.again t second) in
          let inside = holds_kept s held || holds_kept s other in
          elim (either (inside && expr_reads test v) (row (reads_inside s v) (stop v) held N || row (reads_inside s v) (stop v) other N) h) [
            | inl e ↦
                let both = and_both inside (expr_reads test v) e in
                or_right (first.needed v || second.needed v) (first.holds && expr_reads test v)
                (and_true first.holds (expr_reads test v)
                (inner (holds_kept s held) (holds_kept s other) second.holds first.holds both.0 (holds other (keep.enter t) (else_final kept m test held other t f)) (holds held (keep.again t second) (then_final kept m test held other t f))) both.1)
            | inr e ↦
                or_left (first.needed v || second.needed v) (first.holds && expr_reads test v)
                (branch (row (reads_inside s v) (stop v) held N) (row (reads_inside s v) (stop v) other N) (first.needed v) (second.needed v) e (knows held (keep.again t second) (then_final kept m test held other t f) N up) (knows other (keep.enter t) (else_final kept m test held other t f) N up))
          ]
      stmt_knows (timed m window b) t f N up h = knows b t f N up h

    mutual
      -- an item that writes it before is kept
      reached : (b : Block) (t : Known) → IsFinal kept b t → (N : Bool) → (N ≡ true → t.needed v ≡ true) → (n : ℕ) → row_behind (here n v) (reads_inside s v) (stop v) b N ≡ true → kept n ≡ true
      reached done t f N up n h = absurd (true≢false (sym h))
      reached (next st rest) t f N up n h =
          elim (either (stmt_row_behind (here n v) (reads_inside s v) (stop v) st (row (reads_inside s v) (stop v) rest N)) (row_behind (here n v) (reads_inside s v) (stop v) rest N) h) [
            | inl first ↦ stmt_reached st (over keep rest t) (head_final kept st rest t f) (row (reads_inside s v) (stop v) rest N) (knows rest t (rest_final kept st rest t f) N up) n first
            | inr later ↦ reached rest t (rest_final kept st rest t f) N up n later
          ]

      stmt_reached : (st : Stmt) (t : Known) → StmtIsFinal kept st t → (N : Bool) → (N ≡ true → t.needed v ≡ true) → (n : ℕ) → stmt_row_behind (here n v) (reads_inside s v) (stop v) st N ≡ true → kept n ≡ true
      stmt_reached (item m act) t f N up n h =
          let both = and_both ((m == n) && act_writes act v) N h in
          let first = and_both (m == n) (act_writes act v) both.0 in
          let wanted = or_right (act_has_event act) (have_common (act_writes act) t.needed) (common_some (act_writes act) t.needed v small first.1 (up both.1)) in
          subst (λ k. kept k ≡ true) (eqb-true m n first.0)
          (f.sub m (or_right (t.marks m) (is_wanted act t.needed && (m == m)) (and_true (is_wanted act t.needed) (m == m) wanted (eq-eqb m m refl))))
      stmt_reached (choice m test held other) t f N up n h =
          elim (either (row_behind (here n v) (reads_inside s v) (stop v) held N) (row_behind (here n v) (reads_inside s v) (stop v) other N) h) [
            | inl first ↦ reached held (keep.again t (over keep other (keep.enter t))) (then_final kept m test held other t f) N up n first
            | inr second ↦ reached other (keep.enter t) (else_final kept m test held other t f) N up n second
          ]
      stmt_reached (timed m window b) t f N up n h = reached b t f N up n h

-- ---- events

abbrev MarkedAt : ℕ → Act → Known → Point → Type 0
MarkedAt m a t (at_item n act) = act_has_event act ≡ true → (over_stmt keep (item m a) t).marks n ≡ true
MarkedAt m a t (at_test n test held other) = Unit {0}

mutual
  eventful : (b : Block) (t : Known) (n : ℕ) (act : Act) → In (points b) (at_item n act) → act_has_event act ≡ true → (over keep b t).marks n ≡ true
  eventful done t n act there h = absurd there
  eventful (next st rest) t n act there h =
      elim (in_either (stmt_points st) (points rest) (at_item n act) there) [
        | inl first ↦ stmt_eventful st (over keep rest t) n act first h
        | inr later ↦ stmt_grow st (over keep rest t) n (eventful rest t n act later h)
      ]

  stmt_eventful : (st : Stmt) (t : Known) (n : ℕ) (act : Act) → In (stmt_points st) (at_item n act) → act_has_event act ≡ true → (over_stmt keep st t).marks n ≡ true
  stmt_eventful (item m a) t n act (inl e) h = subst (MarkedAt m a t) e (λ g. or_right (t.marks m) (is_wanted a t.needed && (m == m)) (and_true (is_wanted a t.needed) (m == m) (or_left (act_has_event a) (have_common (act_writes a) t.needed) g) (eq-eqb m m refl))) h
  stmt_eventful (item m a) t n act (inr there) h = absurd there
  stmt_eventful (choice m test held other) t n act (inl e) h = absurd (at_test_no_item e)
    where
      is_an_item : Point → Type 0
      is_an_item (at_item k x) = Unit {0}
      is_an_item (at_test k x y z) = ⊥

      at_test_no_item : at_test m test held other ≡ at_item n act → ⊥
      at_test_no_item same = subst is_an_item (sym same) tt
  stmt_eventful (choice m test held other) t n act (inr there) h =
      elim (in_either (points held) (points other) (at_item n act) there) [
        | inl first ↦ eventful held (keep.again t (over keep other (keep.enter t))) n act first h
        | inr second ↦ grow held (keep.again t (over keep other (keep.enter t))) n (eventful other (keep.enter t) n act second h)
      ]
  stmt_eventful (timed m window b) t n act there h = eventful b t n act there h

-- ---- the tests around an item

abbrev TestAt : ℕ → ℕ → Expr → Block → Block → Point → Type 0
TestAt n m e h o (at_item k act) = ⊥
TestAt n m e h o (at_test k test held other) = (m ≡ k) × (h ≡ held) × (o ≡ other)

module _ (n id : ℕ) (test : Expr) (held other : Block) where
  mutual
    around_numbered : (b : Block) → stands_around b n id ≡ true → In (if_numbers b) id
    around_numbered done h = absurd (true≢false (sym h))
    around_numbered (next st rest) h =
        elim (either (stmt_stands_around st n id) (stands_around rest n id) h) [
          | inl first ↦ in_left (stmt_if_numbers st) (if_numbers rest) id (stmt_around_numbered st first)
          | inr later ↦ in_right (stmt_if_numbers st) (if_numbers rest) id (around_numbered rest later)
        ]

    stmt_around_numbered : (st : Stmt) → stmt_stands_around st n id ≡ true → In (stmt_if_numbers st) id
    stmt_around_numbered (item k act) h = absurd (true≢false (sym h))
    stmt_around_numbered (choice k e h1 o1) h =
        elim (either ((k == id) && (holds_item h1 n || holds_item o1 n)) (stands_around h1 n id || stands_around o1 n id) h) [
          | inl at ↦ inl (eqb-true k id (and_both (k == id) (holds_item h1 n || holds_item o1 n) at).0)
          | inr within ↦
              elim (either (stands_around h1 n id) (stands_around o1 n id) within) [
                | inl first ↦ inr (in_left (if_numbers h1) (if_numbers o1) id (around_numbered h1 first))
                | inr second ↦ inr (in_right (if_numbers h1) (if_numbers o1) id (around_numbered o1 second))
              ]
        ]
    stmt_around_numbered (timed k window b) h = around_numbered b h

  mutual
    -- the `if` of that number has the item
    around_holds : (b : Block) → AreDistinct (if_numbers b) → stands_around b n id ≡ true → In (points b) (at_test id test held other) → (holds_item held n || holds_item other n) ≡ true
    around_holds done d h there = absurd there
    around_holds (next st rest) d h there =
        let parts = split (stmt_if_numbers st) (if_numbers rest) d in
        elim (either (stmt_stands_around st n id) (stands_around rest n id) h) [
          | inl first ↦
              elim (in_either (stmt_points st) (points rest) (at_test id test held other) there) [
                | inl at ↦ stmt_around_holds st parts.first first at
                | inr at ↦ absurd (parts.apart id (stmt_around_numbered st first) (test_numbered rest id test held other at))
              ]
          | inr later ↦
              elim (in_either (stmt_points st) (points rest) (at_test id test held other) there) [
                | inl at ↦ absurd (parts.apart id (stmt_test_numbered st id test held other at) (around_numbered rest later))
                | inr at ↦ around_holds rest parts.second later at
              ]
        ]

    stmt_around_holds : (st : Stmt) → AreDistinct (stmt_if_numbers st) → stmt_stands_around st n id ≡ true → In (stmt_points st) (at_test id test held other) → (holds_item held n || holds_item other n) ≡ true
    stmt_around_holds (item k act) d h there = absurd (true≢false (sym h))
    stmt_around_holds (timed k window b) d h there = around_holds b d h there
    stmt_around_holds (choice k e h1 o1) d h (inl same) = here_it_is (subst (TestAt n k e h1 o1) same (refl, refl, refl))
      where
        here_it_is : (k ≡ id) × (h1 ≡ held) × (o1 ≡ other) → (holds_item held n || holds_item other n) ≡ true
        here_it_is is =
            elim (either ((k == id) && (holds_item h1 n || holds_item o1 n)) (stands_around h1 n id || stands_around o1 n id) h) [
              | inl at ↦
                  subst (λ x. (holds_item x n || holds_item other n) ≡ true) is.1
                  (subst (λ y. (holds_item h1 n || holds_item y n) ≡ true) is.2 (and_both (k == id) (holds_item h1 n || holds_item o1 n) at).1)
              | inr within ↦
                  absurd (d.0 (subst (λ j. In (if_numbers h1 ++ if_numbers o1) j) (sym is.0)
                  (elim (either (stands_around h1 n id) (stands_around o1 n id) within) [
                    | inl first ↦ in_left (if_numbers h1) (if_numbers o1) id (around_numbered h1 first)
                    | inr second ↦ in_right (if_numbers h1) (if_numbers o1) id (around_numbered o1 second)
                  ])))
            ]
    stmt_around_holds (choice k e h1 o1) d h (inr there) =
        let parts = split (if_numbers h1) (if_numbers o1) d.1 in
        elim (either ((k == id) && (holds_item h1 n || holds_item o1 n)) (stands_around h1 n id || stands_around o1 n id) h) [
          | inl at ↦
              absurd (d.0 (subst (λ j. In (if_numbers h1 ++ if_numbers o1) j) (sym (eqb-true k id (and_both (k == id) (holds_item h1 n || holds_item o1 n) at).0))
              (elim (in_either (points h1) (points o1) (at_test id test held other) there) [
                | inl first ↦ in_left (if_numbers h1) (if_numbers o1) id (test_numbered h1 id test held other first)
                | inr second ↦ in_right (if_numbers h1) (if_numbers o1) id (test_numbered o1 id test held other second)
              ])))
          | inr within ↦
              elim (either (stands_around h1 n id) (stands_around o1 n id) within) [
                | inl first ↦
                    elim (in_either (points h1) (points o1) (at_test id test held other) there) [
                      | inl at ↦ around_holds h1 parts.first first at
                      | inr at ↦ absurd (parts.apart id (around_numbered h1 first) (test_numbered o1 id test held other at))
                    ]
                | inr second ↦
                    elim (in_either (points h1) (points o1) (at_test id test held other) there) [
                      | inl at ↦ absurd (parts.apart id (test_numbered h1 id test held other at) (around_numbered o1 second))
                      | inr at ↦ around_holds o1 parts.second second at
                    ]
              ]
        ]

-- ---- a whole body

contained_in : {X : Type 0} (xs : List X) (x : X) → Contains xs x → In xs x
contained_in [] x (i, h, e) = absurd (omega arith)
contained_in (y ∷ xs) x (zero, h, e) = inl e
contained_in (y ∷ xs) x (suc i, h, e) = inr (contained_in xs x (i, omega arith, e))

abbrev pub none : Known
none = record { needed = λ v. false; holds = false; marks = λ n. false }

-- the items that the walk through a body marks
abbrev pub marks_of : Block → ℕ → Bool
marks_of body = (over keep body none).marks

module _ (task : Task) (sound : IsSoundTask task) where
  abbrev the_slicing : Slicing
  the_slicing = record { vars = task.vars; body = task.body; kept = marks_of task.body }

  all_final : IsFinal (marks_of task.body) task.body none
  all_final =
      record {
        distinct = subst AreDistinct (sym sound.body.numbered.items) (numbers_distinct 0 (length (item_numbers task.body)));
        fresh = λ n there h. true≢false (sym h);
        final = λ n there h. h;
        sub = λ n h. h;
      }

  holding : (b : Block) (n : ℕ) → marks_of task.body n ≡ true → holds_item b n ≡ true → holds_kept the_slicing b ≡ true
  holding b n kept h = let r = in_from_any (is_item n) (points b) h in at_point r.0 r.1 r.2
    where
      at_point : (p : Point) → In (points b) p → is_item n p ≡ true → holds_kept the_slicing b ≡ true
      at_point (at_item k act) there e = any_from_in (is_kept_item the_slicing) (points b) (at_item k act) there (subst (λ j. marks_of task.body j ≡ true) (sym (eqb-true k n e)) kept)
      at_point (at_test k test held other) there e = absurd (true≢false (sym e))

  -- what reaches a use that the first part has is kept
  needed_by : (from v : ℕ) (hit : Point → Bool) → ((p : Point) → In (points task.body) p → hit p ≡ true → reads_inside the_slicing v p ≡ true) →
      row_behind (λ p. is_item from p && point_writes p v) hit (λ p. point_writes p v) task.body false ≡ true → marks_of task.body from ≡ true
  needed_by from v hit inside h =
      let source = point_behind (λ p. is_item from p && point_writes p v) hit (λ p. point_writes p v) task.body false h in
      elim (behind_found (λ p. is_item from p && point_writes p v) hit (λ p. point_writes p v) task.body false h) [
        | inl m ↦
            reached task.vars task.body (marks_of task.body) v (small source.0 source.1 source.2) task.body none all_final false (λ e. absurd (true≢false (sym e))) from
            (m.other (reads_inside the_slicing v) (inside m.point m.there m.hits) false)
        | inr p ↦ absurd (true≢false (sym p.ends))
      ]
    where
      small : (p : Point) → In (points task.body) p → (is_item from p && point_writes p v) ≡ true → v < 256
      small (at_item k act) there e = writes_few task sound k v act there (and_both (k == from) (act_writes act v) e).1
      small (at_test k test held other) there e = absurd (true≢false (sym e))

  pub is_closed : IsClosed task.body (marks_of task.body)
  is_closed =
      record {
        events = λ n act there h. eventful task.body none n act (contained_in (points task.body) (at_item n act) there) h;
        for_items = λ from n v kept h.
            needed_by from v (λ p. is_use (by_item n) p && point_reads p v) (items n v kept)
            (sym (any_behind (λ p. is_item from p && point_writes p v) (λ p. is_use (by_item n) p && point_reads p v) (λ p. point_writes p v) task.body false) ∙ h);
        for_tests = λ from n test v kept around h.
            needed_by from v (λ p. is_use (by_test test) p && point_reads p v) (tests n test v kept around)
            (sym (any_behind (λ p. is_item from p && point_writes p v) (λ p. is_use (by_test test) p && point_reads p v) (λ p. point_writes p v) task.body false) ∙ h);
      }
    where
      items : (n v : ℕ) → marks_of task.body n ≡ true → (p : Point) → In (points task.body) p → (is_use (by_item n) p && point_reads p v) ≡ true → reads_inside the_slicing v p ≡ true
      items n v kept (at_item k act) there e =
          let both = and_both (k == n) (act_reads act v) e in
          and_true (marks_of task.body k) (act_reads act v) (subst (λ j. marks_of task.body j ≡ true) (sym (eqb-true k n both.0)) kept) both.1
      items n v kept (at_test k test held other) there e = absurd (true≢false (sym e))

      tests : (n test v : ℕ) → marks_of task.body n ≡ true → stands_around task.body n test ≡ true → (p : Point) → In (points task.body) p → (is_use (by_test test) p && point_reads p v) ≡ true → reads_inside the_slicing v p ≡ true
      tests n test v kept around (at_item k act) there e = absurd (true≢false (sym e))
      tests n test v kept around (at_test k expr held other) there e =
          let both = and_both (k == test) (expr_reads expr v) e in
          let distinct = subst AreDistinct (sym sound.body.numbered.ifs) (numbers_distinct 0 (length (if_numbers task.body))) in
          let has = around_holds n k expr held other task.body distinct (subst (λ j. stands_around task.body n j ≡ true) (sym (eqb-true k test both.0)) around) there in
          and_true (holds_kept the_slicing held || holds_kept the_slicing other) (expr_reads expr v)
          (elim (either (holds_item held n) (holds_item other n) has) [
            | inl first ↦ or_left (holds_kept the_slicing held) (holds_kept the_slicing other) (holding held n kept first)
            | inr second ↦ or_right (holds_kept the_slicing held) (holds_kept the_slicing other) (holding other n kept second)
          ]) both.1
