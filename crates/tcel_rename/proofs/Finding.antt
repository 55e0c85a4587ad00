-- What a walk finds step by step is what the rows of the body say.
use Rattle.std.proofs.Common.{◌≡◌, ℕ, suc, ◌-◌, ◌<◌, ◌≤◌, Bool, true, false, cond, not, ◌&&◌, ◌||◌, List, [], ◌∷◌, ◌++◌, map, length, get_or, drop, refl, sym, ap, ◌∙◌, subst, arith}
use Rattle.std.specs.List.{list_any}
use Rattle.std.proofs.Math.Bool.{or_assoc, or-false}
use Rattle.std.proofs.Math.Seq.{drop-cons}
use Rattle.std.proofs.lemmas.List.Folds.{list_any-append}
use Rattle.tcel_core.specs.declared.row.Row.{Row}
use Rattle.tcel_core.specs.declared.body.Body.{Body}
use Rattle.tcel_core.specs.declared.body.CoreStmt.{CoreStmt}
use Rattle.tcel_core.specs.Kinds.{Slicing, holds_kept, is_kept_item, reads_inside, reads_outside, writes_inside, writes_outside}
use Rattle.tcel_core.specs.Language.{Expr, Block, done, next, Stmt, item, choice, Act}
use Rattle.tcel_core.specs.Paths.{Point, at_test, points, stmt_points}
use Rattle.tcel_core.specs.Plain.{block_of, plain_body, plain_stmt}
use Rattle.tcel_core.specs.Rows.{stands_in}
use Rattle.tcel_core.specs.Uses.{act_reads, act_writes, expr_reads}
use Rattle.tcel_core.proofs.PlainLaws.{plain_body-list}
use Rattle.tcel_parts.specs.Rows.{row, stmt_row}
use Rattle.tcel_rename.specs.declared.kinds.Found.{Found}
use Rattle.tcel_rename.specs.Sets.{late, FindsInBlock, FindsInStmt, FindsByItem, FindsByTest, holds_among}

-- ---- behind a point in the text

late-append : (here such : Point → Bool) (ps qs : List Point) (end : Bool) → late here such (ps ++ qs) end ≡ (late here such ps (list_any such qs || end) || late here such qs end)
late-append here such [] qs end = refl
late-append here such (p ∷ ps) qs end =
    ap (λ b. (here p && (b || end)) || late here such (ps ++ qs) end) (list_any-append such ps qs)
    ∙ (ap (λ b. (here p && b) || late here such (ps ++ qs) end) (or_assoc (list_any such ps) (list_any such qs) end)
    ∙ (ap (λ b. (here p && (list_any such ps || (list_any such qs || end))) || b) (late-append here such ps qs end)
    ∙ sym (or_assoc (here p && (list_any such ps || (list_any such qs || end))) (late here such ps (list_any such qs || end)) (late here such qs end))))

-- ---- truth values in other orders

item_fetched : (k e w r : Bool) → cond k ((e && not w) || r) e ≡ ((k && r) || (not (k && w) && e))
item_fetched true true true true = refl
item_fetched true true true false = refl
item_fetched true true false true = refl
item_fetched true true false false = refl
item_fetched true false true true = refl
item_fetched true false true false = refl
item_fetched true false false true = refl
item_fetched true false false false = refl
item_fetched false e w r = refl

added_last : (a b : Bool) → (a || b) ≡ ((b || false) || a)
added_last true true = refl
added_last true false = refl
added_last false true = refl
added_last false false = refl

item_late : (a k r e : Bool) → (a || (k && (r && e))) ≡ (((k && r) && (false || e)) || false || a)
item_late true true true true = refl
item_late true true true false = refl
item_late true true false e = refl
item_late true false r e = refl
item_late false true true true = refl
item_late false true true false = refl
item_late false true false e = refl
item_late false false r e = refl

test_fetched : (h t x y : Bool) → ((x || y) || (h && t)) ≡ ((h && t) || (not (h && false) && (x || y)))
test_fetched true true true y = refl
test_fetched true true false true = refl
test_fetched true true false false = refl
test_fetched true false x y = or-false (x || y)
test_fetched false t x y = or-false (x || y)

no_write : (h x : Bool) → ((h && false) || x) ≡ x
no_write true x = refl
no_write false x = refl

test_late : (h t x l a : Bool) → ((l || a) || (h && (t && x))) ≡ ((((h && t) && x) || l) || a)
test_late true true true true a = refl
test_late true true true false true = refl
test_late true true true false false = refl
test_late true true false l a = or-false (l || a)
test_late true false x l a = or-false (l || a)
test_late false t x l a = or-false (l || a)

module _ (s : Slicing) where
  pub finds_none : (a : Found) → FindsInBlock s done a a
  finds_none a = record { fetched = λ v small. refl; outside = λ v small. refl; inside = λ v small. refl; late = λ v small. refl }

  pub finds_next : (t : Stmt) (rest : Block) (a b c : Found) → FindsInBlock s rest a b → FindsInStmt s t b c → FindsInBlock s (next t rest) a c
  finds_next t rest a b c f g =
      record {
        fetched = λ v small. g.fetched v small ∙ ap (λ e. stmt_row (reads_inside s v) (writes_inside s v) t e) (f.fetched v small);
        outside = λ v small.
            g.outside v small
            ∙ (ap (λ e. list_any (writes_outside s v) (stmt_points t) || e) (f.outside v small) ∙ joined (writes_outside s v) (stands_in a.outside v));
        inside = λ v small.
            g.inside v small
            ∙ (ap (λ e. list_any (writes_inside s v) (stmt_points t) || e) (f.inside v small) ∙ joined (writes_inside s v) (stands_in a.inside v));
        late = λ v small.
            let here = reads_outside s v in
            let such = writes_inside s v in
            let end = stands_in a.inside v in
            g.late v small
            ∙ (ap (λ e. late here such (stmt_points t) e || stands_in b.late v) (f.inside v small)
            ∙ (ap (λ e. late here such (stmt_points t) (list_any such (points rest) || end) || e) (f.late v small)
            ∙ (sym (or_assoc (late here such (stmt_points t) (list_any such (points rest) || end)) (late here such (points rest) end) (stands_in a.late v))
            ∙ ap (λ e. e || stands_in a.late v) (sym (late-append here such (stmt_points t) (points rest) end)))));
      }
    where
      joined : (such : Point → Bool) (e : Bool) → (list_any such (stmt_points t) || (list_any such (points rest) || e)) ≡ (list_any such (stmt_points t ++ points rest) || e)
      joined such e = sym (or_assoc (list_any such (stmt_points t)) (list_any such (points rest)) e) ∙ ap (λ b. b || e) (sym (list_any-append such (stmt_points t) (points rest)))

  pub finds_item : (n : ℕ) (act : Act) (held : Bool) (a b : Found) → held ≡ s.kept n → FindsByItem held (act_reads act) (act_writes act) a b → FindsInStmt s (item n act) a b
  finds_item n act held a b is g =
      let f = subst (λ k. FindsByItem k (act_reads act) (act_writes act) a b) is g in
      record {
        fetched = λ v small. f.fetched v small ∙ item_fetched (s.kept n) (stands_in a.fetched v) (act_writes act v) (act_reads act v);
        outside = λ v small. f.outside v small ∙ added_last (stands_in a.outside v) (not (s.kept n) && act_writes act v);
        inside = λ v small. f.inside v small ∙ added_last (stands_in a.inside v) (s.kept n && act_writes act v);
        late = λ v small. f.late v small ∙ item_late (stands_in a.late v) (not (s.kept n)) (act_reads act v) (stands_in a.inside v);
      }

  -- ---- an `if`: its second branch, its first from what is behind the `if`, and its test

  module _ (m : ℕ) (test : Expr) (held other : Block) (a b c d e : Found) (second : FindsInBlock s other a b)
      (c_fetched : c.fetched ≡ a.fetched) (c_outside : c.outside ≡ b.outside) (c_inside : c.inside ≡ b.inside) (c_late : c.late ≡ b.late)
      (first : FindsInBlock s held c d) (both : Row) (is_both : (v : ℕ) → v < 256 → stands_in both v ≡ (stands_in d.fetched v || stands_in b.fetched v))
      (holds : Bool) (is_held : holds ≡ (holds_kept s held || holds_kept s other))
      (last : FindsByTest holds (expr_reads test) (record d { fetched = both }) e) where
    abbrev inside : Bool
    inside = holds_kept s held || holds_kept s other

    at_end : FindsByTest inside (expr_reads test) (record d { fetched = both }) e
    at_end = subst (λ k. FindsByTest k (expr_reads test) (record d { fetched = both }) e) is_held last

    passed : (such : Point → Bool) (h : Bool) (v : ℕ) (x y : Row) (z w : Bool) → w ≡ (list_any such (points held) || z) → z ≡ (list_any such (points other) || stands_in y v) →
        such (at_test m test held other) ≡ (h && false) → w ≡ (list_any such (stmt_points (choice m test held other)) || stands_in y v)
    passed such h v x y z w f g none =
        f
        ∙ (ap (λ k. list_any such (points held) || k) g
        ∙ (sym (or_assoc (list_any such (points held)) (list_any such (points other)) (stands_in y v))
        ∙ (ap (λ k. k || stands_in y v) (sym (list_any-append such (points held) (points other)))
        ∙ ap (λ k. k || stands_in y v)
        (sym (no_write h (list_any such (points held ++ points other))) ∙ ap (λ k. k || list_any such (points held ++ points other)) (sym none)))))

    pub finds_choice : FindsInStmt s (choice m test held other) a e
    finds_choice =
        record {
          fetched = λ v small.
              let f = at_end.fetched v small in
              let x = first.fetched v small ∙ ap (λ (r : Row). row (reads_inside s v) (writes_inside s v) held (stands_in r v)) c_fetched in
              f
              ∙ (ap (λ k. k || (inside && expr_reads test v)) (is_both v small)
              ∙ (ap (λ k. (k || stands_in b.fetched v) || (inside && expr_reads test v)) x
              ∙ (ap (λ k. (row (reads_inside s v) (writes_inside s v) held (stands_in a.fetched v) || k) || (inside && expr_reads test v)) (second.fetched v small)
              ∙ test_fetched inside (expr_reads test v) (row (reads_inside s v) (writes_inside s v) held (stands_in a.fetched v)) (row (reads_inside s v) (writes_inside s v) other (stands_in a.fetched v)))));
          outside = λ v small.
              passed (writes_outside s v) (not inside) v a.outside a.outside (stands_in c.outside v) (stands_in e.outside v) (at_end.outside v small ∙ first.outside v small)
              (ap (λ (r : Row). stands_in r v) c_outside ∙ second.outside v small) refl;
          inside = λ v small.
              passed (writes_inside s v) inside v a.inside a.inside (stands_in c.inside v) (stands_in e.inside v) (at_end.inside v small ∙ first.inside v small)
              (ap (λ (r : Row). stands_in r v) c_inside ∙ second.inside v small) refl;
          late = λ v small.
              let here = reads_outside s v in
              let such = writes_inside s v in
              let end = stands_in a.inside v in
              let behind_first : stands_in c.inside v ≡ (list_any such (points other) || end) = ap (λ (r : Row). stands_in r v) c_inside ∙ second.inside v small in
              let behind_test : stands_in d.inside v ≡ (list_any such (points held ++ points other) || end) =
              first.inside v small
              ∙ (ap (λ k. list_any such (points held) || k) behind_first
              ∙ (sym (or_assoc (list_any such (points held)) (list_any such (points other)) end) ∙ ap (λ k. k || end) (sym (list_any-append such (points held) (points other)))))
              in
              let in_branches : stands_in d.late v ≡ (late here such (points held ++ points other) end || stands_in a.late v) =
              first.late v small
              ∙ (ap (λ k. late here such (points held) k || stands_in c.late v) behind_first
              ∙ (ap (λ k. late here such (points held) (list_any such (points other) || end) || k) (ap (λ (r : Row). stands_in r v) c_late ∙ second.late v small)
              ∙ (sym (or_assoc (late here such (points held) (list_any such (points other) || end)) (late here such (points other) end) (stands_in a.late v))
              ∙ ap (λ k. k || stands_in a.late v) (sym (late-append here such (points held) (points other) end)))))
              in
              at_end.late v small
              ∙ (ap (λ k. k || (not inside && (expr_reads test v && stands_in d.inside v))) in_branches
              ∙ (ap (λ k. (late here such (points held ++ points other) end || stands_in a.late v) || (not inside && (expr_reads test v && k))) behind_test
              ∙ test_late (not inside) (expr_reads test v) (list_any such (points held ++ points other) || end) (late here such (points held ++ points other) end) (stands_in a.late v)));
        }

-- ---- a body's statements from the last

pub drop_last : {X : Type 0} (xs : List X) (n : ℕ) (x : X) → 0 < n → n ≤ length xs → x ≡ get_or xs (n - 1) x → drop (n - 1) xs ≡ x ∷ drop n xs
drop_last xs n x some most is =
    drop-cons xs (n - 1) x (omega arith) ∙ (ap (λ y. y ∷ drop (suc (n - 1)) xs) (sym is) ∙ ap (λ k. x ∷ drop k xs) one_more)
  where
    one_more : suc (n - 1) ≡ n
    one_more = omega arith

pub block_before : (xs : List CoreStmt) (n : ℕ) (x : CoreStmt) → 0 < n → n ≤ length xs → x ≡ get_or xs (n - 1) x →
    block_of (map plain_stmt (drop (n - 1) xs)) ≡ next (plain_stmt x) (block_of (map plain_stmt (drop n xs)))
block_before xs n x some most is = ap (λ l. block_of (map plain_stmt l)) (drop_last xs n x some most is)

pub holds_next : (s : Slicing) (t : Stmt) (rest : Block) (h k : Bool) → h ≡ holds_among s (stmt_points t) → k ≡ holds_among s (points rest) → (h || k) ≡ holds_among s (points (next t rest))
holds_next s t rest h k e f = ap (λ b. b || k) e ∙ (ap (λ b. holds_among s (stmt_points t) || b) f ∙ sym (list_any-append (is_kept_item s) (stmt_points t) (points rest)))

pub holds_choice : (s : Slicing) (m : ℕ) (test : Expr) (held other : Block) (h k : Bool) → h ≡ holds_among s (points held) → k ≡ holds_among s (points other) →
    (h || k) ≡ holds_among s (stmt_points (choice m test held other))
holds_choice s m test held other h k e f =
    ap (λ b. b || k) e ∙ (ap (λ b. holds_among s (points held) || b) f ∙ sym (list_any-append (is_kept_item s) (points held) (points other)))

-- all statements of a body
pub all_statements : (b : Body) (xs : List CoreStmt) (n : ℕ) → xs ≡ b.list → n ≡ 0 → block_of (map plain_stmt (drop n xs)) ≡ plain_body b
all_statements b xs n same none =
    ap (λ k. block_of (map plain_stmt (drop k xs))) none ∙ (ap (λ l. block_of (map plain_stmt l)) same ∙ sym (plain_body-list b))
