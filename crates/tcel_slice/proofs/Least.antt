-- Whatever closed set there is has what the walk marks.
use Rattle.std.proofs.Common.{◌≡◌, ℕ, ◌<◌, Bool, true, false, cond, not, ◌&&◌, ◌||◌, ◌==◌, List, [], ◌∷◌, ◌++◌, refl, sym, ap, ◌∙◌, subst, inl, inr, eq-eqb, eqb-true}
use Rattle.std.specs.List.{list_any}
use Rattle.std.proofs.lemmas.Bool.{true≢false, or_left, or_right}
use Rattle.std.proofs.lemmas.List.Folds.{list_any-append}
use Rattle.tcel_core.specs.declared.var.Var.{Var}
use Rattle.tcel_core.specs.Contents.{act_has_event}
use Rattle.tcel_core.specs.Kept.{is_item, IsClosed}
use Rattle.tcel_core.specs.Kinds.{Slicing, is_kept_item, holds_kept, reads_inside}
use Rattle.tcel_core.specs.Language.{Block, done, next, Stmt, item, choice, timed, Act}
use Rattle.tcel_core.specs.Paths.{Point, at_item, points, stmt_points, point_writes}
use Rattle.tcel_core.specs.Uses.{act_reads, act_writes, expr_reads}
use Rattle.tcel_flow.proofs.Backward.{over, over_stmt}
use Rattle.tcel_parts.specs.Rows.{row, stmt_row, row_behind, stmt_row_behind}
use Rattle.tcel_parts.proofs.Alike.{either}
use Rattle.tcel_parts.proofs.Context.{closed_keeps}
use Rattle.tcel_parts.proofs.Hits.{and_both, and_true}
use Rattle.tcel_parts.proofs.Members.{In, in_left, in_right, in_contained}
use Rattle.tcel_slice.specs.Keeping.{Known, have_common}
use Rattle.tcel_slice.proofs.Common.{common_some, common_found}
use Rattle.tcel_slice.proofs.Marks.{keep, is_wanted}
use Rattle.tcel_slice.proofs.Closed.{none, marks_of}

in_either_piece : (a b c d : Bool) → (d || b) ≡ true → (d ≡ true → (a || c) ≡ true) → (a || (b || c)) ≡ true
in_either_piece true b c d h f = refl
in_either_piece false true c d h f = refl
in_either_piece false false c true h f = f refl
in_either_piece false false c false h f = absurd (true≢false (sym h))

both_branches : (a b c : Bool) → (a || b) ≡ true → (a ≡ true → (false || c) ≡ true) → (b || c) ≡ true
both_branches a true c h f = refl
both_branches true false c h f = f refl
both_branches false false c h f = absurd (true≢false (sym h))

module _ (vars : List Var) (body : Block) (kept : ℕ → Bool) (closed : IsClosed body kept) where
  abbrev s : Slicing
  s = record { vars = vars; body = body; kept = kept }

  abbrev stop : ℕ → Point → Bool
  stop v p = point_writes p v

  -- what writes a variable that is needed behind it is kept
  abbrev Keeps : ((Point → Bool) → (Point → Bool) → (Point → Bool) → Bool → Bool) → (ℕ → Bool) → Type 0
  Keeps rows N = (n v : ℕ) → rows (λ p. is_item n p && point_writes p v) (reads_inside s v) (stop v) (N v) ≡ true → kept n ≡ true

  record Within (t : Known) (N : ℕ → Bool) : Type 0 where
    pub needed : (v : ℕ) → v < 256 → t.needed v ≡ true → N v ≡ true
    pub marks : (n : ℕ) → t.marks n ≡ true → kept n ≡ true

  record Below (ps : List Point) (t u : Known) (N : ℕ → Bool) : Type 0 where
    pub within : Within u N
    pub holds : u.holds ≡ true → (t.holds || list_any (is_kept_item s) ps) ≡ true

  -- ---- an item

  module _ (n : ℕ) (act : Act) (t : Known) (N : ℕ → Bool) (there : In (points body) (at_item n act))
      (keeps : Keeps (λ here hit stop end. stmt_row_behind here hit stop (item n act) end) N) (w : Within t N) where
    wanted_kept : is_wanted act t.needed ≡ true → kept n ≡ true
    wanted_kept h =
        elim (either (act_has_event act) (have_common (act_writes act) t.needed) h) [
          | inl event ↦ closed.events n act (in_contained (points body) (at_item n act) there) event
          | inr some ↦
              let r = common_found (act_writes act) t.needed some in
              keeps n r.variable
              (and_true ((n == n) && act_writes act r.variable) (N r.variable) (and_true (n == n) (act_writes act r.variable) (eq-eqb n n refl) r.first) (w.needed r.variable r.small r.second))
        ]

    item_needed : (v : ℕ) → v < 256 → (k : Bool) → is_wanted act t.needed ≡ k → cond k ((t.needed v && not (act_writes act v)) || act_reads act v) (t.needed v) ≡ true →
        stmt_row (reads_inside s v) (stop v) (item n act) (N v) ≡ true
    item_needed v small true e h =
        elim (either (t.needed v && not (act_writes act v)) (act_reads act v) h) [
          | inl before ↦
              let both = and_both (t.needed v) (not (act_writes act v)) before in
              or_right (kept n && act_reads act v) (not (act_writes act v) && N v) (and_true (not (act_writes act v)) (N v) both.1 (w.needed v small both.0))
          | inr read ↦ or_left (kept n && act_reads act v) (not (act_writes act v) && N v) (and_true (kept n) (act_reads act v) (wanted_kept e) read)
        ]
    item_needed v small false e h =
        or_right (kept n && act_reads act v) (not (act_writes act v) && N v) (and_true (not (act_writes act v)) (N v) (unwritten (act_writes act v) refl) (w.needed v small h))
      where
        unwritten : (b : Bool) → act_writes act v ≡ b → not b ≡ true
        unwritten false g = refl
        unwritten true g = absurd (true≢false (sym (or_right (act_has_event act) (have_common (act_writes act) t.needed) (common_some (act_writes act) t.needed v small g h)) ∙ e))

    below_item : Below (at_item n act ∷ []) t (over_stmt keep (item n act) t) (λ v. stmt_row (reads_inside s v) (stop v) (item n act) (N v))
    below_item =
        record {
          within =
              record {
                needed = λ v small h. item_needed v small (is_wanted act t.needed) refl h;
                marks = λ m h.
                    elim (either (t.marks m) (is_wanted act t.needed && (n == m)) h) [
                      | inl before ↦ w.marks m before
                      | inr here ↦ let both = and_both (is_wanted act t.needed) (n == m) here in subst (λ k. kept k ≡ true) (eqb-true n m both.1) (wanted_kept both.0)
                    ];
              };
          holds = λ h.
              elim (either t.holds (is_wanted act t.needed) h) [
                | inl before ↦ or_left t.holds (kept n || false) before
                | inr here ↦ or_right t.holds (kept n || false) (or_left (kept n) false (wanted_kept here))
              ];
        }

  -- ---- statements

  mutual
    below : (b : Block) (t : Known) (N : ℕ → Bool) → ((p : Point) → In (points b) p → In (points body) p) → Keeps (λ here hit stop end. row_behind here hit stop b end) N → Within t N →
        Below (points b) t (over keep b t) (λ v. row (reads_inside s v) (stop v) b (N v))
    below done t N into keeps w = record { within = w; holds = λ h. or_left t.holds false h }
    below (next st rest) t N into keeps w =
        let later = below rest t N (λ p h. into p (in_right (stmt_points st) (points rest) p h)) (λ n v h. keeps n v (or_right _ _ h)) w in
        let first = stmt_below st (over keep rest t) (λ v. row (reads_inside s v) (stop v) rest (N v)) (λ p h. into p (in_left (stmt_points st) (points rest) p h)) (λ n v h. keeps n v (or_left _ _ h)) later.within in
        record {
          within = first.within;
          holds = λ h.
              ap (λ x. t.holds || x) (list_any-append (is_kept_item s) (stmt_points st) (points rest))
              ∙ in_either_piece t.holds (list_any (is_kept_item s) (stmt_points st)) (holds_kept s rest) (over keep rest t).holds (first.holds h) later.holds;
        }

    stmt_below : (st : Stmt) (t : Known) (N : ℕ → Bool) → ((p : Point) → In (stmt_points st) p → In (points body) p) → Keeps (λ here hit stop end. stmt_row_behind here hit stop st end) N → Within t N →
        Below (stmt_points st) t (over_stmt keep st t) (λ v. stmt_row (reads_inside s v) (stop v) st (N v))
    stmt_below (item n act) t N into keeps w = below_item n act t N (into (at_item n act) (inl refl)) keeps w
    stmt_below (timed m window b) t N into keeps w = below b t N into keeps w
    stmt_below (choice m test held other) t N into keeps w =
        let second = below other (keep.enter t) N (λ p h. into p (inr (in_right (points held) (points other) p h))) (λ n v h. keeps n v (or_right _ _ h)) (record { needed = w.needed; marks = w.marks }) in
        let u = over keep other (keep.enter t) in
        let first = below held (keep.again t u) N (λ p h. into p (inr (in_left (points held) (points other) p h))) (λ n v h. keeps n v (or_left _ _ h)) (record { needed = w.needed; marks = second.within.marks }) in
        let x = over keep held (keep.again t u) in
        let inside : x.holds ≡ true → (holds_kept s held || holds_kept s other) ≡ true =
        λ h. both_branches u.holds (holds_kept s held) (holds_kept s other) (first.holds h) second.holds in
        record {
          within =
              record {
                needed = λ v small h.
                    elim (either (x.needed v || u.needed v) (x.holds && expr_reads test v) h) [
                      | inl after ↦
                          or_right ((holds_kept s held || holds_kept s other) && expr_reads test v) (row (reads_inside s v) (stop v) held (N v) || row (reads_inside s v) (stop v) other (N v))
                          (elim (either (x.needed v) (u.needed v) after) [
                            | inl e ↦ or_left (row (reads_inside s v) (stop v) held (N v)) (row (reads_inside s v) (stop v) other (N v)) (first.within.needed v small e)
                            | inr e ↦ or_right (row (reads_inside s v) (stop v) held (N v)) (row (reads_inside s v) (stop v) other (N v)) (second.within.needed v small e)
                          ])
                      | inr read ↦
                          let both = and_both x.holds (expr_reads test v) read in
                          or_left ((holds_kept s held || holds_kept s other) && expr_reads test v) (row (reads_inside s v) (stop v) held (N v) || row (reads_inside s v) (stop v) other (N v))
                          (and_true (holds_kept s held || holds_kept s other) (expr_reads test v) (inside both.0) both.1)
                    ];
                marks = first.within.marks;
              };
          holds = λ h.
              elim (either t.holds x.holds h) [
                | inl before ↦ or_left t.holds (list_any (is_kept_item s) (points held ++ points other)) before
                | inr here ↦ or_right t.holds (list_any (is_kept_item s) (points held ++ points other)) (list_any-append (is_kept_item s) (points held) (points other) ∙ inside here)
              ];
        }

-- so the walk's marks are in it
pub in_closed : (vars : List Var) (body : Block) (kept : ℕ → Bool) → IsClosed body kept → (n : ℕ) → marks_of body n ≡ true → kept n ≡ true
in_closed vars body kept closed n h =
    (below vars body kept closed body none (λ v. false) (λ p there. there) (closed_keeps (record { vars = vars; body = body; kept = kept }) closed)
    (record { needed = λ v small e. e; marks = λ m e. absurd (true≢false (sym e)) })).within.marks n h
