-- The walk over statements, and which items it marks.
use Rattle.std.proofs.Common.{◌≡◌, ℕ, ◌<◌, Bool, true, false, cond, not, ◌&&◌, ◌||◌, ◌==◌, List, ◌++◌, refl, sym, ap, ◌∙◌, ◌⊎◌, inl, inr, eqb-true}
use Rattle.std.proofs.lemmas.Bool.{or_left}
use Rattle.tcel_core.specs.Contents.{act_has_event}
use Rattle.tcel_core.specs.Language.{Expr, Block, done, next, Stmt, item, choice, timed, Act}
use Rattle.tcel_core.specs.Numbering.{item_numbers, stmt_item_numbers}
use Rattle.tcel_core.specs.Rows.{stands_in}
use Rattle.tcel_core.specs.Uses.{act_reads, act_writes, expr_reads}
use Rattle.tcel_flow.specs.declared.step.Step.{Step}
use Rattle.tcel_flow.specs.declared.step.Step.TheVariants as steps
use Rattle.tcel_flow.specs.Shape.{at_item as item_place, opens, IsStep}
use Rattle.tcel_flow.proofs.Backward.{Rules, over, over_stmt, AreSame}
use Rattle.tcel_parts.proofs.Alike.{either}
use Rattle.tcel_parts.proofs.Distinct.{AreDistinct, split}
use Rattle.tcel_parts.proofs.Hits.{and_both}
use Rattle.tcel_parts.proofs.Members.{In, in_left, in_right}
use Rattle.tcel_slice.specs.Keeping.{Known, before_item, before_test, keeping, have_common}
use Rattle.tcel_slice.proofs.Common.{common_some, common_found, same_truth}

-- ---- the walk

-- whether an item is kept
abbrev pub is_wanted : Act → (ℕ → Bool) → Bool
is_wanted act needed = act_has_event act || have_common (act_writes act) needed

abbrev pub keep : Rules Known
keep =
    record {
      item = λ n act t. before_item (is_wanted act t.needed) (act_reads act) (act_writes act) n t;
      enter = λ a. record { needed = a.needed; holds = false; marks = a.marks };
      again = λ a b. record { needed = a.needed; holds = b.holds; marks = b.marks };
      join = λ n test a b c. before_test (expr_reads test) a b c;
    }

-- the walk over steps knows the same of variables below 256
pub record Same (s t : Known) : Type 0 where
  pub needed : (v : ℕ) → v < 256 → s.needed v ≡ t.needed v
  pub holds : s.holds ≡ t.holds
  pub marks : (n : ℕ) → s.marks n ≡ t.marks n

common_alike : (f g f' g' : ℕ → Bool) → ((v : ℕ) → v < 256 → f v ≡ f' v) → ((v : ℕ) → v < 256 → g v ≡ g' v) → have_common f g ≡ have_common f' g'
common_alike f g f' g' e h =
    same_truth (have_common f g) (have_common f' g')
    (λ k. let r = common_found f g k in common_some f' g' r.variable r.small (sym (e r.variable r.small) ∙ r.first) (sym (h r.variable r.small) ∙ r.second))
    (λ k. let r = common_found f' g' k in common_some f g r.variable r.small (e r.variable r.small ∙ r.first) (h r.variable r.small ∙ r.second))

same_item : (kept kept' : Bool) (r w r' w' : ℕ → Bool) (id n : ℕ) (s t : Known) → kept ≡ kept' → ((v : ℕ) → v < 256 → r v ≡ r' v) → ((v : ℕ) → v < 256 → w v ≡ w' v) → id ≡ n → Same s t →
    Same (before_item kept r w id s) (before_item kept' r' w' n t)
same_item kept kept' r w r' w' id n s t e f g h same =
    record {
      needed = λ v small.
          ap (λ b. cond b ((s.needed v && not (w v)) || r v) (s.needed v)) e
          ∙ (ap (λ b. cond kept' ((b && not (w v)) || r v) b) (same.needed v small)
          ∙ (ap (λ b. cond kept' ((t.needed v && not b) || r v) (t.needed v)) (g v small) ∙ ap (λ b. cond kept' ((t.needed v && not (w' v)) || b) (t.needed v)) (f v small)));
      holds = ap (λ b. b || kept) same.holds ∙ ap (λ b. t.holds || b) e;
      marks = λ m. ap (λ b. b || (kept && (id == m))) (same.marks m) ∙ (ap (λ b. t.marks m || (b && (id == m))) e ∙ ap (λ k. t.marks m || (kept' && (k == m))) h);
    }

pub the_same : AreSame keeping keep Same
the_same =
    record {
      item = at_items;
      enter = λ s t h. record { needed = h.needed; holds = refl; marks = h.marks };
      again = λ a b c d h g. record { needed = h.needed; holds = g.holds; marks = g.marks };
      join = at_tests;
    }
  where
    at_items : (x : Step) (n : ℕ) (act : Act) (s t : Known) → IsStep x (item_place n act) → Same s t → Same (keeping.item x s) (keep.item n act t)
    at_items (steps.Item id reads writes event) n act s t h same =
        same_item (event || have_common (stands_in writes) s.needed) (is_wanted act t.needed) (stands_in reads) (stands_in writes) (act_reads act) (act_writes act) id n s t
        (ap (λ b. b || have_common (stands_in writes) s.needed) h.3 ∙ ap (λ b. act_has_event act || b) (common_alike (stands_in writes) s.needed (act_writes act) t.needed h.2 same.needed)) h.1 h.2 h.0 same
    at_items (steps.Open id reads) n act s t h same = absurd h
    at_items steps.Middle n act s t h same = absurd h
    at_items steps.Close n act s t h same = absurd h

    at_tests : (x : Step) (n : ℕ) (test : Expr) (a b c d e f : Known) → IsStep x (opens n test) → Same a d → Same b e → Same c f → Same (keeping.join x a b c) (keep.join n test d e f)
    at_tests (steps.Open id reads) n test a b c d e f h i j k =
        record {
          needed = λ v small.
              ap (λ x. (x || b.needed v) || (c.holds && stands_in reads v)) (k.needed v small)
              ∙ (ap (λ x. (f.needed v || x) || (c.holds && stands_in reads v)) (j.needed v small)
              ∙ (ap (λ x. (f.needed v || e.needed v) || (x && stands_in reads v)) k.holds ∙ ap (λ x. (f.needed v || e.needed v) || (f.holds && x)) (h.1 v small)));
          holds = ap (λ x. x || c.holds) i.holds ∙ ap (λ x. d.holds || x) k.holds;
          marks = k.marks;
        }
    at_tests (steps.Item id reads writes event) n test a b c d e f h i j k = absurd h
    at_tests steps.Middle n test a b c d e f h i j k = absurd h
    at_tests steps.Close n test a b c d e f h i j k = absurd h

-- ---- marks

mutual
  -- what is marked stays so
  pub grow : (b : Block) (t : Known) (n : ℕ) → t.marks n ≡ true → (over keep b t).marks n ≡ true
  grow done t n h = h
  grow (next s rest) t n h = stmt_grow s (over keep rest t) n (grow rest t n h)

  pub stmt_grow : (s : Stmt) (t : Known) (n : ℕ) → t.marks n ≡ true → (over_stmt keep s t).marks n ≡ true
  stmt_grow (item m act) t n h = or_left (t.marks n) (is_wanted act t.needed && (m == n)) h
  stmt_grow (choice m test held other) t n h =
      let second = over keep other (keep.enter t) in
      grow held (keep.again t second) n (grow other (keep.enter t) n h)
  stmt_grow (timed m window body) t n h = grow body t n h

mutual
  -- what is marked anew stands there
  pub new : (b : Block) (t : Known) (n : ℕ) → (over keep b t).marks n ≡ true → (t.marks n ≡ true) ⊎ In (item_numbers b) n
  new done t n h = inl h
  new (next s rest) t n h =
      elim (stmt_new s (over keep rest t) n h) [
        | inl before ↦ later (new rest t n before)
        | inr there ↦ inr (in_left (stmt_item_numbers s) (item_numbers rest) n there)
      ]
    where
      later : (t.marks n ≡ true) ⊎ In (item_numbers rest) n → (t.marks n ≡ true) ⊎ In (item_numbers (next s rest)) n
      later (inl e) = inl e
      later (inr there) = inr (in_right (stmt_item_numbers s) (item_numbers rest) n there)

  pub stmt_new : (s : Stmt) (t : Known) (n : ℕ) → (over_stmt keep s t).marks n ≡ true → (t.marks n ≡ true) ⊎ In (stmt_item_numbers s) n
  stmt_new (item m act) t n h =
      elim (either (t.marks n) (is_wanted act t.needed && (m == n)) h) [
        | inl before ↦ inl before
        | inr here ↦ inr (inl (eqb-true m n (and_both (is_wanted act t.needed) (m == n) here).1))
      ]
  stmt_new (choice m test held other) t n h =
      elim (new held (keep.again t (over keep other (keep.enter t))) n h) [
        | inl before ↦ later (new other (keep.enter t) n before)
        | inr there ↦ inr (in_left (item_numbers held) (item_numbers other) n there)
      ]
    where
      later : (t.marks n ≡ true) ⊎ In (item_numbers other) n → (t.marks n ≡ true) ⊎ In (item_numbers held ++ item_numbers other) n
      later (inl e) = inl e
      later (inr there) = inr (in_right (item_numbers held) (item_numbers other) n there)
  stmt_new (timed m window body) t n h = new body t n h

-- ---- marks that are final

module _ (kept : ℕ → Bool) where
  -- items of these numbers, by what is marked before and after them
  pub record Final (ns : List ℕ) (before after : ℕ → Bool) : Type 0 where
    pub distinct : AreDistinct ns
    pub fresh : (n : ℕ) → In ns n → before n ≡ true → ⊥
    pub final : (n : ℕ) → In ns n → kept n ≡ true → after n ≡ true
    pub sub : (n : ℕ) → after n ≡ true → kept n ≡ true

  -- two pieces: the walk comes to the second first
  module _ (ms ns : List ℕ) (before mid after : ℕ → Bool)
      (more : (n : ℕ) → mid n ≡ true → after n ≡ true)
      (first_new : (n : ℕ) → after n ≡ true → (mid n ≡ true) ⊎ In ms n)
      (second_new : (n : ℕ) → mid n ≡ true → (before n ≡ true) ⊎ In ns n)
      (all : Final (ms ++ ns) before after) where
    pub second_final : Final ns before mid
    second_final =
        let parts = split ms ns all.distinct in
        record {
          distinct = parts.second;
          fresh = λ n there h. all.fresh n (in_right ms ns n there) h;
          final = λ n there h.
              elim (first_new n (all.final n (in_right ms ns n there) h)) [
                | inl e ↦ e
                | inr other ↦ absurd (parts.apart n other there)
              ];
          sub = λ n h. all.sub n (more n h);
        }

    pub first_final : Final ms mid after
    first_final =
        let parts = split ms ns all.distinct in
        record {
          distinct = parts.first;
          fresh = λ n there h.
              elim (second_new n h) [
                | inl e ↦ all.fresh n (in_left ms ns n there) e
                | inr other ↦ parts.apart n there other
              ];
          final = λ n there h. all.final n (in_left ms ns n there) h;
          sub = all.sub;
        }

  abbrev pub IsFinal : Block → Known → Type 0
  IsFinal b t = Final (item_numbers b) t.marks (over keep b t).marks

  abbrev pub StmtIsFinal : Stmt → Known → Type 0
  StmtIsFinal s t = Final (stmt_item_numbers s) t.marks (over_stmt keep s t).marks

  module _ (s : Stmt) (rest : Block) (t : Known) (f : IsFinal (next s rest) t) where
    pub rest_final : IsFinal rest t
    rest_final =
        second_final (stmt_item_numbers s) (item_numbers rest) t.marks (over keep rest t).marks (over keep (next s rest) t).marks (stmt_grow s (over keep rest t)) (stmt_new s (over keep rest t)) (new rest t) f

    pub head_final : StmtIsFinal s (over keep rest t)
    head_final =
        first_final (stmt_item_numbers s) (item_numbers rest) t.marks (over keep rest t).marks (over keep (next s rest) t).marks (stmt_grow s (over keep rest t)) (stmt_new s (over keep rest t)) (new rest t) f

  module _ (m : ℕ) (test : Expr) (held other : Block) (t : Known) (f : StmtIsFinal (choice m test held other) t) where
    pub else_final : IsFinal other (keep.enter t)
    else_final =
        second_final (item_numbers held) (item_numbers other) t.marks (over keep other (keep.enter t)).marks (over keep held (keep.again t (over keep other (keep.enter t)))).marks (grow held (keep.again t (over keep other (keep.enter t))))
        (new held (keep.again t (over keep other (keep.enter t)))) (new other (keep.enter t)) f

    pub then_final : IsFinal held (keep.again t (over keep other (keep.enter t)))
    then_final =
        first_final (item_numbers held) (item_numbers other) t.marks (over keep other (keep.enter t)).marks (over keep held (keep.again t (over keep other (keep.enter t)))).marks (grow held (keep.again t (over keep other (keep.enter t))))
        (new held (keep.again t (over keep other (keep.enter t)))) (new other (keep.enter t)) f
