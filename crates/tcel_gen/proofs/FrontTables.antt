-- Tables of the loops in front of items.
use Rattle.std.proofs.Common.{◌≡◌, ℕ, zero, suc, ◌+◌, ◌<◌, ◌≤◌, List, [], ◌∷◌, ◌++◌, length, get_or, drop, map, refl, sym, ap, ◌∙◌, subst, arith, inl, inr, append_assoc}
use Rattle.std.specs.Prelude.{◌==◌, None, Some, slice_get}
use Rattle.std.proofs.lemmas.Bool.{cases_lt, cond_both, eq-eqb, eqb-true, false≢true}
use Rattle.std.proofs.lemmas.Option.{get_or_from_slice_get, none-some, slice_get_within}
use Rattle.tcel_core.specs.Contents.{Looped, item_loops, loops, loops_before, stmt_item_loops, stmt_loops}
use Rattle.tcel_core.specs.Language.{Block, done, next, Stmt, item, choice, timed}
use Rattle.tcel_core.specs.Numbering.{IsNumbered, item_numbers, numbers_from, stmt_item_numbers}
use Rattle.tcel_gen.specs.Firsts.{fronts}

-- ---- items and their numbers

map_both : (xs ys : List Looped) → map (λ (i : Looped). i.id) (xs ++ ys) ≡ map (λ (i : Looped). i.id) xs ++ map (λ (i : Looped). i.id) ys
map_both [] ys = refl
map_both (x ∷ xs) ys = ap (λ (l : List ℕ). x.id ∷ l) (map_both xs ys)

both_lists : (a b c d : List ℕ) → a ≡ b → c ≡ d → a ++ c ≡ b ++ d
both_lists a b c d e f = ap (λ l. l ++ c) e ∙ ap (λ l. b ++ l) f

mutual
  pub item_ids : (b : Block) → map (λ (i : Looped). i.id) (item_loops b) ≡ item_numbers b
  item_ids done = refl
  item_ids (next t rest) = map_both (stmt_item_loops t) (item_loops rest) ∙ both_lists _ _ _ _ (stmt_item_ids t) (item_ids rest)

  stmt_item_ids : (t : Stmt) → map (λ (i : Looped). i.id) (stmt_item_loops t) ≡ stmt_item_numbers t
  stmt_item_ids (item id act) = refl
  stmt_item_ids (choice id test held other) = map_both (item_loops held) (item_loops other) ∙ both_lists _ _ _ _ (item_ids held) (item_ids other)
  stmt_item_ids (timed id window body) = item_ids body

-- the numbers of items rise by one from a number on
abbrev pub AreInOrder : ℕ → List Looped → Type 0
AreInOrder first [] = Unit {0}
AreInOrder first (i ∷ items) = (i.id ≡ first) × AreInOrder (first + 1) items

pub in_order_of : (items : List Looped) (first count : ℕ) → map (λ (i : Looped). i.id) items ≡ numbers_from first count → AreInOrder first items
in_order_of [] first count e = tt
in_order_of (i ∷ items) first zero e = cc
in_order_of (i ∷ items) first (suc count) e = (ap (λ (l : List ℕ). get_or l 0 0) e, in_order_of items (first + 1) count (ap (λ (l : List ℕ). drop 1 l) e))

-- ---- the loops of items together

abbrev pub together : List Looped → ℕ
together [] = 0
together (i ∷ items) = i.loops + together items

together-append : (a b : List Looped) → together (a ++ b) ≡ together a + together b
together-append [] b = omega arith
together-append (i ∷ a) b = let rest = together-append a b in omega arith

mutual
  pub all_together : (b : Block) → together (item_loops b) ≡ loops b
  all_together done = refl
  all_together (next t rest) = omega (arith, together-append (stmt_item_loops t) (item_loops rest), stmt_together t, all_together rest)

  pub stmt_together : (t : Stmt) → together (stmt_item_loops t) ≡ stmt_loops t
  stmt_together (item id act) = omega arith
  stmt_together (choice id test held other) = omega (arith, together-append (item_loops held) (item_loops other), all_together held, all_together other)
  stmt_together (timed id window body) = all_together body

-- ---- the table

pub fronts_long : (items : List Looped) (before : ℕ) → length (fronts before items) ≡ length items
fronts_long [] before = refl
fronts_long (i ∷ items) before = omega (arith, fronts_long items (before + i.loops))

pub fronts-append : (a b : List Looped) (before : ℕ) → fronts before (a ++ b) ≡ fronts before a ++ fronts (before + together a) b
fronts-append [] b before = ap (λ n. fronts n b) (none before)
  where
    none : (n : ℕ) → n ≡ n + 0
    none n = omega arith
fronts-append (i ∷ a) b before =
    ap (λ (l : List ℕ). before ∷ l) (fronts-append a b (before + i.loops) ∙ ap (λ n. fronts (before + i.loops) a ++ fronts n b) (sum before i.loops (together a)))
  where
    sum : (x y z : ℕ) → x + y + z ≡ x + (y + z)
    sum x y z = omega arith

pub front_at : (items : List Looped) (first before j : ℕ) → AreInOrder first items → j < length items → get_or (fronts before items) j 0 ≡ before + loops_before (first + j) items
front_at [] first before j order less = absurd (omega arith)
front_at (i ∷ items) first before zero order less =
    let same = order.0 in
    cond_both (i.id == first + 0) 0 (i.loops + loops_before (first + 0) items) (λ n. before ≡ before + n) (λ _. omega arith)
    (λ other. absurd (false≢true (sym other ∙ eq-eqb i.id (first + 0) (omega arith))))
front_at (i ∷ items) first before (suc j) order less =
    let same = order.0 in
    let rest = front_at items (first + 1) (before + i.loops) j order.1 (omega arith) in
    let number : first + 1 + j ≡ first + suc j = omega arith in
    let later : get_or (fronts (before + i.loops) items) j 0 ≡ before + i.loops + loops_before (first + suc j) items = subst (λ n. get_or (fronts (before + i.loops) items) j 0 ≡ before + i.loops + loops_before n items) number rest in
    cond_both (i.id == first + suc j) 0 (i.loops + loops_before (first + suc j) items) (λ n. get_or (fronts (before + i.loops) items) j 0 ≡ before + n)
    (λ is. let e = eqb-true i.id (first + suc j) is in absurd (omega arith)) (λ _. omega arith)

-- a number that no item has
pub front_past : (items : List Looped) (first j : ℕ) → AreInOrder first items → length items ≤ j → loops_before (first + j) items ≡ together items
front_past [] first j order less = refl
front_past (i ∷ items) first zero order less = absurd (omega arith)
front_past (i ∷ items) first (suc j) order less =
    let same = order.0 in
    let rest = front_past items (first + 1) j order.1 (omega arith) in
    let number : first + 1 + j ≡ first + suc j = omega arith in
    let later : loops_before (first + suc j) items ≡ together items = subst (λ n. loops_before n items ≡ together items) number rest in
    cond_both (i.id == first + suc j) 0 (i.loops + loops_before (first + suc j) items) (λ n. n ≡ i.loops + together items)
    (λ is. let e = eqb-true i.id (first + suc j) is in absurd (omega arith)) (λ _. omega arith)

-- ---- a table that is made item by item

pub fronts_both : (old middle new : List ℕ) (a b : List Looped) (before between n : ℕ) → middle ≡ old ++ fronts before a → between ≡ before + n → together a ≡ n → new ≡ middle ++ fronts between b →
    new ≡ old ++ fronts before (a ++ b)
fronts_both old middle new a b before between n e is sum f =
    let number : between ≡ before + together a = omega arith in
    f ∙ ap (λ l. l ++ fronts between b) e ∙ append_assoc old (fronts before a) (fronts between b)
    ∙ ap (λ l. old ++ l) (ap (λ k. fronts before a ++ fronts k b) number ∙ sym (fronts-append a b before))

pub fronts_step : (old new : List ℕ) (t : Stmt) (rest : Block) (behind more : ℕ) → new ≡ old ++ fronts behind (stmt_item_loops t) → more ≡ behind + stmt_loops t →
    new ++ fronts more (item_loops rest) ≡ old ++ fronts behind (item_loops (next t rest))
fronts_step old new t rest behind more e is = fronts_both old new (new ++ fronts more (item_loops rest)) (stmt_item_loops t) (item_loops rest) behind more (stmt_loops t) e is (stmt_together t) refl

-- ---- what is looked up

numbered_order : (b : Block) → IsNumbered b → AreInOrder 0 (item_loops b)
numbered_order b h = in_order_of (item_loops b) 0 (length (item_numbers b)) (item_ids b ∙ h.items)

pub found : (b : Block) (id n : ℕ) → IsNumbered b → slice_get (fronts 0 (item_loops b)) id ≡ Some n → n ≡ loops_before id (item_loops b)
found b id n h e =
    let items = item_loops b in
    let less = slice_get_within (fronts 0 items) id n e in
    let at = front_at items 0 0 id (numbered_order b h) (omega (arith, fronts_long items 0)) in
    let number : 0 + id ≡ id = omega arith in
    sym (get_or_from_slice_get (fronts 0 items) id n 0 e) ∙ at ∙ ap (λ k. 0 + loops_before k items) number ∙ omega arith

pub missing : (b : Block) (id : ℕ) → IsNumbered b → slice_get (fronts 0 (item_loops b)) id ≡ None → loops b ≡ loops_before id (item_loops b)
missing b id h e =
    let items = item_loops b in
    let number : 0 + id ≡ id = omega arith in
    elim (cases_lt id (length (fronts 0 items))) [
      | inl less ↦ absurd (none_within (fronts 0 items) id less e)
      | inr past ↦ sym (all_together b) ∙ sym (front_past items 0 id (numbered_order b h) (omega (arith, fronts_long items 0))) ∙ ap (λ k. loops_before k items) number
    ]
  where
    none_within : (xs : List ℕ) (i : ℕ) → i < length xs → slice_get xs i ≡ None → ⊥
    none_within [] i less none = absurd (omega arith)
    none_within (x ∷ xs) zero less none = none-some x (sym none)
    none_within (x ∷ xs) (suc i) less none = none_within xs i (omega arith) none
