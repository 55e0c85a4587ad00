-- The lists of numbers of a whole task.
use Rattle.std.proofs.Common.{◌≡◌, ℕ, zero, suc, ◌+◌, ◌-◌, ◌<◌, ◌≤◌, Bool, true, false, cond, not, ◌&&◌, ◌==◌, List, [], ◌∷◌, ◌++◌, length, map, refl, sym, ap, ◌∙◌, subst, append_assoc, append-nil, length-append, arith, eq-eqb, eqb-true, inl, inr}
use Rattle.std.specs.Prelude.{filter, flat_map, slice_index_or}
use Rattle.std.specs.List.{list_any, position_or_len}
use Rattle.std.proofs.lemmas.Bool.{true≢false, cases_lt, cond-true, cond-false}
use Rattle.std.proofs.lemmas.List.{map-append}
use Rattle.tcel_core.specs.declared.row.Row.{Row}
use Rattle.tcel_core.specs.declared.var.Var.{Var}
use Rattle.tcel_core.specs.Kinds.{Slicing, writes_inside, is_kind_1, is_kind_3, is_live}
use Rattle.tcel_core.specs.Language.{Expr, Block, done, next, Stmt, item, choice, timed, Task}
use Rattle.tcel_core.specs.Numbering.{item_numbers, stmt_item_numbers, if_numbers, stmt_if_numbers, numbers_from}
use Rattle.tcel_core.specs.Parts.{Added, copy_of, saved, truth_of, is_same, live_variables, is_split, saved_at, truth_at, added, number_of, inside_number, kind_of, added_variable, all_variables}
use Rattle.tcel_core.specs.Paths.{Point, at_item, at_test, points, stmt_points}
use Rattle.tcel_core.specs.Rows.{stands_in}
use Rattle.tcel_core.specs.Sound.{IsSoundTask}
use Rattle.tcel_core.specs.Typing.{Names}
use Rattle.tcel_core.specs.Uses.{act_writes}
use Rattle.tcel_flow.proofs.Reached.{few_variables}
use Rattle.tcel_parts.proofs.Distinct.{AreDistinct, split, numbers_distinct, test_numbered, stmt_test_numbered}
use Rattle.tcel_parts.proofs.Hits.{and_both, and_true}
use Rattle.tcel_parts.proofs.Members.{In, in_left, in_right, in_either, in_mapped, in_from_any, any_from_in, numbers_within}
use Rattle.tcel_parts.proofs.OwnNames.{point_typed, act_own}
use Rattle.tcel_slice.proofs.Common.{same_truth}
use Rattle.tcel_rename.specs.Lives.{stands_at}
use Rattle.tcel_rename.specs.Numbers.{temporary, temporaries, truth, starts_of, inside_numbers, AreNumbers}
use Rattle.tcel_rename.specs.Renaming.{number_in}
use Rattle.tcel_rename.specs.Sets.{by_list}
use Rattle.tcel_rename.specs.Splits.{AreSets, is_split_test}
use Rattle.tcel_rename.specs.declared.sets.Sets.{Sets}
use Rattle.tcel_rename.proofs.NumberLists.{flat_map-append}
use Rattle.tcel_rename.proofs.NumbersFound.{numbers_split, numbers_at, mapped_at, mapped_past, place_past, rank}
use Rattle.tcel_rename.proofs.SetsFound.{live_item, split_number}

-- ---- lists

filter_same : (p q : ℕ → Bool) (xs : List ℕ) → ((k : ℕ) → In xs k → p k ≡ q k) → filter p xs ≡ filter q xs
filter_same p q [] h = refl
filter_same p q (x ∷ xs) h = ap (λ b. cond b (x ∷ filter p xs) (filter p xs)) (h x (inl refl)) ∙ ap (λ l. cond (q x) (x ∷ l) l) (filter_same p q xs (λ k there. h k (inr there)))

flat_same : {Y : Type 0} (g h : ℕ → List Y) (xs : List ℕ) → ((k : ℕ) → In xs k → g k ≡ h k) → flat_map g xs ≡ flat_map h xs
flat_same g h [] e = refl
flat_same g h (x ∷ xs) e = ap (λ l. l ++ flat_map g xs) (e x (inl refl)) ∙ ap (λ l. h x ++ l) (flat_same g h xs (λ k there. e k (inr there)))

flat_none : {Y : Type 0} (g : ℕ → List Y) (xs : List ℕ) → ((k : ℕ) → In xs k → g k ≡ []) → flat_map g xs ≡ []
flat_none g [] e = refl
flat_none g (x ∷ xs) e = ap (λ l. l ++ flat_map g xs) (e x (inl refl)) ∙ flat_none g xs (λ k there. e k (inr there))

map_flat : {Y Z : Type 0} (f : Y → Z) (g : ℕ → List Y) (xs : List ℕ) → map f (flat_map g xs) ≡ flat_map (λ k. map f (g k)) xs
map_flat f g [] = refl
map_flat f g (x ∷ xs) = map-append f (g x) (flat_map g xs) ∙ ap (λ l. map f (g x) ++ l) (map_flat f g xs)

map_twice : {X Y Z : Type 0} (f : Y → Z) (g : X → Y) (xs : List X) → map f (map g xs) ≡ map (λ x. f (g x)) xs
map_twice f g [] = refl
map_twice f g (x ∷ xs) = ap (λ l. f (g x) ∷ l) (map_twice f g xs)

map_length : {X Y : Type 0} (f : X → Y) (xs : List X) → length (map f xs) ≡ length xs
map_length f [] = refl
map_length f (x ∷ xs) = let more = map_length f xs in omega arith

in_flat_map : {Y : Type 0} (g : ℕ → List Y) (xs : List ℕ) (y : Y) → In (flat_map g xs) y → (k : ℕ) × In xs k × In (g k) y
in_flat_map g [] y h = absurd h
in_flat_map g (x ∷ xs) y h =
    elim (in_either (g x) (flat_map g xs) y h) [
      | inl first ↦ (x, inl refl, first)
      | inr later ↦ let r = in_flat_map g xs y later in (r.0, inr r.1, r.2)
    ]

flat_points : {Y : Type 0} (g : Point → List Y) (ps qs : List Point) → flat_map g (ps ++ qs) ≡ flat_map g ps ++ flat_map g qs
flat_points g [] qs = refl
flat_points g (p ∷ ps) qs = ap (λ l. g p ++ l) (flat_points g ps qs) ∙ sym (append_assoc (g p) (flat_map g ps) (flat_map g qs))

-- ---- one number, one test

abbrev branches_of : Block → Block → Point → Block × Block
branches_of h o (at_item n act) = (h, o)
branches_of h o (at_test n test held other) = (held, other)

abbrev is_test_point : Point → Type 0
is_test_point (at_item n act) = ⊥
is_test_point (at_test n test held other) = Unit {0}

module _ (n : ℕ) (x y : Expr) (a b c d : Block) where
  mutual
    one_test : (t : Block) → AreDistinct (if_numbers t) → In (points t) (at_test n x a b) → In (points t) (at_test n y c d) → (a ≡ c) × (b ≡ d)
    one_test done e h g = absurd h
    one_test (next t rest) e h g =
        let r = split (stmt_if_numbers t) (if_numbers rest) e in
        elim (in_either (stmt_points t) (points rest) (at_test n x a b) h) [
          | inl hx ↦
              elim (in_either (stmt_points t) (points rest) (at_test n y c d) g) [
                | inl hy ↦ one_stmt_test t r.first hx hy
                | inr hy ↦ absurd (r.apart n (stmt_test_numbered t n x a b hx) (test_numbered rest n y c d hy))
              ]
          | inr hx ↦
              elim (in_either (stmt_points t) (points rest) (at_test n y c d) g) [
                | inl hy ↦ absurd (r.apart n (stmt_test_numbered t n y c d hy) (test_numbered rest n x a b hx))
                | inr hy ↦ one_test rest r.second hx hy
              ]
        ]

    one_stmt_test : (t : Stmt) → AreDistinct (stmt_if_numbers t) → In (stmt_points t) (at_test n x a b) → In (stmt_points t) (at_test n y c d) → (a ≡ c) × (b ≡ d)
    one_stmt_test (item m act) e (inl h) g = absurd (subst is_item_point h tt)
      where
        is_item_point : Point → Type 0
        is_item_point (at_item k z) = Unit {0}
        is_item_point (at_test k z u w) = ⊥
    one_stmt_test (item m act) e (inr h) g = absurd h
    one_stmt_test (timed m window body) e h g = one_test body e h g
    one_stmt_test (choice m z u w) e (inl h) (inl g) = let same = ap (branches_of u w) (sym h ∙ g) in (ap (λ (r : Block × Block). r.0) same, ap (λ (r : Block × Block). r.1) same)
    one_stmt_test (choice m z u w) e (inl h) (inr g) = absurd (e.0 (numbered_as h (inside g)))
      where
        inside : In (points u ++ points w) (at_test n y c d) → In (if_numbers u ++ if_numbers w) n
        inside k =
            elim (in_either (points u) (points w) (at_test n y c d) k) [
              | inl first ↦ in_left (if_numbers u) (if_numbers w) n (test_numbered u n y c d first)
              | inr second ↦ in_right (if_numbers u) (if_numbers w) n (test_numbered w n y c d second)
            ]

        numbered_as : at_test m z u w ≡ at_test n x a b → In (if_numbers u ++ if_numbers w) n → In (if_numbers u ++ if_numbers w) m
        numbered_as same k = subst (λ j. In (if_numbers u ++ if_numbers w) j) (sym (ap number_at same)) k
          where
            number_at : Point → ℕ
            number_at (at_item k z) = k
            number_at (at_test k z u w) = k
    one_stmt_test (choice m z u w) e (inr h) (inl g) = absurd (e.0 (numbered_as g (inside h)))
      where
        inside : In (points u ++ points w) (at_test n x a b) → In (if_numbers u ++ if_numbers w) n
        inside k =
            elim (in_either (points u) (points w) (at_test n x a b) k) [
              | inl first ↦ in_left (if_numbers u) (if_numbers w) n (test_numbered u n x a b first)
              | inr second ↦ in_right (if_numbers u) (if_numbers w) n (test_numbered w n x a b second)
            ]

        numbered_as : at_test m z u w ≡ at_test n y c d → In (if_numbers u ++ if_numbers w) n → In (if_numbers u ++ if_numbers w) m
        numbered_as same k = subst (λ j. In (if_numbers u ++ if_numbers w) j) (sym (ap number_at same)) k
          where
            number_at : Point → ℕ
            number_at (at_item k z) = k
            number_at (at_test k z u w) = k
    one_stmt_test (choice m z u w) e (inr h) (inr g) =
        let r = split (if_numbers u) (if_numbers w) e.1 in
        elim (in_either (points u) (points w) (at_test n x a b) h) [
          | inl hx ↦
              elim (in_either (points u) (points w) (at_test n y c d) g) [
                | inl hy ↦ one_test u r.first hx hy
                | inr hy ↦ absurd (r.apart n (test_numbered u n x a b hx) (test_numbered w n y c d hy))
              ]
          | inr hx ↦
              elim (in_either (points u) (points w) (at_test n y c d) g) [
                | inl hy ↦ absurd (r.apart n (test_numbered u n y c d hy) (test_numbered w n x a b hx))
                | inr hy ↦ one_test w r.second hx hy
              ]
        ]

module _ (s : Slicing) where
  -- what is saved, by the numbers of the items
  mutual
    saved_flat : (b : Block) → flat_map (saved_at s) (points b) ≡ flat_map (λ n. map (saved n) (cond (s.kept n) (live_variables s n) [])) (item_numbers b)
    saved_flat done = refl
    saved_flat (next t rest) =
        let g = λ (n : ℕ). map (saved n) (cond (s.kept n) (live_variables s n) []) in
        flat_points (saved_at s) (stmt_points t) (points rest)
        ∙ (ap (λ l. l ++ flat_map (saved_at s) (points rest)) (stmt_saved_flat t)
        ∙ (ap (λ l. flat_map g (stmt_item_numbers t) ++ l) (saved_flat rest) ∙ sym (flat_map-append g (stmt_item_numbers t) (item_numbers rest))))

    stmt_saved_flat : (t : Stmt) → flat_map (saved_at s) (stmt_points t) ≡ flat_map (λ n. map (saved n) (cond (s.kept n) (live_variables s n) [])) (stmt_item_numbers t)
    stmt_saved_flat (item n act) = refl
    stmt_saved_flat (timed n window body) = saved_flat body
    stmt_saved_flat (choice n test held other) =
        let g = λ (m : ℕ). map (saved m) (cond (s.kept m) (live_variables s m) []) in
        flat_points (saved_at s) (points held) (points other)
        ∙ (ap (λ l. l ++ flat_map (saved_at s) (points other)) (saved_flat held)
        ∙ (ap (λ l. flat_map g (item_numbers held) ++ l) (saved_flat other) ∙ sym (flat_map-append g (item_numbers held) (item_numbers other))))

  -- the truths, by the numbers of the ifs
  module _ (marks : ℕ → Bool) where
    abbrev truths : ℕ → List Added
    truths n = cond (marks n) (truth_of n ∷ []) []

    abbrev Marked : List Point → Type 0
    Marked ps = (n : ℕ) (test : Expr) (held other : Block) → In ps (at_test n test held other) → marks n ≡ is_split s held other

    mutual
      truths_flat : (b : Block) → Marked (points b) → flat_map (truth_at s) (points b) ≡ flat_map truths (if_numbers b)
      truths_flat done m = refl
      truths_flat (next t rest) m =
          flat_points (truth_at s) (stmt_points t) (points rest)
          ∙ (ap (λ l. l ++ flat_map (truth_at s) (points rest)) (stmt_truths_flat t (λ n e h o there. m n e h o (in_left (stmt_points t) (points rest) (at_test n e h o) there)))
          ∙ (ap (λ l. flat_map truths (stmt_if_numbers t) ++ l) (truths_flat rest (λ n e h o there. m n e h o (in_right (stmt_points t) (points rest) (at_test n e h o) there)))
          ∙ sym (flat_map-append truths (stmt_if_numbers t) (if_numbers rest))))

      stmt_truths_flat : (t : Stmt) → Marked (stmt_points t) → flat_map (truth_at s) (stmt_points t) ≡ flat_map truths (stmt_if_numbers t)
      stmt_truths_flat (item n act) m = refl
      stmt_truths_flat (timed n window body) m = truths_flat body m
      stmt_truths_flat (choice n test held other) m =
          let inner = flat_points (truth_at s) (points held) (points other)
          ∙ (ap (λ l. l ++ flat_map (truth_at s) (points other)) (truths_flat held (λ k e h o there. m k e h o (inr (in_left (points held) (points other) (at_test k e h o) there))))
          ∙ (ap (λ l. flat_map truths (if_numbers held) ++ l) (truths_flat other (λ k e h o there. m k e h o (inr (in_right (points held) (points other) (at_test k e h o) there))))
          ∙ sym (flat_map-append truths (if_numbers held) (if_numbers other))))
          in
          ap (λ l. truth_at s (at_test n test held other) ++ l) inner
          ∙ ap (λ b. cond b (truth_of n ∷ []) [] ++ flat_map truths (if_numbers held ++ if_numbers other)) (sym (m n test held other (inl refl)))

numbers_length : (a n : ℕ) → length (numbers_from a n) ≡ n
numbers_length a zero = refl
numbers_length a (suc n) = let more = numbers_length (a + 1) n in omega arith

filter_none : (p : ℕ → Bool) (xs : List ℕ) → ((k : ℕ) → p k ≡ false) → filter p xs ≡ []
filter_none p [] h = refl
filter_none p (x ∷ xs) h = ap (λ b. cond b (x ∷ filter p xs) (filter p xs)) (h x) ∙ filter_none p xs h

-- nothing more comes from later numbers
flat_upto : {Y : Type 0} (g : ℕ → List Y) (c d : ℕ) → ((n : ℕ) → c ≤ n → g n ≡ []) → flat_map g (numbers_from 0 (c + d)) ≡ flat_map g (numbers_from 0 c)
flat_upto g c d none =
    ap (flat_map g) (numbers_split 0 c d)
    ∙ (flat_map-append g (numbers_from 0 c) (numbers_from (0 + c) d)
    ∙ (ap (λ l. flat_map g (numbers_from 0 c) ++ l) (flat_none g (numbers_from (0 + c) d) (λ k there. let low = (numbers_within (0 + c) d k there).0 in none k (omega arith)))
    ∙ append-nil (flat_map g (numbers_from 0 c))))

past_end : (xs : List Bool) (n : ℕ) → length xs ≤ n → slice_index_or xs n false ≡ false
past_end [] n h = refl
past_end (x ∷ xs) zero h = absurd (omega arith)
past_end (x ∷ xs) (suc n) h = past_end xs n (omega arith)

module _ (task : Task) (sound : IsSoundTask task) (list : List Bool) (sets : Sets) (are : AreSets (by_list task.vars task.body list) sets) (long : length sets.lives ≡ length (item_numbers task.body)) where
  abbrev s : Slicing
  s = by_list task.vars task.body list

  abbrev own : List Var
  own = task.vars

  abbrev marks : ℕ → Bool
  marks n = slice_index_or sets.splits n false

  abbrev items : ℕ
  items = length (item_numbers task.body)

  abbrev ifs : ℕ
  ifs = length (if_numbers task.body)

  abbrev copies : List Added
  copies = map copy_of (filter (is_kind_3 s) (numbers_from 0 (length own)))

  abbrev saves : ℕ → List Added
  saves n = map (saved n) (filter (is_live s n) (numbers_from 0 (length own)))

  abbrev live_vars : ℕ → List Var
  live_vars n = temporaries own (stands_at sets.lives n)

  abbrev truth_vars : ℕ → List Var
  truth_vars n = truth (marks n)

  -- ---- rows and tests

  same_third : (k : ℕ) → k ≤ length own → filter (stands_in sets.third) (numbers_from 0 k) ≡ filter (is_kind_3 s) (numbers_from 0 k)
  same_third k most =
      filter_same (stands_in sets.third) (is_kind_3 s) (numbers_from 0 k)
      (λ j there. let within = (numbers_within 0 k j there).1 in let few = few_variables task sound in are.third j (omega arith))

  same_live : (n k : ℕ) → k ≤ length own → filter (stands_at sets.lives n) (numbers_from 0 k) ≡ filter (is_live s n) (numbers_from 0 k)
  same_live n k most =
      filter_same (stands_at sets.lives n) (is_live s n) (numbers_from 0 k)
      (λ j there. let within = (numbers_within 0 k j there).1 in let few = few_variables task sound in are.lives.live n j (omega arith))

  all_own : length own ≤ length own
  all_own = omega arith

  copies_are : temporaries own (stands_in sets.third) ≡ map (added_variable own) copies
  copies_are =
      ap (map (λ v. temporary (kind_of own v))) (same_third (length own) all_own) ∙ sym (map_twice (added_variable own) copy_of (filter (is_kind_3 s) (numbers_from 0 (length own))))

  saves_are : (n : ℕ) → live_vars n ≡ map (added_variable own) (saves n)
  saves_are n =
      ap (map (λ v. temporary (kind_of own v))) (same_live n (length own) all_own) ∙ sym (map_twice (added_variable own) (saved n) (filter (is_live s n) (numbers_from 0 (length own))))

  truths_are : (n : ℕ) → truth_vars n ≡ map (added_variable own) (truths s marks n)
  truths_are n = by_mark (marks n)
    where
      by_mark : (b : Bool) → truth b ≡ map (added_variable own) (cond b (truth_of n ∷ []) [])
      by_mark true = refl
      by_mark false = refl

  -- ---- what is added

  saved_all : flat_map (saved_at s) (points task.body) ≡ flat_map saves (numbers_from 0 items)
  saved_all =
      saved_flat s task.body
      ∙ (ap (flat_map (λ n. map (saved n) (cond (s.kept n) (live_variables s n) []))) sound.body.numbered.items
      ∙ flat_same (λ n. map (saved n) (cond (s.kept n) (live_variables s n) [])) saves (numbers_from 0 items) (λ n there. by_kept n (s.kept n) refl))
    where
      none_live : (n v : ℕ) (b : Bool) → s.kept n ≡ false → is_live s n v ≡ b → is_live s n v ≡ false
      none_live n v false e g = g
      none_live n v true e g = absurd (true≢false (sym (live_item task sound list n v g).2 ∙ e))

      by_kept : (n : ℕ) (b : Bool) → s.kept n ≡ b → map (saved n) (cond (s.kept n) (live_variables s n) []) ≡ saves n
      by_kept n true e = ap (λ b. map (saved n) (cond b (live_variables s n) [])) e
      by_kept n false e =
          ap (λ b. map (saved n) (cond b (live_variables s n) [])) e
          ∙ sym (ap (map (saved n)) (filter_none (is_live s n) (numbers_from 0 (length own)) (λ v. none_live n v (is_live s n v) e refl)))

  marked : (n : ℕ) (test : Expr) (held other : Block) → In (points task.body) (at_test n test held other) → marks n ≡ is_split s held other
  marked n test held other there =
      are.splits n
      ∙ same_truth (list_any (is_split_test s n) (points task.body)) (is_split s held other)
      (λ e. let r = in_from_any (is_split_test s n) (points task.body) e in by_point r.0 r.1 r.2)
      (λ e. any_from_in (is_split_test s n) (points task.body) (at_test n test held other) there (and_true (n == n) (is_split s held other) (eq-eqb n n refl) e))
    where
      distinct : AreDistinct (if_numbers task.body)
      distinct = subst AreDistinct (sym sound.body.numbered.ifs) (numbers_distinct 0 ifs)

      by_point : (p : Point) → In (points task.body) p → is_split_test s n p ≡ true → is_split s held other ≡ true
      by_point (at_item k act) h e = absurd (true≢false (sym e))
      by_point (at_test k x h1 o1) h e =
          let both = and_both (k == n) (is_split s h1 o1) e in
          let one = one_test n x test h1 o1 held other task.body distinct (subst (λ j. In (points task.body) (at_test j x h1 o1)) (eqb-true k n both.0) h) there in
          subst (λ b. is_split s held b ≡ true) one.1 (subst (λ b. is_split s b o1 ≡ true) one.0 both.1)

  truths_all : flat_map (truth_at s) (points task.body) ≡ flat_map (truths s marks) (numbers_from 0 ifs)
  truths_all = truths_flat s marks task.body marked ∙ ap (flat_map (truths s marks)) sound.body.numbered.ifs

  -- a number of no `if` isn't marked
  unmarked : (n : ℕ) → ifs ≤ n → truths s marks n ≡ []
  unmarked n past = by_mark (marks n) refl
    where
      by_mark : (b : Bool) → marks n ≡ b → truths s marks n ≡ []
      by_mark false e = ap (λ b. cond b (truth_of n ∷ []) []) e
      by_mark true e = let within = split_number task sound list n (sym (are.splits n) ∙ e) in absurd (omega arith)

  past_marks : (n : ℕ) → length sets.splits ≤ n → truths s marks n ≡ []
  past_marks n past = ap (λ b. cond b (truth_of n ∷ []) []) (past_end sets.splits n past)

  truths_count : flat_map (truths s marks) (numbers_from 0 (length sets.splits)) ≡ flat_map (truths s marks) (numbers_from 0 ifs)
  truths_count =
      sym (flat_upto (truths s marks) (length sets.splits) ifs past_marks)
      ∙ (ap (λ n. flat_map (truths s marks) (numbers_from 0 n)) (turned (length sets.splits) ifs) ∙ flat_upto (truths s marks) ifs (length sets.splits) unmarked)
    where
      turned : (a b : ℕ) → a + b ≡ b + a
      turned a b = omega arith

  added_is : added s ≡ copies ++ (flat_map saves (numbers_from 0 items) ++ flat_map (truths s marks) (numbers_from 0 ifs))
  added_is = ap (λ l. copies ++ (l ++ flat_map (truth_at s) (points task.body))) saved_all ∙ ap (λ l. copies ++ (flat_map saves (numbers_from 0 items) ++ l)) truths_all

  -- ---- the lists of variables

  abbrev with_copies : List Var
  with_copies = own ++ temporaries own (stands_in sets.third)

  abbrev with_saved : List Var
  with_saved = with_copies ++ flat_map live_vars (numbers_from 0 (length sets.lives))

  saved_vars : (n : ℕ) → flat_map live_vars (numbers_from 0 n) ≡ map (added_variable own) (flat_map saves (numbers_from 0 n))
  saved_vars n = flat_same live_vars (λ k. map (added_variable own) (saves k)) (numbers_from 0 n) (λ k there. saves_are k) ∙ sym (map_flat (added_variable own) saves (numbers_from 0 n))

  truth_vars_are : (n : ℕ) → flat_map truth_vars (numbers_from 0 n) ≡ map (added_variable own) (flat_map (truths s marks) (numbers_from 0 n))
  truth_vars_are n =
      flat_same truth_vars (λ k. map (added_variable own) (truths s marks k)) (numbers_from 0 n) (λ k there. truths_are k) ∙ sym (map_flat (added_variable own) (truths s marks) (numbers_from 0 n))

  pub all_vars : with_saved ++ flat_map truth_vars (numbers_from 0 (length sets.splits)) ≡ all_variables s
  all_vars =
      let F = flat_map saves (numbers_from 0 items) in
      let T = flat_map (truths s marks) (numbers_from 0 ifs) in
      let av = added_variable own in
      ap (λ l. with_saved ++ l) (truth_vars_are (length sets.splits) ∙ ap (map av) truths_count)
      ∙ (ap (λ l. (with_copies ++ l) ++ map av T) (ap (λ n. flat_map live_vars (numbers_from 0 n)) long ∙ saved_vars items)
      ∙ (ap (λ l. ((own ++ l) ++ map av F) ++ map av T) copies_are
      ∙ (append_assoc (own ++ map av copies) (map av F) (map av T)
      ∙ (append_assoc own (map av copies) (map av F ++ map av T)
      ∙ (ap (λ l. own ++ (map av copies ++ l)) (sym (map-append av F T))
      ∙ (ap (λ l. own ++ l) (sym (map-append av copies (F ++ T))) ∙ ap (λ l. own ++ map av l) (sym added_is)))))))

  -- ---- the numbers

  copies_length : length (temporaries own (stands_in sets.third)) ≡ length copies
  copies_length = ap (λ (l : List Var). length l) copies_are ∙ map_length (added_variable own) copies

  saves_length : (n : ℕ) → length (flat_map live_vars (numbers_from 0 n)) ≡ length (flat_map saves (numbers_from 0 n))
  saves_length n = ap (λ (l : List Var). length l) (saved_vars n) ∙ map_length (added_variable own) (flat_map saves (numbers_from 0 n))

  truths_length : (n : ℕ) → length (flat_map truth_vars (numbers_from 0 n)) ≡ length (flat_map (truths s marks) (numbers_from 0 n))
  truths_length n = ap (λ (l : List Var). length l) (truth_vars_are n) ∙ map_length (added_variable own) (flat_map (truths s marks) (numbers_from 0 n))

  kind_3_own : (v : ℕ) → is_kind_3 s v ≡ true → v < length own
  kind_3_own v h = let r = in_from_any (writes_inside s v) (points task.body) (written (is_kind_1 s v) (list_any (writes_inside s v) (points task.body)) h) in by_point r.0 r.1 r.2
    where
      written : (a b : Bool) → (not a && not (not a && not b)) ≡ true → b ≡ true
      written true b e = absurd (true≢false (sym e))
      written false true e = refl
      written false false e = absurd (true≢false (sym e))

      by_point : (p : Point) → In (points task.body) p → writes_inside s v p ≡ true → v < length own
      by_point (at_item k act) there e =
          let names : Names = record { vars = task.vars; inputs = length task.inputs; outputs = length task.outputs } in
          act_own names act v (point_typed names task.body (at_item k act) sound.body.typed there) (and_both (s.kept k) (act_writes act v) e).1
      by_point (at_test k test held other) there e = absurd (true≢false (sym (and_both _ false e).1))

  pub inside_is : (v : ℕ) → number_in (inside_numbers (stands_in sets.third) (length own) (length own)) v ≡ inside_number s v
  inside_is v =
      elim (cases_lt v (length own)) [
        | inl less ↦
            let few = few_variables task sound in
            let most : v ≤ length own = omega arith in
            mapped_at (λ k. cond (stands_in sets.third k) (length own + length (filter (stands_in sets.third) (numbers_from 0 k))) k) (length own) v v less
            ∙ (ap (λ b. cond b (length own + length (filter (stands_in sets.third) (numbers_from 0 v))) v) (are.third v (omega arith))
            ∙ (ap (λ l. cond (is_kind_3 s v) (length own + length l) v) (same_third v most) ∙ by_kind (is_kind_3 s v) refl less))
        | inr past ↦ mapped_past (λ k. cond (stands_in sets.third k) (length own + length (filter (stands_in sets.third) (numbers_from 0 k))) k) (length own) v v past ∙ sym (own_number (is_kind_3 s v) refl past)
      ]
    where
      by_kind : (b : Bool) → is_kind_3 s v ≡ b → v < length own → cond (is_kind_3 s v) (length own + length (filter (is_kind_3 s) (numbers_from 0 v))) v ≡ inside_number s v
      by_kind false e less = cond-false _ _ _ e ∙ sym (cond-false _ _ _ e)
      by_kind true e less =
          cond-true _ _ _ e
          ∙ (ap (λ k. length own + k)
          (sym (rank copy_of (λ a b. refl) (is_kind_3 s) (length own) v less e (flat_map (saved_at s) (points task.body) ++ flat_map (truth_at s) (points task.body))))
          ∙ sym (cond-true _ _ _ e))

      own_number : (b : Bool) → is_kind_3 s v ≡ b → length own ≤ v → inside_number s v ≡ v
      own_number false e past = cond-false _ _ _ e
      own_number true e past = let within = kind_3_own v e in absurd (omega arith)

  -- behind the copies
  past_copies : (a : Added) (rest : List Added) → ((v : ℕ) → is_same a (copy_of v) ≡ false) → position_or_len (is_same a) (copies ++ rest) ≡ length copies + position_or_len (is_same a) rest
  past_copies a rest none =
      place_past (is_same a) copies rest
      (λ x there. let r = in_mapped copy_of (filter (is_kind_3 s) (numbers_from 0 (length own))) x there in ap (is_same a) (sym r.2) ∙ none r.0)

  pub saved_is : (n v : ℕ) → is_live s n v ≡ true → number_of s (saved n v) ≡ slice_index_or (starts_of (length with_copies) live_vars (length sets.lives)) n 0 + length (filter (is_live s n) (numbers_from 0 v))
  saved_is n v live =
      let own_item = live_item task sound list n v live in
      let T = flat_map (truths s marks) (numbers_from 0 ifs) in
      let before = flat_map saves (numbers_from 0 n) in
      let later = flat_map saves (numbers_from (n + 1) (items - (n + 1))) in
      let pieces : flat_map saves (numbers_from 0 items) ++ T ≡ before ++ (saves n ++ (later ++ T)) =
      ap (λ l. flat_map saves l ++ T) (numbers_at items n own_item.1)
      ∙ (ap (λ l. l ++ T) (flat_map-append saves (numbers_from 0 n) (n ∷ numbers_from (n + 1) (items - (n + 1))))
      ∙ (append_assoc before (saves n ++ later) T ∙ ap (λ l. before ++ l) (append_assoc (saves n) later T)))
      in
      let place : position_or_len (is_same (saved n v)) (added s) ≡ length copies + (length before + length (filter (is_live s n) (numbers_from 0 v))) =
      ap (position_or_len (is_same (saved n v))) added_is
      ∙ (past_copies (saved n v) (flat_map saves (numbers_from 0 items) ++ T) (λ u. refl)
      ∙ ap (λ k. length copies + k)
      (ap (position_or_len (is_same (saved n v))) pieces
      ∙ (place_past (is_same (saved n v)) before (saves n ++ (later ++ T)) (earlier n v)
      ∙ ap (λ k. length before + k) (rank (saved n) (λ a b. ap (λ x. x && (a == b)) (eq-eqb n n refl)) (is_live s n) (length own) v own_item.0 live (later ++ T)))))
      in
      let start : slice_index_or (starts_of (length with_copies) live_vars (length sets.lives)) n 0 ≡ length with_copies + length (flat_map live_vars (numbers_from 0 n)) =
      mapped_at (λ k. length with_copies + length (flat_map live_vars (numbers_from 0 k))) (length sets.lives) n 0 (subst (λ k. n < k) (sym long) own_item.1)
      in
      let whole = length-append own (temporaries own (stands_in sets.third)) in
      let a = copies_length in
      let b = saves_length n in
      omega arith
    where
      earlier : (n v : ℕ) (x : Added) → In (flat_map saves (numbers_from 0 n)) x → is_same (saved n v) x ≡ false
      earlier n v x there =
          let r = in_flat_map saves (numbers_from 0 n) x there in
          let less = (numbers_within 0 n r.0 r.1).1 in
          let q = in_mapped (saved r.0) (filter (is_live s r.0) (numbers_from 0 (length own))) x r.2 in
          ap (is_same (saved n v)) (sym q.2) ∙ ap (λ b. b && (v == q.0)) (differs n r.0 (omega arith))
        where
          differs : (i j : ℕ) → j < i → (i == j) ≡ false
          differs i j h = by_test (i == j) refl
            where
              by_test : (b : Bool) → (i == j) ≡ b → (i == j) ≡ false
              by_test false e = e
              by_test true e = let same = eqb-true i j e in absurd (omega arith)

  pub truth_is : (n : ℕ) → list_any (is_split_test s n) (points task.body) ≡ true → number_of s (truth_of n) ≡ slice_index_or (starts_of (length with_saved) truth_vars (length sets.splits)) n 0
  truth_is n split_test =
      let within = split_number task sound list n split_test in
      let F = flat_map saves (numbers_from 0 items) in
      let before = flat_map (truths s marks) (numbers_from 0 n) in
      let later = flat_map (truths s marks) (numbers_from (n + 1) (ifs - (n + 1))) in
      let is_marked = are.splits n ∙ split_test in
      let pieces : flat_map (truths s marks) (numbers_from 0 ifs) ≡ before ++ (truth_of n ∷ later) =
      ap (flat_map (truths s marks)) (numbers_at ifs n within)
      ∙ (flat_map-append (truths s marks) (numbers_from 0 n) (n ∷ numbers_from (n + 1) (ifs - (n + 1))) ∙ ap (λ b. before ++ (cond b (truth_of n ∷ []) [] ++ later)) is_marked)
      in
      let place : position_or_len (is_same (truth_of n)) (added s) ≡ length copies + (length F + (length before + 0)) =
      ap (position_or_len (is_same (truth_of n))) added_is
      ∙ (past_copies (truth_of n) (F ++ flat_map (truths s marks) (numbers_from 0 ifs)) (λ u. refl)
      ∙ ap (λ k. length copies + k)
      (place_past (is_same (truth_of n)) F (flat_map (truths s marks) (numbers_from 0 ifs)) (no_save n)
      ∙ ap (λ k. length F + k)
      (ap (position_or_len (is_same (truth_of n))) pieces
      ∙ (place_past (is_same (truth_of n)) before (truth_of n ∷ later) (earlier n)
      ∙ ap (λ k. length before + k) (ap (λ b. cond (not b) (1 + position_or_len (is_same (truth_of n)) later) 0) (eq-eqb n n refl))))))
      in
      let start : slice_index_or (starts_of (length with_saved) truth_vars (length sets.splits)) n 0 ≡ length with_saved + length (flat_map truth_vars (numbers_from 0 n)) =
      mapped_at (λ k. length with_saved + length (flat_map truth_vars (numbers_from 0 k))) (length sets.splits) n 0 (in_list n is_marked)
      in
      let whole = length-append own (temporaries own (stands_in sets.third)) in
      let whole_saved = length-append with_copies (flat_map live_vars (numbers_from 0 (length sets.lives))) in
      let a = copies_length in
      let b = ap (λ k. length (flat_map live_vars (numbers_from 0 k))) long ∙ saves_length items in
      let c = truths_length n in
      omega arith
    where
      in_list : (n : ℕ) → marks n ≡ true → n < length sets.splits
      in_list n e =
          elim (cases_lt n (length sets.splits)) [
            | inl less ↦ less
            | inr past ↦ absurd (true≢false (sym e ∙ past_end sets.splits n past))
          ]

      no_save : (n : ℕ) (x : Added) → In (flat_map saves (numbers_from 0 items)) x → is_same (truth_of n) x ≡ false
      no_save n x there =
          let r = in_flat_map saves (numbers_from 0 items) x there in
          let q = in_mapped (saved r.0) (filter (is_live s r.0) (numbers_from 0 (length own))) x r.2 in
          ap (is_same (truth_of n)) (sym q.2)

      earlier : (n : ℕ) (x : Added) → In (flat_map (truths s marks) (numbers_from 0 n)) x → is_same (truth_of n) x ≡ false
      earlier n x there =
          let r = in_flat_map (truths s marks) (numbers_from 0 n) x there in
          let less = (numbers_within 0 n r.0 r.1).1 in
          only r.0 (marks r.0) r.2 (omega arith)
        where
          only : (k : ℕ) (b : Bool) → In (cond b (truth_of k ∷ []) []) x → k < n → is_same (truth_of n) x ≡ false
          only k true (inl e) h = ap (is_same (truth_of n)) (sym e) ∙ by_test (n == k) refl
            where
              by_test : (b : Bool) → (n == k) ≡ b → (n == k) ≡ false
              by_test false g = g
              by_test true g = let same = eqb-true n k g in absurd (omega arith)
          only k true (inr none) h = absurd none
          only k false none h = absurd none

  -- ---- what the code collects

  module _ (own' : List Var) (lives' : List Row) (splits' : List Bool) (same_own : own' ≡ own) (same_lives : lives' ≡ sets.lives) (same_splits : splits' ≡ sets.splits)
      (v0 v1 v2 v3 : List Var) (count : ℕ) (inside starts truth_starts : List ℕ) (h0 : v0 ≡ own') (h1 : v1 ≡ v0 ++ temporaries own' (stands_in sets.third))
      (h2 : v2 ≡ v1 ++ flat_map (λ n. temporaries own' (stands_at lives' n)) (numbers_from 0 (length lives')))
      (h3 : v3 ≡ v2 ++ flat_map (λ n. truth (slice_index_or splits' n false)) (numbers_from 0 (length splits')))
      (is_count : count ≡ length own') (is_inside : inside ≡ inside_numbers (stands_in sets.third) count count)
      (is_starts : starts ≡ starts_of (length v1) (λ n. temporaries own' (stands_at lives' n)) (length lives'))
      (is_truths : truth_starts ≡ starts_of (length v2) (λ n. truth (slice_index_or splits' n false)) (length splits')) where
    first_vars : v1 ≡ with_copies
    first_vars = h1 ∙ (ap (λ l. l ++ temporaries own' (stands_in sets.third)) h0 ∙ ap (λ (o : List Var). o ++ temporaries o (stands_in sets.third)) same_own)

    second_vars : v2 ≡ with_saved
    second_vars =
        h2
        ∙ (ap (λ l. l ++ flat_map (λ n. temporaries own' (stands_at lives' n)) (numbers_from 0 (length lives'))) first_vars
        ∙ (ap (λ (o : List Var). with_copies ++ flat_map (λ n. temporaries o (stands_at lives' n)) (numbers_from 0 (length lives'))) same_own
        ∙ ap (λ (r : List Row). with_copies ++ flat_map (λ n. temporaries own (stands_at r n)) (numbers_from 0 (length r))) same_lives))

    pub numbers_are : AreNumbers s (record { inside = inside; starts = starts; truths = truth_starts; vars = v3 })
    numbers_are =
        record {
          count = ap (λ (l : List ℕ). length l) is_inside ∙ (map_length (λ v. cond (stands_in sets.third v) (count + length (filter (stands_in sets.third) (numbers_from 0 v))) v) (numbers_from 0 count) ∙ (numbers_length 0 count ∙ (is_count ∙ ap (λ (o : List Var). length o) same_own)));
          inside = λ v. ap (λ l. number_in l v) (is_inside ∙ ap (λ k. inside_numbers (stands_in sets.third) k k) (is_count ∙ ap (λ (o : List Var). length o) same_own)) ∙ inside_is v;
          saved = λ n v live.
              saved_is n v live
              ∙ ap (λ l. slice_index_or l n 0 + length (filter (is_live s n) (numbers_from 0 v)))
              (sym (is_starts
              ∙ (ap (λ (l : List Var). starts_of (length l) (λ n. temporaries own' (stands_at lives' n)) (length lives')) first_vars
              ∙ (ap (λ (o : List Var). starts_of (length with_copies) (λ n. temporaries o (stands_at lives' n)) (length lives')) same_own
              ∙ ap (λ (r : List Row). starts_of (length with_copies) (λ n. temporaries own (stands_at r n)) (length r)) same_lives))));
          truths = λ n split_test.
              truth_is n split_test
              ∙ ap (λ l. slice_index_or l n 0)
              (sym (is_truths
              ∙ (ap (λ (l : List Var). starts_of (length l) (λ n. truth (slice_index_or splits' n false)) (length splits')) second_vars
              ∙ ap (λ (m : List Bool). starts_of (length with_saved) (λ n. truth (slice_index_or m n false)) (length m)) same_splits)));
          vars =
              h3
              ∙ (ap (λ l. l ++ flat_map (λ n. truth (slice_index_or splits' n false)) (numbers_from 0 (length splits'))) second_vars
              ∙ (ap (λ (m : List Bool). with_saved ++ flat_map (λ n. truth (slice_index_or m n false)) (numbers_from 0 (length m))) same_splits ∙ all_vars));
        }
