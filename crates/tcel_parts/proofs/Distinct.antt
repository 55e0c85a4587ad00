-- No two items of a body have one number, and no two of its ifs.
use Rattle.std.proofs.Common.{◌≡◌, ℕ, zero, suc, ◌+◌, List, [], ◌∷◌, ◌++◌, refl, sym, ap, ◌∙◌, subst, arith, inl, inr}
use Rattle.tcel_core.specs.Language.{Expr, Block, done, next, Stmt, item, choice, timed, Act}
use Rattle.tcel_core.specs.Numbering.{numbers_from, item_numbers, stmt_item_numbers, if_numbers, stmt_if_numbers}
use Rattle.tcel_core.specs.Paths.{Point, at_item, at_test, points, stmt_points}
use Rattle.tcel_parts.proofs.Members.{In, in_left, in_right, in_either, numbers_within}

-- no element stands again
abbrev pub AreDistinct : List ℕ → Type 0
AreDistinct [] = Unit {0}
AreDistinct (n ∷ ns) = (In ns n → ⊥) × AreDistinct ns

-- of two lists
pub record Split (ms ns : List ℕ) : Type 0 where
  pub first : AreDistinct ms
  pub second : AreDistinct ns
  pub apart : (n : ℕ) → In ms n → In ns n → ⊥

pub split : (ms ns : List ℕ) → AreDistinct (ms ++ ns) → Split ms ns
split [] ns h = record { first = tt; second = h; apart = λ n g _. absurd g }
split (m ∷ ms) ns h =
    let r = split ms ns h.1 in
    record {
      first = ((λ g. h.0 (in_left ms ns m g)), r.first);
      second = r.second;
      apart = λ n g k.
          elim g [
            | inl e ↦ h.0 (in_right ms ns m (subst (λ x. In ns x) (sym e) k))
            | inr there ↦ r.apart n there k
          ];
    }

pub numbers_distinct : (first count : ℕ) → AreDistinct (numbers_from first count)
numbers_distinct first zero = tt
numbers_distinct first (suc count) = ((λ h. let low = (numbers_within (first + 1) count first h).0 in absurd (omega arith)), numbers_distinct (first + 1) count)

-- ---- the numbers of points

abbrev item_number : Point → List ℕ
item_number (at_item n act) = n ∷ []
item_number (at_test n test held other) = []

mutual
  pub item_numbered : (b : Block) (n : ℕ) (act : Act) → In (points b) (at_item n act) → In (item_numbers b) n
  item_numbered done n act h = absurd h
  item_numbered (next t rest) n act h =
      elim (in_either (stmt_points t) (points rest) (at_item n act) h) [
        | inl first ↦ in_left (stmt_item_numbers t) (item_numbers rest) n (stmt_item_numbered t n act first)
        | inr later ↦ in_right (stmt_item_numbers t) (item_numbers rest) n (item_numbered rest n act later)
      ]

  pub stmt_item_numbered : (t : Stmt) (n : ℕ) (act : Act) → In (stmt_points t) (at_item n act) → In (stmt_item_numbers t) n
  stmt_item_numbered (item m a) n act (inl e) = subst (λ p. In (item_number p) n) (sym e) (inl refl)
  stmt_item_numbered (item m a) n act (inr h) = absurd h
  stmt_item_numbered (choice m test held other) n act (inl e) = absurd (subst (λ p. In (item_number p) n) (sym e) (inl refl))
  stmt_item_numbered (choice m test held other) n act (inr h) =
      elim (in_either (points held) (points other) (at_item n act) h) [
        | inl first ↦ in_left (item_numbers held) (item_numbers other) n (item_numbered held n act first)
        | inr second ↦ in_right (item_numbers held) (item_numbers other) n (item_numbered other n act second)
      ]
  stmt_item_numbered (timed m window body) n act h = item_numbered body n act h

abbrev test_number : Point → List ℕ
test_number (at_item n act) = []
test_number (at_test n test held other) = n ∷ []

mutual
  pub test_numbered : (b : Block) (n : ℕ) (test : Expr) (held other : Block) → In (points b) (at_test n test held other) → In (if_numbers b) n
  test_numbered done n test held other h = absurd h
  test_numbered (next t rest) n test held other h =
      elim (in_either (stmt_points t) (points rest) (at_test n test held other) h) [
        | inl first ↦ in_left (stmt_if_numbers t) (if_numbers rest) n (stmt_test_numbered t n test held other first)
        | inr later ↦ in_right (stmt_if_numbers t) (if_numbers rest) n (test_numbered rest n test held other later)
      ]

  pub stmt_test_numbered : (t : Stmt) (n : ℕ) (test : Expr) (held other : Block) → In (stmt_points t) (at_test n test held other) → In (stmt_if_numbers t) n
  stmt_test_numbered (item m a) n test held other (inl e) = absurd (subst (λ p. In (test_number p) n) (sym e) (inl refl))
  stmt_test_numbered (item m a) n test held other (inr h) = absurd h
  stmt_test_numbered (choice m e1 h1 o1) n test held other (inl e) = in_head (subst (λ p. In (test_number p) n) (sym e) (inl refl))
    where
      in_head : In (m ∷ []) n → In (m ∷ (if_numbers h1 ++ if_numbers o1)) n
      in_head (inl same) = inl same
      in_head (inr none) = absurd none
  stmt_test_numbered (choice m e1 h1 o1) n test held other (inr h) =
      elim (in_either (points h1) (points o1) (at_test n test held other) h) [
        | inl first ↦ inr (in_left (if_numbers h1) (if_numbers o1) n (test_numbered h1 n test held other first))
        | inr second ↦ inr (in_right (if_numbers h1) (if_numbers o1) n (test_numbered o1 n test held other second))
      ]
  stmt_test_numbered (timed m window body) n test held other h = test_numbered body n test held other h

-- ---- one number, one item

abbrev act_of : Act → Point → Act
act_of a (at_item n act) = act
act_of a (at_test n test held other) = a

mutual
  pub one_item : (b : Block) → AreDistinct (item_numbers b) → (n : ℕ) (x y : Act) → In (points b) (at_item n x) → In (points b) (at_item n y) → x ≡ y
  one_item done d n x y h g = absurd h
  one_item (next t rest) d n x y h g =
      let r = split (stmt_item_numbers t) (item_numbers rest) d in
      elim (in_either (stmt_points t) (points rest) (at_item n x) h) [
        | inl hx ↦
            elim (in_either (stmt_points t) (points rest) (at_item n y) g) [
              | inl hy ↦ one_stmt_item t r.first n x y hx hy
              | inr hy ↦ absurd (r.apart n (stmt_item_numbered t n x hx) (item_numbered rest n y hy))
            ]
        | inr hx ↦
            elim (in_either (stmt_points t) (points rest) (at_item n y) g) [
              | inl hy ↦ absurd (r.apart n (stmt_item_numbered t n y hy) (item_numbered rest n x hx))
              | inr hy ↦ one_item rest r.second n x y hx hy
            ]
      ]

  one_stmt_item : (t : Stmt) → AreDistinct (stmt_item_numbers t) → (n : ℕ) (x y : Act) → In (stmt_points t) (at_item n x) → In (stmt_points t) (at_item n y) → x ≡ y
  one_stmt_item (item m a) d n x y (inl e) (inl f) = ap (act_of a) (sym e ∙ f)
  one_stmt_item (item m a) d n x y (inl e) (inr f) = absurd f
  one_stmt_item (item m a) d n x y (inr e) f = absurd e
  one_stmt_item (choice m test held other) d n x y (inl e) f = absurd (subst (λ p. In (item_number p) n) (sym e) (inl refl))
  one_stmt_item (choice m test held other) d n x y (inr h) (inl f) = absurd (subst (λ p. In (item_number p) n) (sym f) (inl refl))
  one_stmt_item (choice m test held other) d n x y (inr h) (inr g) =
      let r = split (item_numbers held) (item_numbers other) d in
      elim (in_either (points held) (points other) (at_item n x) h) [
        | inl hx ↦
            elim (in_either (points held) (points other) (at_item n y) g) [
              | inl hy ↦ one_item held r.first n x y hx hy
              | inr hy ↦ absurd (r.apart n (item_numbered held n x hx) (item_numbered other n y hy))
            ]
        | inr hx ↦
            elim (in_either (points held) (points other) (at_item n y) g) [
              | inl hy ↦ absurd (r.apart n (item_numbered held n y hy) (item_numbered other n x hx))
              | inr hy ↦ one_item other r.second n x y hx hy
            ]
      ]
  one_stmt_item (timed m window body) d n x y h g = one_item body d n x y h g
