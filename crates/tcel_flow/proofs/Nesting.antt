-- The walk along the steps that asks whether an item stands in an `if` answers by the body's definition.
use Rattle.std.proofs.Common.{◌≡◌, ℕ, zero, suc, ◌<◌, ◌≤◌, Bool, true, false, cond, ◌||◌, ◌&&◌, ◌==◌, List, [], ◌∷◌, ◌++◌, refl, sym, ap, ◌∙◌, append_assoc, append-nil, length, get_or, drop, drop-cons, arith, eq-eqb}
use Rattle.std.specs.List.{list_any}
use Rattle.std.proofs.Math.Bool.{or_assoc, or-false}
use Rattle.std.proofs.lemmas.Bool.{true≢false}
use Rattle.std.proofs.lemmas.List.{at_drop_all}
use Rattle.std.proofs.lemmas.List.Folds.{list_any-append}
use Rattle.tcel_core.specs.Kept.{is_item, holds_item, stands_around, stmt_stands_around}
use Rattle.tcel_core.specs.Language.{Expr, Block, done, next, Stmt, item, choice, timed}
use Rattle.tcel_core.specs.Paths.{points, stmt_points}
use Rattle.tcel_core.specs.declared.row.Row.{Row}
use Rattle.tcel_flow.specs.declared.step.Step.{Step}
use Rattle.tcel_flow.specs.declared.step.Step.TheVariants as steps
use Rattle.tcel_flow.specs.Around.{is_around}
use Rattle.tcel_flow.specs.Shape.{Place, at_item, opens, changes, closes, places, stmt_places, AreSteps}

-- along places in place of steps
abbrev pub around : ℕ → ℕ → ℕ → List Place → Bool
around n t d [] = false
around n t zero (at_item id act ∷ ps) = around n t 0 ps
around n t (suc d) (at_item id act ∷ ps) = (id == n) || around n t (suc d) ps
around n t zero (opens id test ∷ ps) = around n t (cond (id == t) 1 0) ps
around n t (suc d) (opens id test ∷ ps) = around n t (suc (suc d)) ps
around n t d (changes ∷ ps) = around n t d ps
around n t zero (closes ∷ ps) = around n t 0 ps
around n t (suc d) (closes ∷ ps) = around n t d ps

pub along : (n t d : ℕ) (ss : List Step) (ps : List Place) → AreSteps ss ps → is_around n t d ss ≡ around n t d ps
along n t d [] [] h = refl
along n t d [] (p ∷ ps) h = absurd h
along n t d (s ∷ ss) [] h = absurd h
along n t zero (steps.Item id reads writes event ∷ ss) (at_item m act ∷ ps) h = along n t 0 ss ps h.1
along n t (suc d) (steps.Item id reads writes event ∷ ss) (at_item m act ∷ ps) h =
    ap (λ k. (k == n) || is_around n t (suc d) ss) h.0.0 ∙ ap (λ b. (m == n) || b) (along n t (suc d) ss ps h.1)
along n t zero (steps.Open id reads ∷ ss) (opens m test ∷ ps) h =
    ap (λ k. is_around n t (cond (k == t) 1 0) ss) h.0.0 ∙ along n t (cond (m == t) 1 0) ss ps h.1
along n t (suc d) (steps.Open id reads ∷ ss) (opens m test ∷ ps) h = along n t (suc (suc d)) ss ps h.1
along n t d (steps.Middle ∷ ss) (changes ∷ ps) h = along n t d ss ps h.1
along n t zero (steps.Close ∷ ss) (closes ∷ ps) h = along n t 0 ss ps h.1
along n t (suc d) (steps.Close ∷ ss) (closes ∷ ps) h = along n t d ss ps h.1
along n t d (steps.Item id reads writes event ∷ ss) (opens m test ∷ ps) h = absurd h.0
along n t d (steps.Item id reads writes event ∷ ss) (changes ∷ ps) h = absurd h.0
along n t d (steps.Item id reads writes event ∷ ss) (closes ∷ ps) h = absurd h.0
along n t d (steps.Open id reads ∷ ss) (at_item m act ∷ ps) h = absurd h.0
along n t d (steps.Open id reads ∷ ss) (changes ∷ ps) h = absurd h.0
along n t d (steps.Open id reads ∷ ss) (closes ∷ ps) h = absurd h.0
along n t d (steps.Middle ∷ ss) (at_item m act ∷ ps) h = absurd h.0
along n t d (steps.Middle ∷ ss) (opens m test ∷ ps) h = absurd h.0
along n t d (steps.Middle ∷ ss) (closes ∷ ps) h = absurd h.0
along n t d (steps.Close ∷ ss) (at_item m act ∷ ps) h = absurd h.0
along n t d (steps.Close ∷ ss) (opens m test ∷ ps) h = absurd h.0
along n t d (steps.Close ∷ ss) (changes ∷ ps) h = absurd h.0

-- ---- along the places of a body

absorbed : (a b c d : Bool) → (c ≡ true → a ≡ true) → (d ≡ true → b ≡ true) → ((a || b) || (c || d)) ≡ (a || b)
absorbed true b c d h g = refl
absorbed false true c d h g = refl
absorbed false false true d h g = sym (h refl)
absorbed false false false true h g = sym (g refl)
absorbed false false false false h g = refl

one : (a b c d : Bool) → (a ≡ true → c ≡ true) → (b ≡ true → d ≡ true) → (a || b) ≡ true → (c || d) ≡ true
one a b true d f g h = refl
one true b false d f g h = absurd (true≢false (sym (f refl)))
one false b false d f g h = g h

here : (e a b c d : Bool) → (c ≡ true → a ≡ true) → (d ≡ true → b ≡ true) → ((e && (a || b)) || (c || d)) ≡ true → (a || b) ≡ true
here true a b c d f g h = sym (absorbed a b c d f g) ∙ h
here false a b c d f g h = one c d a b f g h

module _ (n t : ℕ) where
  any : Block → Bool
  any b = list_any (is_item n) (points b)

  in_choice : (m : ℕ) (e : Expr) (held other : Block) (ps : List Place) →
      (stmt_places (choice m e held other) ++ ps) ≡ opens m e ∷ (places held ++ (changes ∷ (places other ++ (closes ∷ ps))))
  in_choice m e held other ps =
      ap (λ l. opens m e ∷ l)
      (append_assoc (places held) (changes ∷ (places other ++ (closes ∷ []))) ps
      ∙ ap (λ l. places held ++ (changes ∷ l)) (append_assoc (places other) (closes ∷ []) ps))

  mutual
    -- within such an `if` each item counts
    inside : (b : Block) (d : ℕ) (ps : List Place) → around n t (suc d) (places b ++ ps) ≡ (holds_item b n || around n t (suc d) ps)
    inside done d ps = refl
    inside (next s rest) d ps =
        ap (around n t (suc d)) (append_assoc (stmt_places s) (places rest) ps)
        ∙ (stmt_inside s d (places rest ++ ps)
        ∙ (ap (λ b. list_any (is_item n) (stmt_points s) || b) (inside rest d ps)
        ∙ (sym (or_assoc (list_any (is_item n) (stmt_points s)) (holds_item rest n) (around n t (suc d) ps))
        ∙ ap (λ b. b || around n t (suc d) ps) (sym (list_any-append (is_item n) (stmt_points s) (points rest))))))

    stmt_inside : (s : Stmt) (d : ℕ) (ps : List Place) → around n t (suc d) (stmt_places s ++ ps) ≡ (list_any (is_item n) (stmt_points s) || around n t (suc d) ps)
    stmt_inside (item id act) d ps = ap (λ b. b || around n t (suc d) ps) (sym (or-false (id == n)))
    stmt_inside (choice m e held other) d ps =
        ap (around n t (suc d)) (in_choice m e held other ps)
        ∙ (inside held (suc d) (changes ∷ (places other ++ (closes ∷ ps)))
        ∙ (ap (λ b. holds_item held n || b) (inside other (suc d) (closes ∷ ps))
        ∙ (sym (or_assoc (holds_item held n) (holds_item other n) (around n t (suc d) ps))
        ∙ ap (λ b. b || around n t (suc d) ps) (sym (list_any-append (is_item n) (points held) (points other))))))
    stmt_inside (timed m window body) d ps = inside body d ps

  mutual
    -- an item with the test around it stands there
    stands_holds : (b : Block) → stands_around b n t ≡ true → holds_item b n ≡ true
    stands_holds done h = h
    stands_holds (next s rest) h =
        list_any-append (is_item n) (stmt_points s) (points rest)
        ∙ one (stmt_stands_around s n t) (stands_around rest n t) (list_any (is_item n) (stmt_points s)) (holds_item rest n) (stmt_stands_holds s) (stands_holds rest) h

    stmt_stands_holds : (s : Stmt) → stmt_stands_around s n t ≡ true → list_any (is_item n) (stmt_points s) ≡ true
    stmt_stands_holds (item id act) h = absurd (true≢false (sym h))
    stmt_stands_holds (choice m e held other) h =
        list_any-append (is_item n) (points held) (points other)
        ∙ here (m == t) (holds_item held n) (holds_item other n) (stands_around held n t) (stands_around other n t) (stands_holds held) (stands_holds other) h
    stmt_stands_holds (timed m window body) h = stands_holds body h

  chosen : (e a b c d w : Bool) (x : ℕ) → (c ≡ true → a ≡ true) → (d ≡ true → b ≡ true) → (ps : List Place) →
      (around n t 1 ps ≡ (a || (b || w))) → (around n t 0 ps ≡ (c || (d || w))) →
      around n t (cond e 1 0) ps ≡ (((e && (a || b)) || (c || d)) || w)
  chosen true a b c d w x f g ps h k = h ∙ (sym (or_assoc a b w) ∙ ap (λ y. y || w) (sym (absorbed a b c d f g)))
  chosen false a b c d w x f g ps h k = k ∙ sym (or_assoc c d w)

  mutual
    outside : (b : Block) (ps : List Place) → around n t 0 (places b ++ ps) ≡ (stands_around b n t || around n t 0 ps)
    outside done ps = refl
    outside (next s rest) ps =
        ap (around n t 0) (append_assoc (stmt_places s) (places rest) ps)
        ∙ (stmt_outside s (places rest ++ ps)
        ∙ (ap (λ b. stmt_stands_around s n t || b) (outside rest ps)
        ∙ sym (or_assoc (stmt_stands_around s n t) (stands_around rest n t) (around n t 0 ps))))

    stmt_outside : (s : Stmt) (ps : List Place) → around n t 0 (stmt_places s ++ ps) ≡ (stmt_stands_around s n t || around n t 0 ps)
    stmt_outside (item id act) ps = refl
    stmt_outside (choice m e held other) ps =
        let inner = places held ++ (changes ∷ (places other ++ (closes ∷ ps))) in
        ap (around n t 0) (in_choice m e held other ps)
        ∙ chosen (m == t) (holds_item held n) (holds_item other n) (stands_around held n t) (stands_around other n t) (around n t 0 ps) 0 (stands_holds held) (stands_holds other) inner
        (inside held 0 (changes ∷ (places other ++ (closes ∷ ps))) ∙ ap (λ b. holds_item held n || b) (inside other 0 (closes ∷ ps)))
        (outside held (changes ∷ (places other ++ (closes ∷ ps))) ∙ ap (λ b. stands_around held n t || b) (outside other (closes ∷ ps)))
    stmt_outside (timed m window body) ps = outside body ps

-- what the walk along a body's steps answers
pub answers : (b : Block) (n t : ℕ) (ss : List Step) → AreSteps ss (places b) → is_around n t 0 ss ≡ stands_around b n t
answers b n t ss h = along n t 0 ss (places b) h ∙ (ap (around n t 0) (sym (append-nil (places b))) ∙ (outside n t b [] ∙ or-false (stands_around b n t)))

-- ---- what the walk answers on its way

pub found_there : (n t d i id : ℕ) (reads writes : Row) (event : Bool) (x : Step) (xs : List Step) → 0 < d → i < length xs →
    get_or xs i x ≡ steps.Item id reads writes event → id ≡ n → is_around n t d (drop i xs) ≡ true
found_there n t d i id reads writes event x xs deep less is same =
    ap (is_around n t d) (drop-cons xs i x less ∙ ap (λ y. y ∷ drop (suc i) xs) is) ∙ counts d deep
  where
    counts : (k : ℕ) → 0 < k → is_around n t k (steps.Item id reads writes event ∷ drop (suc i) xs) ≡ true
    counts zero h = absurd (omega arith)
    counts (suc k) h = ap (λ b. b || is_around n t (suc k) (drop (suc i) xs)) (eq-eqb id n same)

pub none_left : (n t d i : ℕ) (xs : List Step) → length xs ≤ i → is_around n t d (drop i xs) ≡ false
none_left n t d i xs past = at_drop_all (is_around n t d) xs i past
