-- What the walk that asks which ifs are split finds step by step.
use Rattle.std.proofs.Common.{◌≡◌, ℕ, zero, suc, ◌<◌, ◌≤◌, Bool, true, false, not, ◌&&◌, ◌||◌, ◌==◌, ◌%◌, List, [], ◌∷◌, ◌++◌, length, refl, sym, ap, ◌∙◌, subst, arith}
use Rattle.std.specs.Prelude.{◌↔◌, slice_index_or}
use Rattle.std.specs.List.{list_any}
use Rattle.std.proofs.Math.Bool.{or-false}
use Rattle.std.proofs.lemmas.List.Folds.{list_any-append}
use Rattle.std.proofs.lemmas.Nat.Bits.{bit_at-zero}
use Rattle.tcel_core.specs.declared.row.Row.{Row}
use Rattle.tcel_core.specs.Kinds.{Slicing, is_kept_item, is_live}
use Rattle.tcel_core.specs.Language.{Expr, Block, item, choice, Act}
use Rattle.tcel_core.specs.Parts.{is_left, is_split, variables}
use Rattle.tcel_core.specs.Paths.{Point, points, stmt_points}
use Rattle.tcel_core.specs.Rows.{stands_in}
use Rattle.tcel_parts.proofs.Members.{any_from_in, in_from_any, in_numbers, numbers_within}
use Rattle.tcel_slice.proofs.Common.{same_truth}
use Rattle.tcel_rename.specs.Lives.{stands_at}
use Rattle.tcel_rename.specs.Splits.{AreLive, is_split_test, FindsSides}
use Rattle.tcel_rename.specs.declared.splits.Sides.{Sides}

module _ (s : Slicing) where
  -- two pieces: the second is gone through first
  pub sides_both : (ps qs : List Point) (a b c : List Bool) (first second sides : Sides) → FindsSides s qs a second b → FindsSides s ps b first c →
      sides.inside ≡ (first.inside || second.inside) → sides.left ≡ (first.left || second.left) → FindsSides s (ps ++ qs) a sides c
  sides_both ps qs a b c first second sides f g is_inside is_left_too =
      record {
        inside = is_inside ∙ (ap (λ x. x || second.inside) g.inside ∙ (ap (λ x. list_any (is_kept_item s) ps || x) f.inside ∙ sym (list_any-append (is_kept_item s) ps qs)));
        left = is_left_too ∙ (ap (λ x. x || second.left) g.left ∙ (ap (λ x. list_any (is_left s) ps || x) f.left ∙ sym (list_any-append (is_left s) ps qs)));
        splits = λ n less.
            g.splits n (subst (λ k. n < k) (sym f.long) less)
            ∙ (ap (λ x. x || list_any (is_split_test s n) ps) (f.splits n less)
            ∙ (moved (slice_index_or a n false) (list_any (is_split_test s n) qs) (list_any (is_split_test s n) ps)
            ∙ ap (λ x. slice_index_or a n false || x) (sym (list_any-append (is_split_test s n) ps qs))));
        long = g.long ∙ f.long;
      }
    where
      moved : (x y z : Bool) → ((x || y) || z) ≡ (x || (z || y))
      moved true y z = refl
      moved false true true = refl
      moved false true false = refl
      moved false false true = refl
      moved false false false = refl

  pub sides_item : (n : ℕ) (act : Act) (marks : List Bool) (held live : Bool) → held ≡ s.kept n → live ≡ list_any (is_live s n) (variables s) →
      FindsSides s (stmt_points (item n act)) marks (record { inside = held; left = not held || live }) marks
  sides_item n act marks held live e f =
      record {
        inside = e ∙ sym (or-false (s.kept n));
        left = ap (λ k. not k || live) e ∙ (ap (λ x. not (s.kept n) || x) f ∙ sym (or-false (not (s.kept n) || list_any (is_live s n) (variables s))));
        splits = λ m less. sym (or-false (slice_index_or marks m false));
        long = refl;
      }

  pub sides_choice : (m : ℕ) (test : Expr) (held other : Block) (a b c d : List Bool) (first second sides : Sides) → FindsSides s (points other) a second b → FindsSides s (points held) b first c →
      sides.inside ≡ (first.inside || second.inside) → sides.left ≡ (first.left || second.left) → length d ≡ length c →
      ((n : ℕ) → n < length c → slice_index_or d n false ≡ (slice_index_or c n false || ((m == n) && (sides.inside && sides.left)))) → FindsSides s (stmt_points (choice m test held other)) a sides d
  sides_choice m test held other a b c d first second sides f g is_inside is_left_too same marked =
      let all = sides_both (points held) (points other) a b c first second sides f g is_inside is_left_too in
      let inside : sides.inside ≡ (list_any (is_kept_item s) (points held) || list_any (is_kept_item s) (points other)) = all.inside ∙ list_any-append (is_kept_item s) (points held) (points other) in
      let left : sides.left ≡ (list_any (is_left s) (points held) || list_any (is_left s) (points other)) = all.left ∙ list_any-append (is_left s) (points held) (points other) in
      record {
        inside = all.inside;
        left = all.left;
        splits = λ n less.
            marked n (subst (λ k. n < k) (sym all.long) less)
            ∙ (ap (λ x. x || ((m == n) && (sides.inside && sides.left))) (all.splits n less)
            ∙ (ap (λ x. (slice_index_or a n false || list_any (is_split_test s n) (points held ++ points other)) || ((m == n) && (x && sides.left))) inside
            ∙ (ap (λ x. (slice_index_or a n false || list_any (is_split_test s n) (points held ++ points other)) || ((m == n) && ((list_any (is_kept_item s) (points held) || list_any (is_kept_item s) (points other)) && x))) left
            ∙ moved (slice_index_or a n false) (list_any (is_split_test s n) (points held ++ points other)) ((m == n) && is_split s held other))));
        long = same ∙ all.long;
      }
    where
      moved : (x y z : Bool) → ((x || y) || z) ≡ (x || (z || y))
      moved true y z = refl
      moved false true true = refl
      moved false true false = refl
      moved false false true = refl
      moved false false false = refl

  pub live_any : (rows : List Row) (n : ℕ) (row : Row) (b : Bool) → AreLive s rows → ((v : ℕ) → v < 256 → stands_in row v ≡ stands_at rows n v) →
      (b ≡ true ↔ ((v : ℕ) × (v < 256) × (stands_in row v ≡ true) × (stands_in row v ≡ true))) → b ≡ list_any (is_live s n) (variables s)
  live_any rows n row b are is h =
      same_truth b (list_any (is_live s n) (variables s))
      (λ e.
      let r = h.0 e in
      let live = sym (are.live n r.0 r.1) ∙ (sym (is r.0 r.1) ∙ r.2) in
      let within = are.own n r.0 live in
      any_from_in (is_live s n) (variables s) r.0 (in_numbers 0 (length s.vars) r.0 (omega arith) (omega arith)) live)
      (λ e.
      let r = in_from_any (is_live s n) (variables s) e in
      let within = (numbers_within 0 (length s.vars) r.0 r.1).1 in
      let few = are.few in
      let small : r.0 < 256 = omega arith in
      let stands = is r.0 small ∙ (are.live n r.0 small ∙ r.2) in
      h.1 (r.0, small, stands, stands))

-- no variable stands past the end
pub none_stands : (rows : List Row) (n v : ℕ) → length rows ≤ n → stands_at rows n v ≡ false
none_stands [] n v h = ap (λ k. k == 1) (bit_at-zero (v % 64))
none_stands (x ∷ rows) zero v h = absurd (omega arith)
none_stands (x ∷ rows) (suc n) v h = none_stands rows n v (omega arith)
