-- Parts of which nothing is left, and the branches that an `if` takes in both.
use Rattle.std.proofs.Common.{◌≡◌, ℕ, Bool, true, false, cond, not, ◌||◌, ◌&&◌, ℤ, List, [], ◌∷◌, map, length, refl, sym, ap, ◌∙◌, arith, append-nil}
use Rattle.std.specs.Prelude.{filter}
use Rattle.std.specs.List.{list_any}
use Rattle.std.proofs.lemmas.Bool.{true≢false, cond-true, cond-false}
use Rattle.std.proofs.lemmas.List.Folds.{list_any-append}
use Rattle.tcel_num.specs.Arithmetic.{holds}
use Rattle.tcel_core.specs.declared.var.Var.{Var}
use Rattle.tcel_core.specs.Cells.{all_words, set_word}
use Rattle.tcel_core.specs.Kinds.{Slicing, holds_kept, is_kept_item, is_live}
use Rattle.tcel_core.specs.Language.{Expr, variable, Block, done, next, joined, Stmt, item, choice, timed}
use Rattle.tcel_core.specs.Meaning.{exec, exec_stmt, value, with_cells}
use Rattle.tcel_core.specs.Outcome.{Memory, Occurrence, Outcome}
use Rattle.tcel_core.specs.Parts.{truth_of, is_split, has_rest, is_left, number_of, all_variables, inside_number, variables, saved, copies, split_choice, first_of_block, first_of_stmt, rest_of_block, rest_of_stmt, renamed_expr}
use Rattle.tcel_core.specs.Paths.{at_test, points, stmt_points}
use Rattle.tcel_parts.proofs.Leaves.{neither}
use Rattle.tcel_parts.proofs.Stores.{word_at, at_set_same}
use Rattle.tcel_parts.proofs.Members.{In}
use Rattle.tcel_parts.proofs.NewVariables.{width_added, truth_in}

-- one statement alone
pub alone : (t : Stmt) (vars : List Var) (m : Memory) → exec (next t done) vars m ≡ exec_stmt t vars m
alone t vars m =
    let o = exec_stmt t vars m in ap (λ (es : List Occurrence). let r : Outcome = record { memory = o.memory; events = es } in r) (append-nil o.events)

none_filtered : {X : Type 0} (test : X → Bool) (xs : List X) → list_any test xs ≡ false → filter test xs ≡ []
none_filtered test [] h = refl
none_filtered test (x ∷ xs) h =
    let both = neither (test x) (list_any test xs) h in cond-false _ _ _ both.0 ∙ none_filtered test xs both.1

module _ (s : Slicing) where
  mutual
    -- where nothing is kept the first part has nothing
    pub first_done : (b : Block) → holds_kept s b ≡ false → first_of_block s b ≡ done
    first_done done h = refl
    first_done (next t rest) h =
        let both = neither (list_any (is_kept_item s) (stmt_points t)) (holds_kept s rest) (sym (list_any-append (is_kept_item s) (stmt_points t) (points rest)) ∙ h) in
        ap (λ b. joined b (first_of_block s rest)) (stmt_first_done t both.0) ∙ first_done rest both.1

    stmt_first_done : (t : Stmt) → list_any (is_kept_item s) (stmt_points t) ≡ false → first_of_stmt s t ≡ done
    stmt_first_done (item n act) h = cond-false _ _ _ (neither (s.kept n) false h).0
    stmt_first_done (choice n test held other) h = cond-false _ _ _ (sym (list_any-append (is_kept_item s) (points held) (points other)) ∙ h)
    stmt_first_done (timed n window body) h = cond-false _ _ _ h

  not_true : (b : Bool) → not b ≡ false → b ≡ true
  not_true true h = refl
  not_true false h = absurd (true≢false h)

  mutual
    -- where nothing is left the rest has nothing
    pub rest_done : (b : Block) → has_rest s b ≡ false → rest_of_block s b ≡ done
    rest_done done h = refl
    rest_done (next t rest) h =
        let both = neither (list_any (is_left s) (stmt_points t)) (has_rest s rest) (sym (list_any-append (is_left s) (stmt_points t) (points rest)) ∙ h) in
        ap (λ b. joined b (rest_of_block s rest)) (stmt_rest_done t both.0) ∙ rest_done rest both.1

    stmt_rest_done : (t : Stmt) → list_any (is_left s) (stmt_points t) ≡ false → rest_of_stmt s t ≡ done
    stmt_rest_done (item n act) h =
        let both = neither (not (s.kept n)) (list_any (is_live s n) (variables s)) (neither (not (s.kept n) || list_any (is_live s n) (variables s)) false h).0 in
        cond-true _ _ _ (not_true (s.kept n) both.0)
        ∙ ap (λ vs. copies (map (λ v. (number_of s (saved n v), v)) vs)) (none_filtered (is_live s n) (variables s) both.1)
    stmt_rest_done (choice n test held other) h = cond-false _ _ _ (sym (list_any-append (is_left s) (points held) (points other)) ∙ h)
    stmt_rest_done (timed n window body) h = rest_done body h

  -- ---- the branch that is taken

  module _ (n : ℕ) (test : Expr) (held other : Block) where
    -- the first part's memory once it has kept the test's truth, where it does
    abbrev pub tested : Memory → Memory
    tested m =
        cond (is_split s held other) (with_cells m (set_word (all_variables s) m.cells (number_of s (truth_of n)) (value (renamed_expr (inside_number s) test) (all_variables s) m.cells))) m

    -- the first part of the branch that its test chooses
    pub first_choice : In (points s.body) (at_test n test held other) → (m : Memory) → length m.cells ≡ all_words (all_variables s) →
        exec (first_of_stmt s (choice n test held other)) (all_variables s) m
        ≡ exec (cond (holds (value (renamed_expr (inside_number s) test) (all_variables s) m.cells)) (first_of_block s held) (first_of_block s other)) (all_variables s) (tested m)
    first_choice there m long = chosen (holds_kept s held || holds_kept s other) refl
      where
        x : ℤ
        x = value (renamed_expr (inside_number s) test) (all_variables s) m.cells

        branch : (b : Bool) (f g : Block) (k : Memory) → (cond b (exec f (all_variables s)) (exec g (all_variables s))) k ≡ exec (cond b f g) (all_variables s) k
        branch true f g k = refl
        branch false f g k = refl

        same : (b : Bool) → cond b done done ≡ done
        same true = refl
        same false = refl

        set : Memory
        set = with_cells m (set_word (all_variables s) m.cells (number_of s (truth_of n)) x)

        splits : (c : Bool) → is_split s held other ≡ c →
            exec (split_choice s n (renamed_expr (inside_number s) test) c (first_of_block s held) (first_of_block s other)) (all_variables s) m
            ≡ exec (cond (holds x) (first_of_block s held) (first_of_block s other)) (all_variables s) (cond c set m)
        splits true e =
            let one = width_added s (truth_of n) (truth_in s n test held other there e) in
            alone (choice n (variable (number_of s (truth_of n))) (first_of_block s held) (first_of_block s other)) (all_variables s) set
            ∙ (ap (λ b. (cond b (exec (first_of_block s held) (all_variables s)) (exec (first_of_block s other) (all_variables s))) set)
            (ap holds
            (word_at (all_variables s) set.cells (number_of s (truth_of n))
            ∙ at_set_same (all_variables s) m.cells (number_of s (truth_of n)) x long (omega arith)))
            ∙ branch (holds x) (first_of_block s held) (first_of_block s other) set)
        splits false e =
            alone (choice n (renamed_expr (inside_number s) test) (first_of_block s held) (first_of_block s other)) (all_variables s) m
            ∙ branch (holds x) (first_of_block s held) (first_of_block s other) m

        chosen : (c : Bool) → (holds_kept s held || holds_kept s other) ≡ c →
            exec (cond c (split_choice s n (renamed_expr (inside_number s) test) (is_split s held other) (first_of_block s held) (first_of_block s other)) done) (all_variables s) m
            ≡ exec (cond (holds x) (first_of_block s held) (first_of_block s other)) (all_variables s) (tested m)
        chosen true e = splits (is_split s held other) refl
        chosen false e =
            let none = neither (holds_kept s held) (holds_kept s other) e in
            let not_split : is_split s held other ≡ false = ap (λ b. b && (has_rest s held || has_rest s other)) e in
            sym
            (ap (λ k. exec (cond (holds x) (first_of_block s held) (first_of_block s other)) (all_variables s) k) (cond-false _ _ _ not_split)
            ∙ ap (λ b. exec b (all_variables s) m)
            (ap (λ f. cond (holds x) f (first_of_block s other)) (first_done held none.0) ∙ (ap (λ g. cond (holds x) done g) (first_done other none.1) ∙ same (holds x))))

    -- the test of the rest
    abbrev pub rest_test : Expr
    rest_test = cond (is_split s held other) (variable (number_of s (truth_of n))) test

    -- the rest of the branch that this chooses
    pub rest_choice : (m : Memory) →
        exec (rest_of_stmt s (choice n test held other)) (all_variables s) m
        ≡ exec (cond (holds (value rest_test (all_variables s) m.cells)) (rest_of_block s held) (rest_of_block s other)) (all_variables s) m
    rest_choice m = chosen (has_rest s held || has_rest s other) refl
      where
        y : ℤ
        y = value rest_test (all_variables s) m.cells

        branch : (b : Bool) (f g : Block) (k : Memory) → (cond b (exec f (all_variables s)) (exec g (all_variables s))) k ≡ exec (cond b f g) (all_variables s) k
        branch true f g k = refl
        branch false f g k = refl

        same : (b : Bool) → cond b done done ≡ done
        same true = refl
        same false = refl

        chosen : (c : Bool) → (has_rest s held || has_rest s other) ≡ c →
            exec (cond c (next (choice n rest_test (rest_of_block s held) (rest_of_block s other)) done) done) (all_variables s) m
            ≡ exec (cond (holds y) (rest_of_block s held) (rest_of_block s other)) (all_variables s) m
        chosen true e = alone (choice n rest_test (rest_of_block s held) (rest_of_block s other)) (all_variables s) m ∙ branch (holds y) (rest_of_block s held) (rest_of_block s other) m
        chosen false e =
            let none = neither (has_rest s held) (has_rest s other) e in
            sym
            (ap (λ b. exec b (all_variables s) m)
            (ap (λ f. cond (holds y) f (rest_of_block s other)) (rest_done held none.0) ∙ (ap (λ g. cond (holds y) done g) (rest_done other none.1) ∙ same (holds y))))
