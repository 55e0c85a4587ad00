-- What the walk that asks who reaches whom answers: what the definition says of the body's paths.
use Rattle.std.proofs.Common.{◌≡◌, ℕ, ◌<◌, ◌≤◌, Bool, true, false, not, ◌||◌, ◌&&◌, ◌==◌, List, [], ◌∷◌, ◌++◌, refl, sym, ap, ◌∙◌, length, length-append, arith}
use Rattle.std.specs.Prelude.{Option, IsSome, Some, None}
use Rattle.std.specs.List.{filter_map, cons_option, AllByRecursion}
use Rattle.std.proofs.lemmas.List.Elements.{recursion_from_All}
use Rattle.std.proofs.Math.Bool.{or-false}
use Rattle.std.proofs.lemmas.Bool.{true≢false}
use Rattle.tcel_core.specs.declared.var.Var.{Var}
use Rattle.tcel_core.specs.Kept.{Use, by_item, by_test, is_item, is_use, reaches}
use Rattle.tcel_core.specs.Language.{Expr, Block, done, next, Stmt, item, choice, timed, Act, Task}
use Rattle.tcel_core.specs.Paths.{Point, at_item, at_test, points, point_reads, point_writes}
use Rattle.tcel_core.specs.Rows.{stands_in}
use Rattle.tcel_core.specs.Sound.{IsSoundTask, IsDeclared}
use Rattle.tcel_core.specs.Typing.{Names}
use Rattle.tcel_core.specs.Uses.{act_reads, act_writes, expr_reads}
use Rattle.tcel_flow.specs.declared.reaching.Found.{Found}
use Rattle.tcel_flow.specs.declared.reaching.Question.{Question}
use Rattle.tcel_flow.specs.declared.reaching.Use.{Use as CodeUse}
use Rattle.tcel_flow.specs.declared.reaching.Use.TheVariants as uses
use Rattle.tcel_flow.specs.declared.step.Step.{Step}
use Rattle.tcel_flow.specs.declared.step.Step.TheVariants as steps
use Rattle.tcel_flow.specs.Backward.{from_end, run, IsStart, Goes}
use Rattle.tcel_flow.specs.Reaching.{plain_use, is_item_use, is_test_use, reaching}
use Rattle.tcel_flow.specs.Shape.{at_item as item_place, opens, places, IsStep, AreSteps}
use Rattle.tcel_flow.proofs.Backward.{Rules, over, over_stmt, AreSame, walked, stops, from_end_all}
use Rattle.tcel_parts.specs.Rows.{row, stmt_row, row_behind, stmt_row_behind}
use Rattle.tcel_parts.proofs.Hits.{and_both}
use Rattle.tcel_parts.proofs.Members.{In}
use Rattle.tcel_parts.proofs.OwnNames.{point_behind, point_typed, act_own}
use Rattle.tcel_parts.proofs.Rows.{any_behind}

swap : (f a b : Bool) → ((f || a) || b) ≡ (f || (b || a))
swap true a b = refl
swap false true true = refl
swap false true false = refl
swap false false true = refl
swap false false false = refl

-- ---- the walk over statements

-- whether the use is the test of that number
abbrev is_test : Use → ℕ → Bool
is_test (by_item m) n = false
is_test (by_test m) n = n == m

module _ (from : ℕ) (user : Use) (v : ℕ) where
  abbrev here : Point → Bool
  here p = is_item from p && point_writes p v

  abbrev hit : Point → Bool
  hit p = is_use user p && point_reads p v

  abbrev stop : Point → Bool
  stop p = point_writes p v

  found_is : Bool → Bool → Found
  found_is e f = record { ends = e; found = f }

  abbrev by_rows : Rules Found
  by_rows =
      record {
        item = λ n act s.
            record {
              ends = hit (at_item n act) || (not (act_writes act v) && s.ends);
              found = s.found || (((n == from) && act_writes act v) && s.ends);
            };
        enter = λ a. a;
        again = λ a b. record { ends = a.ends; found = b.found };
        join = λ n test a b c. record { ends = (is_test user n && expr_reads test v) || (c.ends || b.ends); found = c.found };
      }

  same_test : (n : ℕ) (test : Expr) (held other : Block) → is_test user n ≡ is_use user (at_test n test held other)
  same_test n test held other = by_user user
    where
      by_user : (u : Use) → is_test u n ≡ is_use u (at_test n test held other)
      by_user (by_item m) = refl
      by_user (by_test m) = refl

  mutual
    counted : (b : Block) (e f : Bool) → over by_rows b (record { ends = e; found = f }) ≡ record { ends = row hit stop b e; found = f || row_behind here hit stop b e }
    counted done e f = ap (λ x. let r : Found = record { ends = e; found = x } in r) (sym (or-false f))
    counted (next s rest) e f =
        ap (over_stmt by_rows s) (counted rest e f)
        ∙ (stmt_counted s (row hit stop rest e) (f || row_behind here hit stop rest e)
        ∙ ap (λ x. let r : Found = record { ends = stmt_row hit stop s (row hit stop rest e); found = x } in r)
        (swap f (row_behind here hit stop rest e) (stmt_row_behind here hit stop s (row hit stop rest e))))

    stmt_counted : (s : Stmt) (e f : Bool) → over_stmt by_rows s (record { ends = e; found = f }) ≡ record { ends = stmt_row hit stop s e; found = f || stmt_row_behind here hit stop s e }
    stmt_counted (item n act) e f = refl
    stmt_counted (timed n window body) e f = counted body e f
    stmt_counted (choice n test held other) e f =
        let behind : Found = record { ends = e; found = f } in
        let second : Found = record { ends = row hit stop other e; found = f || row_behind here hit stop other e } in
        ap (λ (b : Found). by_rows.join n test behind b (over by_rows held (by_rows.again behind b))) (counted other e f)
        ∙ (ap (λ (c : Found). by_rows.join n test behind second c) (counted held e (f || row_behind here hit stop other e))
        ∙ (ap (λ x. let r : Found = record { ends = (x && expr_reads test v) || (row hit stop held e || row hit stop other e); found = (f || row_behind here hit stop other e) || row_behind here hit stop held e } in r)
        (same_test n test held other)
        ∙ ap (λ x. let r : Found = record { ends = stmt_row hit stop (choice n test held other) e; found = x } in r)
        (swap f (row_behind here hit stop other e) (row_behind here hit stop held e))))

-- ---- the walk over steps knows the same

item_user : (to : CodeUse) (n : ℕ) (act : Act) → is_item_use to n ≡ is_use (plain_use to) (at_item n act)
item_user (uses.Item m) n act = refl
item_user (uses.Test m) n act = refl

test_user : (to : CodeUse) (n : ℕ) → is_test_use to n ≡ is_test (plain_use to) n
test_user (uses.Item m) n = refl
test_user (uses.Test m) n = refl

module _ (from : ℕ) (to : CodeUse) (v : ℕ) (small : v < 256) where
  abbrev question : Question
  question = record { from = from; to = to; var = v }

  abbrev rules : Rules Found
  rules = by_rows from (plain_use to) v

  known_item : (id n : ℕ) (act : Act) (r w : Bool) (s t : Found) → id ≡ n → r ≡ act_reads act v → w ≡ act_writes act v → s ≡ t →
      record { ends = (is_item_use to id && r) || (not w && s.ends); found = s.found || (((id == from) && w) && s.ends) } ≡ rules.item n act t
  known_item id n act r w s t e f g h =
      ap (λ k. let x : Found = record { ends = (is_item_use to k && r) || (not w && s.ends); found = s.found || (((k == from) && w) && s.ends) } in x) e
      ∙ (ap (λ b. let x : Found = record { ends = (b && r) || (not w && s.ends); found = s.found || (((n == from) && w) && s.ends) } in x) (item_user to n act)
      ∙ (ap (λ b. let x : Found = record { ends = (is_use (plain_use to) (at_item n act) && b) || (not w && s.ends); found = s.found || (((n == from) && w) && s.ends) } in x) f
      ∙ (ap (λ b. let x : Found = record { ends = (is_use (plain_use to) (at_item n act) && act_reads act v) || (not b && s.ends); found = s.found || (((n == from) && b) && s.ends) } in x) g
      ∙ ap (λ (y : Found). rules.item n act y) h)))

  known_test : (id n : ℕ) (test : Expr) (r : Bool) (b c d e : Found) → id ≡ n → r ≡ expr_reads test v → b ≡ d → c ≡ e →
      record { ends = (is_test_use to id && r) || (c.ends || b.ends); found = c.found } ≡ rules.join n test d d e
  known_test id n test r b c d e f g h k =
      ap (λ i. let x : Found = record { ends = (is_test_use to i && r) || (c.ends || b.ends); found = c.found } in x) f
      ∙ (ap (λ y. let x : Found = record { ends = (y && r) || (c.ends || b.ends); found = c.found } in x) (test_user to n)
      ∙ (ap (λ y. let x : Found = record { ends = (is_test (plain_use to) n && y) || (c.ends || b.ends); found = c.found } in x) g
      ∙ (ap (λ (y : Found). rules.join n test d y c) h ∙ ap (λ (y : Found). rules.join n test d d y) k)))

  the_same : AreSame (reaching question) rules (λ s t. s ≡ t)
  the_same =
      record {
        item = at_items;
        enter = λ s t h. h;
        again = λ a b c d h g. ap (λ (y : Found). let x : Found = record { ends = y.ends; found = b.found } in x) h ∙ ap (λ (y : Found). let x : Found = record { ends = c.ends; found = y.found } in x) g;
        join = at_tests;
      }
    where
      at_items : (x : Step) (n : ℕ) (act : Act) (s t : Found) → IsStep x (item_place n act) → s ≡ t → (reaching question).item x s ≡ rules.item n act t
      at_items (steps.Item id reads writes event) n act s t h e = known_item id n act (stands_in reads v) (stands_in writes v) s t h.0 (h.1 v small) (h.2 v small) e
      at_items (steps.Open id reads) n act s t h e = absurd h
      at_items steps.Middle n act s t h e = absurd h
      at_items steps.Close n act s t h e = absurd h

      at_tests : (x : Step) (n : ℕ) (test : Expr) (a b c d e f : Found) → IsStep x (opens n test) → a ≡ d → b ≡ e → c ≡ f → (reaching question).join x a b c ≡ rules.join n test d e f
      at_tests (steps.Open id reads) n test a b c d e f h i j k = known_test id n test (stands_in reads v) b c e f h.0 (h.1 v small) j k
      at_tests (steps.Item id reads writes event) n test a b c d e f h i j k = absurd h
      at_tests steps.Middle n test a b c d e f h i j k = absurd h
      at_tests steps.Close n test a b c d e f h i j k = absurd h

  -- what the walk from the end of all steps found
  pub answered : (b : Block) (ss : List Step) (left : ℕ) (all : Found) → AreSteps ss (places b) → IsStart (from_end ss left) →
      Goes (reaching question) (from_end ss (length ss)) (from_end ss left) (record { ends = false; found = false }) all → all.found ≡ reaches b from (plain_use to) v
  answered b ss left all are start goes =
      let p = reaching question in
      let none : Found = record { ends = false; found = false } in
      let w = walked p rules (λ s t. s ≡ t) the_same b ss none none are refl in
      let is : all ≡ record { ends = row (hit from (plain_use to) v) (stop from (plain_use to) v) b false; found = row_behind (here from (plain_use to) v) (hit from (plain_use to) v) (stop from (plain_use to) v) b false } =
      sym (stops p (from_end ss left) all start)
      ∙ (sym (goes.same [])
      ∙ (ap (λ l. run p [] l none) (from_end_all ss)
      ∙ (w.runs [] [] ∙ (w.related ∙ counted from (plain_use to) v b false false))))
      in ap (λ (x : Found). x.found) is ∙ sym (any_behind (here from (plain_use to) v) (hit from (plain_use to) v) (stop from (plain_use to) v) b false)

-- ---- numbers of no variable

sized : (vars : List Var) → AllByRecursion IsDeclared vars → length vars ≡ length (filter_map (λ (v : Var). v.name) vars)
sized [] h = refl
sized (x ∷ xs) h = named x.name h.0.named (sized xs h.1)
  where
    named : (o : Option (List ℕ)) → IsSome o → length xs ≡ length (filter_map (λ (v : Var). v.name) xs) → length (x ∷ xs) ≡ length (cons_option o (filter_map (λ (v : Var). v.name) xs))
    named None g less = absurd (true≢false (sym g))
    named (Some n) g less = omega arith

-- a checked task has at most 256 variables
pub few_variables : (task : Task) → IsSoundTask task → length task.vars ≤ 256
few_variables task sound =
    let same = sized task.vars (recursion_from_All IsDeclared task.vars sound.declarations.variables) in
    let both = length-append (filter_map (λ (v : Var). v.name) task.vars) (task.inputs ++ task.outputs) in
    let most = sound.declarations.most in
    omega arith

-- so none of its items writes a variable of a larger number
pub writes_few : (task : Task) → IsSoundTask task → (n v : ℕ) (act : Act) → In (points task.body) (at_item n act) → act_writes act v ≡ true → v < 256
writes_few task sound n v act there h =
    let names : Names = record { vars = task.vars; inputs = length task.inputs; outputs = length task.outputs } in
    let own = act_own names act v (point_typed names task.body (at_item n act) sound.body.typed there) h in
    let few = few_variables task sound in
    omega arith

pub none_past : (task : Task) → IsSoundTask task → (from : ℕ) (user : Use) (v : ℕ) → 256 ≤ v → false ≡ reaches task.body from user v
none_past task sound from user v past = by_answer (reaches task.body from user v) refl
  where
    by_answer : (b : Bool) → reaches task.body from user v ≡ b → false ≡ b
    by_answer false e = refl
    by_answer true e =
        let met = point_behind (here from user v) (hit from user v) (stop from user v) task.body false (sym (any_behind (here from user v) (hit from user v) (stop from user v) task.body false) ∙ e) in
        absurd (by_point met.0 met.1 met.2)
      where
        by_point : (p : Point) → In (points task.body) p → here from user v p ≡ true → ⊥
        by_point (at_item n act) there h = let small = writes_few task sound n v act there (and_both (n == from) (act_writes act v) h).1 in omega arith
        by_point (at_test n test held other) there h = true≢false (sym h)
