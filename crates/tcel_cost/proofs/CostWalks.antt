-- What a body costs is the cost of its walks: each statement takes the cost of the walks before it to the cost of these and its own.
use Rattle.std.proofs.Common.{◌≡◌, ℕ, zero, suc, ◌+◌, ◌<◌, ◌⊎◌, ◌*◌, List, [], ◌++◌, append-nil, append_assoc, refl, sym, ap, ◌∙◌, subst, arith, Option, Some, None, inl, inr}
use Rattle.tcel_core.specs.declared.var.Var.{Var}
use Rattle.tcel_core.specs.Cells.{width}
use Rattle.tcel_core.specs.Contents.{hold_of}
use Rattle.tcel_core.specs.Language.{Block, done, next, Stmt, item, choice, timed, Act, assign, assign_at, receive, send, for_loop, while_loop, copy}
use Rattle.tcel_core.specs.Scope.{ActIsUntimed, IsUntimed, LoopsAreUntimed, StmtIsUntimed, StmtLoopsAreUntimed}
use Rattle.tcel_target.specs.declared.costs.Costs.{Costs}
use Rattle.tcel_cost.specs.declared.numbers.Cost.{Cost}
use Rattle.tcel_cost.specs.CostSteps.{act_cost, block_cost, either, entered, from_start, greater, held, joined, passed, rounds, shown, stmt_cost}
use Rattle.tcel_cost.specs.Expressions.{expr_cycles}
use Rattle.tcel_cost.specs.Walks.{ActWalks, Counts, Either, IsFirst, IsLast, Passes, Rounds, RoundsUpTo, Shows, StmtWalks, Then, Walks, held_entry, jump_cost}
use Rattle.tcel_cost.proofs.BoundEvents.{untimed_loops}
use Rattle.tcel_cost.proofs.CostLaws.{IsCheaper, counted, counted_more, counted_none, cheaper, either_joined, entered_joined, joined_assoc, passed_as_joined, passed_joined, rounds_counted, same_cost, shown_joined, test_passed}
use Rattle.tcel_cost.proofs.CostSets.{IsCostOf, Moves, either_cost, moved, moved_cost, not_empty, same_walks, shown_cost}
use Rattle.tcel_cost.proofs.SteadyWalks.{held_rises}

-- the walks before and then these have the cost that a step makes of the cost before
pub IsStep : Counts → (Cost → Cost) → Type 1
IsStep walks step = (before : Counts) (entry : ℕ) (c : Cost) → IsCostOf before entry c → IsCostOf (Then before walks) entry (step c)

pub same_step : (walks : Counts) (f g : Cost → Cost) → ((c : Cost) → f c ≡ g c) → IsStep walks f → IsStep walks g
unfolding IsStep
same_step walks f g e h before entry c of = subst (IsCostOf (Then before walks) entry) (e c) (h before entry c of)

-- so many cycles
pub passes_step : (cycles : ℕ) → IsStep (Passes cycles) (passed cycles)
unfolding IsStep
passes_step cycles before entry c of =
    subst (IsCostOf (Then before (Passes cycles)) entry) (same_cost (moved (λ n. n + cycles) c) (passed cycles c) (omega arith) refl refl (same c.quiet))
    (moved_cost before entry (λ n. n + cycles) (λ n m l. omega arith) c of)
  where
    same : (o : Option ℕ) → (moved (λ n. n + cycles) (record { total = 0; first = None; last = None; quiet = o })).quiet ≡ from_start cycles o
    same None = refl
    same (Some n) = let e : n + cycles ≡ cycles + n = omega arith in ap Some e

-- nothing
pub none_step : (walks : Counts) → ((entry end : ℕ) (events : List ℕ) → walks entry end events → (end ≡ entry) × (events ≡ [])) →
    ((entry : ℕ) → walks entry entry []) → IsStep walks (λ c. c)
unfolding IsStep
none_step walks nothing there before entry c of =
    same_walks before (Then before walks) entry c
    (λ end events w. record { middle = end; before = events; after = []; one = w; two = there end; joined = sym (append-nil events) })
    (λ end events w.
    let none = nothing w.middle end w.after w.two in
    let same : w.before ≡ events = sym (w.joined ∙ ap (λ l. w.before ++ l) none.1 ∙ append-nil w.before) in
    subst (λ l. before entry end l) same (subst (λ n. before entry n w.before) (sym none.0) w.one))
    of

-- so many cycles, with an event
shows_step : (cycles : ℕ) → IsStep (Shows cycles) (shown cycles)
unfolding IsStep
shows_step cycles before entry c of =
    let e : c.total + cycles ≡ cycles + c.total = omega arith in
    subst (IsCostOf (Then before (Shows cycles)) entry)
    (same_cost _ (shown cycles c) e (ap (greater c.first) (same c.quiet)) (ap Some e) refl)
    (shown_cost before entry cycles c of)
  where
    same : (o : Option ℕ) → (moved (λ n. n + cycles) (record { total = 0; first = None; last = None; quiet = o })).quiet ≡ from_start cycles o
    same None = refl
    same (Some n) = let e : n + cycles ≡ cycles + n = omega arith in ap Some e

-- one walk and then another
then_step : (first second : Counts) (f g : Cost → Cost) → IsStep first f → IsStep second g → IsStep (Then first second) (λ c. g (f c))
unfolding IsStep
then_step first second f g h k before entry c of =
    same_walks (Then (Then before first) second) (Then before (Then first second)) entry (g (f c))
    (λ end events w. record {
      middle = w.one.middle;
      before = w.one.before;
      after = w.one.after ++ w.after;
      one = w.one.one;
      two = record { middle = w.middle; before = w.one.after; after = w.after; one = w.one.two; two = w.two; joined = refl };
      joined = w.joined ∙ ap (λ l. l ++ w.after) w.one.joined ∙ append_assoc w.one.before w.one.after w.after;
    })
    (λ end events w. record {
      middle = w.two.middle;
      before = w.before ++ w.two.before;
      after = w.two.after;
      one = record { middle = w.middle; before = w.before; after = w.two.before; one = w.one; two = w.two.one; joined = refl };
      two = w.two.two;
      joined = w.joined ∙ ap (λ l. w.before ++ l) w.two.joined ∙ sym (append_assoc w.before w.two.before w.two.after);
    })
    (k (Then before first) entry (f c) (h before entry c of))

-- one of two walks
either_step : (first second : Counts) (f g : Cost → Cost) → IsStep first f → IsStep second g → IsStep (Either first second) (λ c. either (f c) (g c))
unfolding IsStep
either_step first second f g h k before entry c of =
    either_cost (Then before first) (Then before second) (Then before (Either first second)) entry (f c) (g c)
    (λ end events w. elim w as (λ _. Then before (Either first second) entry end events) [
      | inl one ↦ record { middle = one.middle; before = one.before; after = one.after; one = one.one; two = inl one.two; joined = one.joined }
      | inr two ↦ record { middle = two.middle; before = two.before; after = two.after; one = two.one; two = inr two.two; joined = two.joined }
    ])
    (λ end events w. elim w.two as (λ _. Then before first entry end events ⊎ Then before second entry end events) [
      | inl one ↦ inl (record { middle = w.middle; before = w.before; after = w.after; one = w.one; two = one; joined = w.joined })
      | inr two ↦ inr (record { middle = w.middle; before = w.before; after = w.after; one = w.one; two = two; joined = w.joined })
    ])
    (h before entry c of) (k before entry c of)

-- the same walks from each entry
like_step : (a b : Counts) (f : Cost → Cost) → ((entry end : ℕ) (events : List ℕ) → a entry end events → b entry end events) →
    ((entry end : ℕ) (events : List ℕ) → b entry end events → a entry end events) → IsStep a f → IsStep b f
unfolding IsStep
like_step a b f to from h before entry c of =
    same_walks (Then before a) (Then before b) entry (f c)
    (λ end events w. record { middle = w.middle; before = w.before; after = w.after; one = w.one; two = to w.middle end w.after w.two; joined = w.joined })
    (λ end events w. record { middle = w.middle; before = w.before; after = w.after; one = w.one; two = from w.middle end w.after w.two; joined = w.joined })
    (h before entry c of)

-- behind a hold
held_step : (hold : Option ℕ) (walks : Counts) (f : Cost → Cost) → IsStep walks f → IsStep (λ entry. walks (held_entry hold entry)) (λ c. f (held hold c))
unfolding IsStep
held_step hold walks f h before entry c of =
    let waits = Moves (held_entry hold) in
    same_walks (Then (Then before waits) walks) (Then before (λ from. walks (held_entry hold from))) entry (f (held hold c))
    (λ end events w. record {
      middle = w.one.middle;
      before = w.one.before;
      after = w.after;
      one = w.one.one;
      two = subst (λ n. walks n end w.after) w.one.two.0 w.two;
      joined = w.joined ∙ ap (λ l. l ++ w.after) (w.one.joined ∙ ap (λ l. w.one.before ++ l) w.one.two.1 ∙ append-nil w.one.before);
    })
    (λ end events w. record {
      middle = held_entry hold w.middle;
      before = w.before;
      after = w.after;
      one = record { middle = w.middle; before = w.before; after = []; one = w.one; two = (refl, refl); joined = sym (append-nil w.before) };
      two = w.two;
      joined = w.joined;
    })
    (h (Then before waits) entry (held hold c)
    (subst (IsCostOf (Then before waits) entry) (same_cost (moved (held_entry hold) c) (held hold c) refl refl refl (same c.quiet))
    (moved_cost before entry (held_entry hold) (λ n m l. held_rises hold n m l) c of)))
  where
    same : (o : Option ℕ) → (moved (held_entry hold) (record { total = 0; first = None; last = None; quiet = o })).quiet
        ≡ (held hold (record { total = 0; first = None; last = None; quiet = o })).quiet
    same None = refl
    same (Some n) = refl

-- ---- rounds, of which each adds the same

-- a step adds its own behind any cost
abbrev pub Adds : (Cost → Cost) → Cost → Type 0
Adds f own = (c : Cost) → f c ≡ joined c own

module _ (round : Counts) (f : Cost → Cost) (own : Cost) (step : IsStep round f) (adds : Adds f own) where
  pub rounds_step : (n : ℕ) → IsStep (Rounds (suc n) round) (λ c. joined c (counted n own))
  rounds_step zero =
      same_step (Rounds 1 round) (λ c. f c) (λ c. joined c (counted 0 own)) (λ c. adds c ∙ ap (joined c) (sym (counted_none own)))
      (then_step round (Rounds 0 round) f (λ c. c) step (none_step (Rounds 0 round) (λ entry end events w. (w.0 ∙ omega arith, w.1)) (λ entry. (omega arith, refl))))
  rounds_step (suc n) =
      let e : n + 1 ≡ suc n = omega arith in
      same_step (Rounds (suc (suc n)) round) (λ c. joined (f c) (counted n own)) (λ c. joined c (counted (suc n) own))
      (λ c. ap (λ d. joined d (counted n own)) (adds c) ∙ joined_assoc c own (counted n own) ∙ ap (joined c) (counted_more n own ∙ ap (λ m. counted m own) e))
      (then_step round (Rounds (suc n) round) f (λ c. joined c (counted n own)) step (rounds_step n))

  module _ (k : ℕ) (cheap : IsCheaper k own) where
    abbrev Tested : ℕ → Counts
    Tested n = RoundsUpTo n round (Passes k)

    -- no round and a last test, or a round and then what is left
    abbrev Opened : ℕ → Counts
    Opened n = Either (Passes k) (Then round (Tested n))

    opened_few : (m n entry end : ℕ) (events : List ℕ) → m < suc n → Then (Rounds m round) (Passes k) entry end events → Opened n entry end events
    opened_few zero n entry end events less w =
        let at : w.middle ≡ entry = w.one.0 ∙ omega arith in
        let same : events ≡ [] = w.joined ∙ ap (λ l. l ++ w.after) w.one.1 ∙ w.two.1 in
        inl (w.two.0 ∙ ap (λ m. m + k) at, same)
    opened_few (suc m) n entry end events less w =
        let fewer : m < n = omega arith in
        inr (record {
          middle = w.one.middle;
          before = w.one.before;
          after = w.one.after ++ w.after;
          one = w.one.one;
          two = inl (m, fewer, record { middle = w.middle; before = w.one.after; after = w.after; one = w.one.two; two = w.two; joined = refl });
          joined = w.joined ∙ ap (λ l. l ++ w.after) w.one.joined ∙ append_assoc w.one.before w.one.after w.after;
        })

    opened : (n entry end : ℕ) (events : List ℕ) → Tested (suc n) entry end events → Opened n entry end events
    opened n entry end events (inl few) = opened_few few.0 n entry end events few.1 few.2
    opened n entry end events (inr all) =
        inr (record { middle = all.middle; before = all.before; after = all.after; one = all.one; two = inr all.two; joined = all.joined })

    rejoined : (n entry end : ℕ) (events : List ℕ) (middle : ℕ) (before after : List ℕ) → round entry middle before → events ≡ before ++ after →
        Tested n middle end after → Tested (suc n) entry end events
    rejoined n entry end events middle before after one joined (inr all) =
        inr (record { middle = middle; before = before; after = after; one = one; two = all; joined = joined })
    rejoined n entry end events middle before after one joined (inl few) =
        let w = few.2 in
        let less : suc few.0 < suc n = (let l = few.1 in omega arith) in
        inl (
          suc few.0,
          less,
          record {
            middle = w.middle;
            before = before ++ w.before;
            after = w.after;
            one = record { middle = middle; before = before; after = w.before; one = one; two = w.one; joined = refl };
            two = w.two;
            joined = joined ∙ ap (λ l. before ++ l) w.joined ∙ sym (append_assoc before w.before w.after);
          },
        )

    closed : (n entry end : ℕ) (events : List ℕ) → Opened n entry end events → Tested (suc n) entry end events
    closed n entry end events (inl w) =
        let none : entry ≡ entry + 0 = omega arith in
        inl (0, omega arith, record { middle = entry; before = []; after = events; one = (none, refl); two = w; joined = refl })
    closed n entry end events (inr w) = rejoined n entry end events w.middle w.before w.after w.one w.joined w.two

    -- the closed form
    abbrev ahead : ℕ → Cost → Cost
    ahead n c = either (passed k c) (joined c (counted n own))

    ahead_more : (n : ℕ) (c : Cost) → either (passed k c) (ahead n (f c)) ≡ ahead (suc n) c
    ahead_more n c =
        let e : n + 1 ≡ suc n = omega arith in
        let test = passed_as_joined k c in
        let inner : ahead n (f c) ≡ joined c (either (passed k own) (counted (n + 1) own)) =
        ap (ahead n) (adds c)
        ∙ ap (λ x. either x (joined (joined c own) (counted n own))) (passed_joined k c own)
        ∙ ap (either (joined c (passed k own))) (joined_assoc c own (counted n own) ∙ ap (joined c) (counted_more n own))
        ∙ either_joined c (passed k own) (counted (n + 1) own)
        in
        ap (either (passed k c)) inner
        ∙ ap (λ x. either x (joined c (either (passed k own) (counted (n + 1) own)))) test
        ∙ either_joined c (entered k) (either (passed k own) (counted (n + 1) own))
        ∙ ap (joined c) (test_passed n k own cheap)
        ∙ sym (either_joined c (entered k) (counted (n + 1) own))
        ∙ ap (λ x. either x (joined c (counted (n + 1) own))) (sym test)
        ∙ ap (λ m. either (passed k c) (joined c (counted m own))) e

    none_left : IsStep (Tested 0) (λ c. c)
    none_left = none_step (Tested 0) nothing (λ entry. inr (omega arith, refl))
      where
        nothing : (entry end : ℕ) (events : List ℕ) → Tested 0 entry end events → (end ≡ entry) × (events ≡ [])
        nothing entry end events (inl few) = absurd (let l = few.1 in omega arith)
        nothing entry end events (inr all) = (all.0 ∙ omega arith, all.1)

    pub tested_step : (n : ℕ) → IsStep (Tested (suc n)) (ahead n)
    tested_step zero =
        like_step (Opened 0) (Tested 1) (ahead 0) (closed 0) (opened 0)
        (same_step (Opened 0) (λ c. either (passed k c) (f c)) (ahead 0) (λ c. ap (either (passed k c)) (adds c ∙ ap (joined c) (sym (counted_none own))))
        (either_step (Passes k) (Then round (Tested 0)) (passed k) f (passes_step k) (then_step round (Tested 0) f (λ c. c) step none_left)))
    tested_step (suc n) =
        like_step (Opened (suc n)) (Tested (suc (suc n))) (ahead (suc n)) (closed (suc n)) (opened (suc n))
        (same_step (Opened (suc n)) (λ c. either (passed k c) (ahead n (f c))) (ahead (suc n)) (ahead_more n)
        (either_step (Passes k) (Then round (Tested (suc n))) (passed k) (λ c. ahead n (f c)) (passes_step k)
        (then_step round (Tested (suc n)) f (ahead n) step (tested_step n))))

-- ---- statements

-- behind any cost a step adds as much
abbrev Carries : (Cost → Cost) → Type 0
Carries f = (c r : Cost) → f (joined c r) ≡ joined c (f r)

carries_both : (f g : Cost → Cost) → Carries f → Carries g → Carries (λ c. g (f c))
carries_both f g h k c r = ap g (h c r) ∙ k c (f r)

carries_either : (f g : Cost → Cost) → Carries f → Carries g → Carries (λ c. either (f c) (g c))
carries_either f g h k c r = ap (λ x. either x (g (joined c r))) (h c r) ∙ ap (either (joined c (f r))) (k c r) ∙ either_joined c (f r) (g r)

carries_joined : (f : Cost → Cost) (own : Cost) → Carries f → Carries (λ c. joined (f c) own)
carries_joined f own h c r = ap (λ x. joined x own) (h c r) ∙ joined_assoc c (f r) own

passed_carries : (k : ℕ) → Carries (passed k)
passed_carries k c r = passed_joined k c r

-- so do all statements without a `do` block
mutual
  block_carries : (b : Block) (vars : List Var) (costs : Costs) → IsUntimed b → Carries (block_cost b vars costs)
  block_carries done vars costs h c r = refl
  block_carries (next s rest) vars costs h c r =
      carries_both (stmt_cost s vars costs) (block_cost rest vars costs) (stmt_carries s vars costs h.0) (block_carries rest vars costs h.1) c r

  stmt_carries : (s : Stmt) (vars : List Var) (costs : Costs) → StmtIsUntimed s → Carries (stmt_cost s vars costs)
  stmt_carries (item id act) vars costs h c r = act_carries act vars costs c r
  stmt_carries (choice id test taken other) vars costs h c r =
      let tested = expr_cycles costs test + costs.branch in
      let jump = jump_cost costs other in
      carries_both (passed tested) (λ d. either (passed jump (block_cost taken vars costs d)) (block_cost other vars costs d)) (passed_carries tested)
      (carries_either (λ d. passed jump (block_cost taken vars costs d)) (block_cost other vars costs)
      (carries_both (block_cost taken vars costs) (passed jump) (block_carries taken vars costs h.0) (passed_carries jump)) (block_carries other vars costs h.1))
      c r
  stmt_carries (timed id window body) vars costs h c r = absurd h

  act_carries : (act : Act) (vars : List Var) (costs : Costs) → Carries (act_cost act vars costs)
  act_carries (assign v e) vars costs c r = passed_joined (expr_cycles costs e + costs.store) c r
  act_carries (assign_at v i e) vars costs c r = passed_joined (expr_cycles costs i + expr_cycles costs e + costs.store_at) c r
  act_carries (receive v port) vars costs c r = shown_joined costs.receive c r
  act_carries (send e port) vars costs c r = shown_joined (expr_cycles costs e + costs.send) c r
  act_carries (copy a b) vars costs c r = passed_joined (width vars a * (costs.load + costs.store)) c r
  act_carries (for_loop v turns body) vars costs c r =
      carries_joined (passed (costs.const_ + costs.store)) (rounds turns (passed costs.loop_ (block_cost body vars costs (entered (costs.load + costs.store)))))
      (passed_carries (costs.const_ + costs.store)) c r
  act_carries (while_loop test turns body) vars costs c r =
      let tested = expr_cycles costs test + costs.branch in
      let begun = passed (costs.const_ + costs.store) in
      let all = rounds turns (passed costs.loop_ (block_cost body vars costs (entered tested))) in
      carries_either (λ d. passed tested (begun d)) (λ d. joined (begun d) all)
      (carries_both begun (passed tested) (passed_carries (costs.const_ + costs.store)) (passed_carries tested))
      (carries_joined begun all (passed_carries (costs.const_ + costs.store))) c r

-- each loop has a turn
abbrev mutual
  pub LoopsTurn : Block → Type 0
  LoopsTurn done = Unit {0}
  LoopsTurn (next s rest) = StmtLoopsTurn s × LoopsTurn rest

  pub StmtLoopsTurn : Stmt → Type 0
  StmtLoopsTurn (item id act) = ActLoopsTurn act
  StmtLoopsTurn (choice id test taken other) = LoopsTurn taken × LoopsTurn other
  StmtLoopsTurn (timed id window body) = LoopsTurn body

  pub ActLoopsTurn : Act → Type 0
  ActLoopsTurn (for_loop v turns body) = (0 < turns) × LoopsTurn body
  ActLoopsTurn (while_loop test turns body) = (0 < turns) × LoopsTurn body
  ActLoopsTurn _ = Unit {0}

-- a round of so many cycles, a body, and the loop's instruction
module _ (body : Block) (vars : List Var) (costs : Costs) (untimed : IsUntimed body) (k : ℕ) (step : IsStep (Walks body vars costs) (block_cost body vars costs)) where
  abbrev Round : Counts
  Round = Then (Passes k) (Then (Walks body vars costs) (Passes costs.loop_))

  abbrev round : Cost → Cost
  round c = passed costs.loop_ (block_cost body vars costs (passed k c))

  abbrev own : Cost
  own = passed costs.loop_ (block_cost body vars costs (entered k))

  round_step : IsStep Round round
  round_step =
      then_step (Passes k) (Then (Walks body vars costs) (Passes costs.loop_)) (passed k) (λ c. passed costs.loop_ (block_cost body vars costs c)) (passes_step k)
      (then_step (Walks body vars costs) (Passes costs.loop_) (block_cost body vars costs) (passed costs.loop_) step (passes_step costs.loop_))

  round_adds : Adds round own
  round_adds c =
      ap (λ d. passed costs.loop_ (block_cost body vars costs d)) (passed_as_joined k c)
      ∙ ap (passed costs.loop_) (block_carries body vars costs untimed c (entered k))
      ∙ passed_joined costs.loop_ c (block_cost body vars costs (entered k))

  -- its test alone is cheaper
  round_dearer : IsCheaper k own
  round_dearer =
      let start : entered k ≡ joined (entered k) (entered 0) = sym (entered_joined (entered k)) in
      let split : block_cost body vars costs (entered k) ≡ joined (entered k) (block_cost body vars costs (entered 0)) =
      ap (block_cost body vars costs) start ∙ block_carries body vars costs untimed (entered k) (entered 0)
      in
      subst (λ c. IsCheaper k (passed costs.loop_ c)) (sym split) (cheaper k costs.loop_ (block_cost body vars costs (entered 0)))

  for_rounds : (turns : ℕ) → 0 < turns → IsStep (Rounds turns Round) (λ c. joined c (rounds turns own))
  for_rounds zero some = absurd (omega arith)
  for_rounds (suc n) some =
      let e : n + 1 ≡ suc n = omega arith in
      same_step (Rounds (suc n) Round) (λ c. joined c (counted n own)) (λ c. joined c (rounds (suc n) own))
      (λ c. ap (joined c) (sym (rounds_counted n own) ∙ ap (λ m. rounds m own) e))
      (rounds_step Round round own round_step round_adds n)

  while_rounds : (turns : ℕ) → 0 < turns → IsStep (RoundsUpTo turns Round (Passes k)) (λ c. either (passed k c) (joined c (rounds turns own)))
  while_rounds zero some = absurd (omega arith)
  while_rounds (suc n) some =
      let e : n + 1 ≡ suc n = omega arith in
      same_step (RoundsUpTo (suc n) Round (Passes k)) (λ c. either (passed k c) (joined c (counted n own))) (λ c. either (passed k c) (joined c (rounds (suc n) own)))
      (λ c. ap (λ x. either (passed k c) (joined c x)) (sym (rounds_counted n own) ∙ ap (λ m. rounds m own) e))
      (tested_step Round round own round_step round_adds k round_dearer n)

mutual
  pub block_step : (b : Block) (vars : List Var) (costs : Costs) → LoopsAreUntimed b → LoopsTurn b → IsStep (Walks b vars costs) (block_cost b vars costs)
  block_step done vars costs h g =
      none_step (Passes 0) (λ entry end events w. (w.0 ∙ omega arith, w.1)) (λ entry. (omega arith, refl))
  block_step (next s rest) vars costs h g =
      then_step (StmtWalks s vars costs) (Walks rest vars costs) (stmt_cost s vars costs) (block_cost rest vars costs)
      (stmt_step s vars costs h.0 g.0) (block_step rest vars costs h.1 g.1)

  pub stmt_step : (s : Stmt) (vars : List Var) (costs : Costs) → StmtLoopsAreUntimed s → StmtLoopsTurn s → IsStep (StmtWalks s vars costs) (stmt_cost s vars costs)
  stmt_step (item id act) vars costs h g = act_step act vars costs h g
  stmt_step (choice id test taken other) vars costs h g =
      let tested = expr_cycles costs test + costs.branch in
      let jump = jump_cost costs other in
      let jumping = Then (Walks taken vars costs) (Passes jump) in
      then_step (Passes tested) (Either jumping (Walks other vars costs)) (passed tested)
      (λ d. either (passed jump (block_cost taken vars costs d)) (block_cost other vars costs d)) (passes_step tested)
      (either_step jumping (Walks other vars costs) (λ d. passed jump (block_cost taken vars costs d)) (block_cost other vars costs)
      (then_step (Walks taken vars costs) (Passes jump) (block_cost taken vars costs) (passed jump) (block_step taken vars costs h.0 g.0) (passes_step jump))
      (block_step other vars costs h.1 g.1))
  stmt_step (timed id window body) vars costs h g =
      held_step (hold_of window body) (Walks body vars costs) (block_cost body vars costs) (block_step body vars costs h g)

  act_step : (act : Act) (vars : List Var) (costs : Costs) → ActIsUntimed act → ActLoopsTurn act → IsStep (ActWalks act vars costs) (act_cost act vars costs)
  act_step (assign v e) vars costs h g = passes_step _
  act_step (assign_at v i e) vars costs h g = passes_step _
  act_step (receive v port) vars costs h g = shows_step _
  act_step (send e port) vars costs h g = shows_step _
  act_step (copy a b) vars costs h g = passes_step _
  act_step (for_loop v turns body) vars costs h g =
      let k = costs.load + costs.store in
      let begun = costs.const_ + costs.store in
      then_step (Passes begun) (Rounds turns (Round body vars costs h k (block_step body vars costs (untimed_loops body h) g.1))) (passed begun)
      (λ c. joined c (rounds turns (passed costs.loop_ (block_cost body vars costs (entered k))))) (passes_step begun)
      (for_rounds body vars costs h k (block_step body vars costs (untimed_loops body h) g.1) turns g.0)
  act_step (while_loop test turns body) vars costs h g =
      let k = expr_cycles costs test + costs.branch in
      let begun = costs.const_ + costs.store in
      then_step (Passes begun) (RoundsUpTo turns (Round body vars costs h k (block_step body vars costs (untimed_loops body h) g.1)) (Passes k)) (passed begun)
      (λ c. either (passed k c) (joined c (rounds turns (passed costs.loop_ (block_cost body vars costs (entered k)))))) (passes_step begun)
      (while_rounds body vars costs h k (block_step body vars costs (untimed_loops body h) g.1) turns g.0)

-- ---- from an entry count

-- what was walked before an entry: nothing
at : ℕ → Counts
at n entry end events = (end ≡ n) × (events ≡ [])

entered_cost : (n : ℕ) → IsCostOf (at n) n (entered n)
unfolding at
entered_cost n = record {
  total = record { there = ([], (refl, refl)); greatest = λ m w. let e = w.1.0 in omega arith };
  first = λ m w. not_first m w.1 (w.2.1) w.3;
  last = λ m w. not_last m w.1 (w.2.1) w.3;
  quiet = record { there = (refl, refl); greatest = λ m w. let e = w.0 in omega arith };
}
  where
    not_first : (m : ℕ) (events : List ℕ) → events ≡ [] → IsFirst events m → ⊥
    not_first m events e h = let other = h.1 in absurd cc

    not_last : (m : ℕ) (events : List ℕ) → events ≡ [] → IsLast events m → ⊥
    not_last m events e h = not_empty h.0 m (sym e ∙ h.1)

-- the cost of walks from there
pub cost_from : (walks : Counts) (f : Cost → Cost) → IsStep walks f → (n : ℕ) → IsCostOf walks n (f (entered n))
unfolding IsStep at
cost_from walks f h n =
    same_walks (Then (at n) walks) walks n (f (entered n))
    (λ end events w.
    let none : w.after ≡ events = sym (w.joined ∙ ap (λ l. l ++ w.after) w.one.1) in
    subst (λ l. walks n end l) none (subst (λ m. walks m end w.after) w.one.0 w.two))
    (λ end events w. record { middle = n; before = []; after = events; one = (refl, refl); two = w; joined = refl })
    (h (at n) n (entered n) (entered_cost n))
