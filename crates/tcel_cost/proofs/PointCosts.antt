-- The points that are found by costs are those of a body, and they are sound.
use Rattle.std.proofs.Common.{◌≡◌, ◌⊎◌, ℕ, zero, suc, ◌+◌, ◌≤◌, ◌<◌, Bool, true, false, max, List, [], ◌∷◌, ◌++◌, append_assoc, if◌then◌else◌, All, refl, ap, ◌∙◌, subst, arith, Option, Some, None, inl, inr}
use Rattle.std.specs.Prelude.{IfSome, MatchBool}
use Rattle.std.proofs.lemmas.List.Elements.{All-append, All-cons, All-nil, All-weaker}
use Rattle.tcel_num.specs.Plan.{Point, PointName, before, within}
use Rattle.tcel_core.specs.declared.var.Var.{Var}
use Rattle.tcel_core.specs.Contents.{act_has_event, has_event, hold_of, stmt_has_event}
use Rattle.tcel_core.specs.Language.{Window, Block, done, next, Stmt, item, choice, timed, Act, assign, assign_at, receive, send, for_loop, while_loop, copy}
use Rattle.tcel_core.specs.Limits.{IsBounded, IsTime}
use Rattle.tcel_core.specs.Scope.{ActIsUntimed, IsUntimed, LoopsAreUntimed, StmtLoopsAreUntimed}
use Rattle.tcel_demand.specs.Sound.{IsSoundPoint}
use Rattle.tcel_target.specs.declared.costs.Costs.{Costs}
use Rattle.tcel_cost.specs.declared.numbers.Cost.{Cost}
use Rattle.tcel_cost.specs.CostSteps.{act_cost, block_cost, both, either, entered, from_start, greater, joined, passed, rounds, stmt_cost, where_some}
use Rattle.tcel_cost.specs.Expressions.{expr_cycles}
use Rattle.tcel_cost.specs.PointSteps.{block_points, own_points, point_at, stmt_points}
use Rattle.tcel_cost.specs.Plans.{AreBlockPoints, ArePoints, AreStmtPoints, IsPointFor}
use Rattle.tcel_cost.specs.Walks.{ActWalks, Counts, Either, FirstAt, IsFirst, IsGreatestIfAny, IsLast, LastAt, Passes, Rounds, RoundsUpTo, StmtWalks, Then, Walks, held_entry, jump_cost}
use Rattle.tcel_cost.proofs.BoundEvents.{untimed_loops}
use Rattle.tcel_cost.proofs.CostLaws.{both_none, where_none}
use Rattle.tcel_cost.proofs.CostTotals.{EventsTakeTime, block_ordered, block_rises, block_total, entered_ordered, stmt_total}
use Rattle.tcel_cost.proofs.CostWalks.{ActLoopsTurn, LoopsTurn, StmtLoopsTurn, block_step, cost_from, stmt_step}

-- ---- where there is no event, no number speaks of one

record IsSilent (c : Cost) : Type 0 where
  first : c.first ≡ None
  last : c.last ≡ None

passed_silent : (k : ℕ) (c : Cost) → IsSilent c → IsSilent (passed k c)
passed_silent k c h = record { first = h.first; last = h.last }

either_silent : (c d : Cost) → IsSilent c → IsSilent d → IsSilent (either c d)
either_silent c d h g = record {
  first = ap (λ x. greater x d.first) h.first ∙ g.first;
  last = ap (λ x. greater x d.last) h.last ∙ g.last;
}

joined_silent : (c r : Cost) → IsSilent c → IsSilent r → IsSilent (joined c r)
joined_silent c r h g = record {
  first = ap (λ x. greater x (both c.quiet r.first)) h.first ∙ ap (both c.quiet) g.first ∙ both_none c.quiet;
  last = ap (λ x. greater (from_start c.total x) (where_some r.quiet c.last)) g.last ∙ ap (where_some r.quiet) h.last ∙ where_none r.quiet;
}

rounds_silent : (n : ℕ) (r : Cost) → IsSilent r → IsSilent (rounds n r)
rounds_silent n r h = record { first = ap (from_start _) h.first; last = ap (from_start _) h.last }

-- of two tests none holds
neither : (a b : Bool) → (if a then true else b) ≡ false → (a ≡ false) × (b ≡ false)
neither true b e = absurd cc
neither false b e = (refl, e)

mutual
  block_silent : (b : Block) (vars : List Var) (costs : Costs) → has_event b ≡ false → (c : Cost) → IsSilent c → IsSilent (block_cost b vars costs c)
  block_silent done vars costs e c h = h
  block_silent (next s rest) vars costs e c h =
      let none = neither (stmt_has_event s) (has_event rest) e in
      block_silent rest vars costs none.1 (stmt_cost s vars costs c) (stmt_silent s vars costs none.0 c h)

  stmt_silent : (s : Stmt) (vars : List Var) (costs : Costs) → stmt_has_event s ≡ false → (c : Cost) → IsSilent c → IsSilent (stmt_cost s vars costs c)
  stmt_silent (item id act) vars costs e c h = act_silent act vars costs e c h
  stmt_silent (choice id test taken other) vars costs e c h =
      let none = neither (has_event taken) (has_event other) e in
      let k = expr_cycles costs test + costs.branch in
      let inner = passed_silent k c h in
      either_silent (passed (jump_cost costs other) (block_cost taken vars costs (passed k c))) (block_cost other vars costs (passed k c))
      (passed_silent (jump_cost costs other) (block_cost taken vars costs (passed k c)) (block_silent taken vars costs none.0 (passed k c) inner))
      (block_silent other vars costs none.1 (passed k c) inner)
  stmt_silent (timed id window body) vars costs e c h = block_silent body vars costs e _ (record { first = h.first; last = h.last })

  act_silent : (act : Act) (vars : List Var) (costs : Costs) → act_has_event act ≡ false → (c : Cost) → IsSilent c → IsSilent (act_cost act vars costs c)
  act_silent (assign v x) vars costs e c h = record { first = h.first; last = h.last }
  act_silent (assign_at v i x) vars costs e c h = record { first = h.first; last = h.last }
  act_silent (receive v port) vars costs e c h = absurd cc
  act_silent (send x port) vars costs e c h = absurd cc
  act_silent (copy a b) vars costs e c h = record { first = h.first; last = h.last }
  act_silent (for_loop v turns body) vars costs e c h =
      joined_silent _ _ (passed_silent (costs.const_ + costs.store) c h) (rounds_silent turns _ (passed_silent costs.loop_ _ (block_silent body vars costs e (entered (costs.load + costs.store)) (record { first = refl; last = refl }))))
  act_silent (while_loop test turns body) vars costs e c h =
      let k = expr_cycles costs test + costs.branch in
      let begun = passed_silent (costs.const_ + costs.store) c h in
      either_silent _ _ (passed_silent k _ begun) (joined_silent _ _ begun (rounds_silent turns _ (passed_silent costs.loop_ _ (block_silent body vars costs e (entered k) (record { first = refl; last = refl })))))

-- ---- where there is one, some walk has one

abbrev IsSome : List ℕ → Type 0
IsSome [] = ⊥
IsSome (x ∷ xs) = Unit {0}

some_front : (a b : List ℕ) → IsSome a → IsSome (a ++ b)
some_front [] b h = absurd h
some_front (x ∷ a) b h = tt

some_behind : (a b : List ℕ) → IsSome b → IsSome (a ++ b)
some_behind [] b h = h
some_behind (x ∷ a) b h = tt

-- a walk from an entry, and one with an event
abbrev Walk : Counts → ℕ → Type 0
Walk walks entry = (end : ℕ) × (events : List ℕ) × walks entry end events

abbrev EventWalk : Counts → ℕ → Type 0
EventWalk walks entry = (end : ℕ) × (events : List ℕ) × walks entry end events × IsSome events

event_first : (first second : Counts) (entry : ℕ) → EventWalk first entry → ((middle : ℕ) → Walk second middle) → EventWalk (Then first second) entry
event_first first second entry h all =
    let after = all h.0 in (
      after.0,
      h.1 ++ after.1,
      record { middle = h.0; before = h.1; after = after.1; one = h.2; two = after.2; joined = refl },
      some_front h.1 after.1 h.3,
    )

event_behind : (first second : Counts) (entry : ℕ) → Walk first entry → ((middle : ℕ) → EventWalk second middle) → EventWalk (Then first second) entry
event_behind first second entry h all =
    let after = all h.0 in (
      after.0,
      h.1 ++ after.1,
      record { middle = h.0; before = h.1; after = after.1; one = h.2; two = after.2; joined = refl },
      some_behind h.1 after.1 after.3,
    )

walk_both : (first second : Counts) (entry : ℕ) → Walk first entry → ((middle : ℕ) → Walk second middle) → Walk (Then first second) entry
walk_both first second entry h all =
    let after = all h.0 in
    (after.0, h.1 ++ after.1, record { middle = h.0; before = h.1; after = after.1; one = h.2; two = after.2; joined = refl })

walk_pass : (k entry : ℕ) → Walk (Passes k) entry
walk_pass k entry = (entry + k, [], (refl, refl))

walk_rounds : (round : Counts) → ((entry : ℕ) → Walk round entry) → (n entry : ℕ) → Walk (Rounds n round) entry
walk_rounds round h zero entry = walk_pass 0 entry
walk_rounds round h (suc n) entry = walk_both round (Rounds n round) entry (h entry) (walk_rounds round h n)

event_rounds : (round : Counts) → ((entry : ℕ) → Walk round entry) → ((entry : ℕ) → EventWalk round entry) → (n entry : ℕ) → 0 < n → EventWalk (Rounds n round) entry
event_rounds round h g zero entry some = absurd (omega arith)
event_rounds round h g (suc n) entry some = event_first round (Rounds n round) entry (g entry) (walk_rounds round h n)

-- one of two tests holds
one_of : (a b : Bool) → (if a then true else b) ≡ true → (a ≡ true) ⊎ (b ≡ true)
one_of true b e = inl refl
one_of false b e = inr e

left_of : (a b : Counts) (entry : ℕ) → EventWalk a entry → EventWalk (Either a b) entry
left_of a b entry h = (h.0, h.1, inl h.2, h.3)

right_of : (a b : Counts) (entry : ℕ) → EventWalk b entry → EventWalk (Either a b) entry
right_of a b entry h = (h.0, h.1, inr h.2, h.3)

module _ (vars : List Var) (costs : Costs) where
  some_walk : (b : Block) → LoopsAreUntimed b → LoopsTurn b → (entry : ℕ) → Walk (Walks b vars costs) entry
  some_walk b h g entry =
      let cost = cost_from (Walks b vars costs) (block_cost b vars costs) (block_step b vars costs h g) entry in
      (_, cost.total.there.0, cost.total.there.1)

  some_stmt_walk : (s : Stmt) → StmtLoopsAreUntimed s → StmtLoopsTurn s → (entry : ℕ) → Walk (StmtWalks s vars costs) entry
  some_stmt_walk s h g entry =
      let cost = cost_from (StmtWalks s vars costs) (stmt_cost s vars costs) (stmt_step s vars costs h g) entry in
      (_, cost.total.there.0, cost.total.there.1)

  abbrev RoundOf : Block → ℕ → Counts
  RoundOf body k = Then (Passes k) (Then (Walks body vars costs) (Passes costs.loop_))

  walk_round : (body : Block) → IsUntimed body → LoopsTurn body → (k entry : ℕ) → Walk (RoundOf body k) entry
  walk_round body h g k entry =
      walk_both (Passes k) (Then (Walks body vars costs) (Passes costs.loop_)) entry (walk_pass k entry)
      (λ middle. walk_both (Walks body vars costs) (Passes costs.loop_) middle (some_walk body (untimed_loops body h) g middle) (walk_pass costs.loop_))

  event_round : (body : Block) (k : ℕ) → ((entry : ℕ) → EventWalk (Walks body vars costs) entry) → (entry : ℕ) → EventWalk (RoundOf body k) entry
  event_round body k h entry =
      event_behind (Passes k) (Then (Walks body vars costs) (Passes costs.loop_)) entry (walk_pass k entry)
      (λ middle. event_first (Walks body vars costs) (Passes costs.loop_) middle (h middle) (walk_pass costs.loop_))

  abbrev Taken : Block → Block → Counts
  Taken taken other = Then (Walks taken vars costs) (Passes (jump_cost costs other))

  mutual
    pub block_event : (b : Block) → LoopsAreUntimed b → LoopsTurn b → has_event b ≡ true → (entry : ℕ) → EventWalk (Walks b vars costs) entry
    block_event done h g e entry = absurd cc
    block_event (next s rest) h g e entry =
        elim (one_of (stmt_has_event s) (has_event rest) e) as (λ _. EventWalk (Walks (next s rest) vars costs) entry) [
          | inl here ↦ event_first (StmtWalks s vars costs) (Walks rest vars costs) entry (stmt_event s h.0 g.0 here entry) (some_walk rest h.1 g.1)
          | inr there ↦ event_behind (StmtWalks s vars costs) (Walks rest vars costs) entry (some_stmt_walk s h.0 g.0 entry) (block_event rest h.1 g.1 there)
        ]

    stmt_event : (s : Stmt) → StmtLoopsAreUntimed s → StmtLoopsTurn s → stmt_has_event s ≡ true → (entry : ℕ) → EventWalk (StmtWalks s vars costs) entry
    stmt_event (item id act) h g e entry = act_event act h g e entry
    stmt_event (choice id test taken other) h g e entry =
        let k = expr_cycles costs test + costs.branch in
        let jump = jump_cost costs other in
        event_behind (Passes k) (Either (Taken taken other) (Walks other vars costs)) entry (walk_pass k entry)
        (λ middle. elim (one_of (has_event taken) (has_event other) e) as (λ _. EventWalk (Either (Taken taken other) (Walks other vars costs)) middle) [
          | inl here ↦ left_of (Taken taken other) (Walks other vars costs) middle (event_first (Walks taken vars costs) (Passes jump) middle (block_event taken h.0 g.0 here middle) (walk_pass jump))
          | inr there ↦ right_of (Taken taken other) (Walks other vars costs) middle (block_event other h.1 g.1 there middle)
        ])
    stmt_event (timed id window body) h g e entry = block_event body h g e (held_entry (hold_of window body) entry)

    act_event : (act : Act) → ActIsUntimed act → ActLoopsTurn act → act_has_event act ≡ true → (entry : ℕ) → EventWalk (ActWalks act vars costs) entry
    act_event (assign v x) h g e entry = absurd cc
    act_event (assign_at v i x) h g e entry = absurd cc
    act_event (receive v port) h g e entry = (entry + costs.receive, (entry + costs.receive) ∷ [], (refl, refl), tt)
    act_event (send x port) h g e entry =
        let k = expr_cycles costs x + costs.send in
        (entry + k, (entry + k) ∷ [], (refl, refl), tt)
    act_event (copy a b) h g e entry = absurd cc
    act_event (for_loop v turns body) h g e entry =
        let begun = costs.const_ + costs.store in
        let k = costs.load + costs.store in
        event_behind (Passes begun) (Rounds turns (RoundOf body k)) entry (walk_pass begun entry)
        (λ middle. event_rounds (RoundOf body k) (walk_round body h g.1 k) (event_round body k (block_event body (untimed_loops body h) g.1 e)) turns middle g.0)
    act_event (while_loop test turns body) h g e entry =
        let begun = costs.const_ + costs.store in
        let k = expr_cycles costs test + costs.branch in
        event_behind (Passes begun) (RoundsUpTo turns (RoundOf body k) (Passes k)) entry (walk_pass begun entry)
        (λ middle.
        let all = event_rounds (RoundOf body k) (walk_round body h g.1 k) (event_round body k (block_event body (untimed_loops body h) g.1 e)) turns middle g.0 in
        (all.0, all.1, inr all.2, all.3))

-- ---- the points

-- the first of some events, and the last
first_some : (events : List ℕ) → IsSome events → (n : ℕ) × IsFirst events n
first_some [] h = absurd h
first_some (x ∷ xs) h = (x, (xs, refl))

last_some : (events : List ℕ) → IsSome events → (n : ℕ) × IsLast events n
last_some [] h = absurd h
last_some (x ∷ []) h = (x, ([], refl))
last_some (x ∷ (y ∷ xs)) h = let rest = last_some (y ∷ xs) tt in (rest.0, (x ∷ rest.1.0, ap (λ l. x ∷ l) rest.1.1))

-- a point by a greatest count
point_for : (name : PointName) (P : ℕ → Type 0) (count bound : Option ℕ) → IsGreatestIfAny P count → (n : ℕ) × P n → IsPointFor name (IsGreatestIfAny P) bound (point_at name count bound)
point_for name P None bound h some = absurd (h some.0 some.1)
point_for name P (Some n) None h some = refl
point_for name P (Some n) (Some b) h some = (n, h, refl)

no_point : (name : PointName) (count bound : Option ℕ) → count ≡ None → point_at name count bound ≡ []
no_point name count bound e = ap (λ x. point_at name x bound) e

module _ (vars : List Var) (costs : Costs) where
  own_points_are : (id : ℕ) (window : Window) (body : Block) (entry : ℕ) → LoopsAreUntimed body → LoopsTurn body → (some : Bool) → has_event body ≡ some →
      let own = own_points id window (block_cost body vars costs (entered entry)) in
      MatchBool some (AreBlockPoints (Walks body vars costs) entry window id own) (own ≡ [])
  own_points_are id window body entry h g true e =
      let cost = block_cost body vars costs (entered entry) in
      let of = cost_from (Walks body vars costs) (block_cost body vars costs) (block_step body vars costs h g) entry in
      let some = block_event vars costs body h g e entry in
      let first = first_some some.1 some.3 in
      let last = last_some some.1 some.3 in (
        point_at (before id) cost.first window.before,
        point_at (within id) cost.last window.within,
        point_for (before id) (FirstAt (Walks body vars costs) entry) cost.first window.before of.first (first.0, (some.0, some.1, some.2, first.1)),
        point_for (within id) (LastAt (Walks body vars costs) entry) cost.last window.within of.last (last.0, (some.0, some.1, some.2, last.1)),
        refl,
      )
  own_points_are id window body entry h g false e =
      let cost = block_cost body vars costs (entered entry) in
      let none = block_silent body vars costs e (entered entry) (record { first = refl; last = refl }) in
      ap (λ l. l ++ point_at (within id) cost.last window.within) (no_point (before id) cost.first window.before none.first)
      ∙ no_point (within id) cost.last window.within none.last

  mutual
    pub points_meet : (b : Block) → LoopsAreUntimed b → LoopsTurn b → (entry : ℕ) → ArePoints b vars costs entry (block_points b vars costs entry)
    points_meet done h g entry = refl
    points_meet (next s rest) h g entry =
        let middle = (stmt_cost s vars costs (entered entry)).total in (
          stmt_points s vars costs entry,
          middle,
          block_points rest vars costs middle,
          stmt_points_meet s h.0 g.0 entry,
          (cost_from (StmtWalks s vars costs) (stmt_cost s vars costs) (stmt_step s vars costs h.0 g.0) entry).total,
          points_meet rest h.1 g.1 middle,
          refl,
        )

    stmt_points_meet : (s : Stmt) → StmtLoopsAreUntimed s → StmtLoopsTurn s → (entry : ℕ) → AreStmtPoints s vars costs entry (stmt_points s vars costs entry)
    stmt_points_meet (item id act) h g entry = refl
    stmt_points_meet (choice id test taken other) h g entry =
        let k = expr_cycles costs test + costs.branch in
        let same : k + entry ≡ entry + k = omega arith in (
          block_points taken vars costs (k + entry),
          block_points other vars costs (k + entry),
          subst (λ n. ArePoints taken vars costs n (block_points taken vars costs (k + entry))) same (points_meet taken h.0 g.0 (k + entry)),
          subst (λ n. ArePoints other vars costs n (block_points other vars costs (k + entry))) same (points_meet other h.1 g.1 (k + entry)),
          refl,
        )
    stmt_points_meet (timed id window body) h g entry =
        let inner = held_entry (hold_of window body) entry in (
          own_points id window (block_cost body vars costs (entered inner)),
          block_points body vars costs inner,
          own_points_are id window body inner h g (has_event body) refl,
          points_meet body h g inner,
          refl,
        )

-- ---- they are sound

-- the clauses of each block are times
abbrev mutual
  pub WindowsAreTimes : Block → Type 0
  WindowsAreTimes done = Unit {0}
  WindowsAreTimes (next s rest) = StmtWindowsAreTimes s × WindowsAreTimes rest

  pub StmtWindowsAreTimes : Stmt → Type 0
  StmtWindowsAreTimes (item id act) = Unit {0}
  StmtWindowsAreTimes (choice id test taken other) = WindowsAreTimes taken × WindowsAreTimes other
  StmtWindowsAreTimes (timed id window body) = IsBounded window × WindowsAreTimes body

-- a point by a count and a bound
point_sound : (name : PointName) (total : ℕ) (count bound : Option ℕ) → IfSome count (λ n. (0 < n) × (n ≤ total)) → IfSome bound IsTime →
    All (IsSoundPoint total) (point_at name count bound)
point_sound name total None bound h g = All-nil (IsSoundPoint total)
point_sound name total (Some n) None h g = All-nil (IsSoundPoint total)
point_sound name total (Some n) (Some b) h g =
    All-cons (IsSoundPoint total) (record { prefix = n; bound = b; name = name }) []
    (record { prefix_some = h.0; prefix_within = h.1; bound_some = (let s = g.some in omega arith); bound_most = g.most }) (All-nil (IsSoundPoint total))

both_sound : (total : ℕ) (a b : List Point) → All (IsSoundPoint total) a → All (IsSoundPoint total) b → All (IsSoundPoint total) (a ++ b)
both_sound total a b h g = All-append (IsSoundPoint total) a b h g

-- points of frames that take less
pub sound_more : (less more : ℕ) (points : List Point) → less ≤ more → All (IsSoundPoint less) points → All (IsSoundPoint more) points
sound_more less more points l h =
    All-weaker (IsSoundPoint less) (IsSoundPoint more)
    (λ p s. record { prefix_some = s.prefix_some; prefix_within = (let w = s.prefix_within in omega arith); bound_some = s.bound_some; bound_most = s.bound_most }) points h

module _ (vars : List Var) (costs : Costs) (timed_events : EventsTakeTime costs) where
  mutual
    pub points_sound : (b : Block) → LoopsTurn b → WindowsAreTimes b → (entry : ℕ) → All (IsSoundPoint (block_cost b vars costs (entered entry)).total) (block_points b vars costs entry)
    points_sound done g w entry = All-nil (IsSoundPoint entry)
    points_sound (next s rest) g w entry =
        let one = stmt_cost s vars costs (entered entry) in
        let all = (block_cost rest vars costs one).total in
        let same = block_total rest vars costs (entered one.total) one refl in
        both_sound all (stmt_points s vars costs entry) (block_points rest vars costs one.total)
        (sound_more one.total all (stmt_points s vars costs entry) (block_rises rest vars costs one) (stmt_points_sound s g.0 w.0 entry))
        (subst (λ n. All (IsSoundPoint n) (block_points rest vars costs one.total)) same (points_sound rest g.1 w.1 one.total))

    stmt_points_sound : (s : Stmt) → StmtLoopsTurn s → StmtWindowsAreTimes s → (entry : ℕ) →
        All (IsSoundPoint (stmt_cost s vars costs (entered entry)).total) (stmt_points s vars costs entry)
    stmt_points_sound (item id act) g w entry = All-nil (IsSoundPoint (stmt_cost (item id act) vars costs (entered entry)).total)
    stmt_points_sound (choice id test taken other) g w entry =
        let k = expr_cycles costs test + costs.branch in
        let yes_total = (block_cost taken vars costs (entered (k + entry))).total in
        let no_total = (block_cost other vars costs (entered (k + entry))).total in
        let all = max (jump_cost costs other + yes_total) no_total in
        both_sound all (block_points taken vars costs (k + entry)) (block_points other vars costs (k + entry))
        (sound_more yes_total all (block_points taken vars costs (k + entry)) (omega arith) (points_sound taken g.0 w.0 (k + entry)))
        (sound_more no_total all (block_points other vars costs (k + entry)) (omega arith) (points_sound other g.1 w.1 (k + entry)))
    stmt_points_sound (timed id window body) g w entry =
        let inner = held_entry (hold_of window body) entry in
        let cost = block_cost body vars costs (entered inner) in
        let order = block_ordered costs timed_events vars body g (entered inner) (entered_ordered inner) in
        both_sound cost.total (own_points id window cost) (block_points body vars costs inner)
        (both_sound cost.total (point_at (before id) cost.first window.before) (point_at (within id) cost.last window.within)
        (point_sound (before id) cost.total cost.first window.before order.first w.0.1)
        (point_sound (within id) cost.total cost.last window.within order.last w.0.2))
        (points_sound body g w.1 inner)

-- ---- points that are added one after another

-- behind a statement the points of the others are left
pub points_on : (s : Stmt) (rest : Block) (vars : List Var) (costs : Costs) (start after : Cost) (old new whole : List Point) → after ≡ stmt_cost s vars costs start →
    new ≡ old ++ stmt_points s vars costs start.total → old ++ block_points (next s rest) vars costs start.total ≡ whole →
    new ++ block_points rest vars costs after.total ≡ whole
points_on s rest vars costs start after old new whole is adds left =
    let total = ap (λ (c : Cost). c.total) is ∙ stmt_total s vars costs start (entered start.total) refl in
    ap (λ n. new ++ block_points rest vars costs n) total
    ∙ ap (λ l. l ++ block_points rest vars costs (stmt_cost s vars costs (entered start.total)).total) adds
    ∙ append_assoc old (stmt_points s vars costs start.total) (block_points rest vars costs (stmt_cost s vars costs (entered start.total)).total)
    ∙ left

-- those of an `if`
pub choice_points : (a b : Block) (vars : List Var) (costs : Costs) (got inner : ℕ) (old middle new : List Point) → got ≡ inner → middle ≡ old ++ block_points a vars costs got →
    new ≡ middle ++ block_points b vars costs got → new ≡ old ++ (block_points a vars costs inner ++ block_points b vars costs inner)
choice_points a b vars costs got inner old middle new same one two =
    two
    ∙ ap (λ l. l ++ block_points b vars costs got) one
    ∙ append_assoc old (block_points a vars costs got) (block_points b vars costs got)
    ∙ ap (λ n. old ++ (block_points a vars costs n ++ block_points b vars costs n)) same

-- those of a block
pub timed_points : (id : ℕ) (window : Window) (b : Block) (vars : List Var) (costs : Costs) (got inner : ℕ) (start own : Cost) (old starts ends new : List Point) → got ≡ inner →
    start ≡ entered got → own ≡ block_cost b vars costs start → starts ≡ old ++ point_at (before id) own.first window.before →
    ends ≡ starts ++ point_at (within id) own.last window.within → new ≡ ends ++ block_points b vars costs got →
    new ≡ old ++ (own_points id window (block_cost b vars costs (entered inner)) ++ block_points b vars costs inner)
timed_points id window b vars costs got inner start own old starts ends new same begins is one two three =
    let nested = block_points b vars costs got in
    let first = point_at (before id) own.first window.before in
    let last = point_at (within id) own.last window.within in
    three
    ∙ ap (λ l. l ++ nested) (two ∙ ap (λ l. l ++ last) one ∙ append_assoc old first last)
    ∙ append_assoc old (first ++ last) nested
    ∙ ap (λ c. old ++ (own_points id window c ++ nested)) (is ∙ ap (block_cost b vars costs) begins)
    ∙ ap (λ n. old ++ (own_points id window (block_cost b vars costs (entered n)) ++ block_points b vars costs n)) same
