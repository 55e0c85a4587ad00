-- The points of a task's plan bind the events of each run of its body: what is so of each point's prefix and bound is so of each event's count and the bounds of the blocks around it.
use Rattle.std.proofs.Common.{◌≡◌, ℕ, suc, ◌+◌, ◌≤◌, true, false, List, [], ◌∷◌, ◌++◌, length, refl, sym, ap, ◌∙◌, subst, arith, Option, Some, None, inl, inr}
use Rattle.std.specs.Prelude.{IfSome, MatchBool, min, slice_get}
use Rattle.std.proofs.lemmas.Bool.{cases_Bool, cases_lt}
use Rattle.tcel_num.specs.Plan.{Point, PointName, before, within}
use Rattle.tcel_core.specs.declared.var.Var.{Var}
use Rattle.tcel_core.specs.Contents.{has_event, hold_of}
use Rattle.tcel_core.specs.Language.{Window, Block, done, next, Stmt, item, choice, timed}
use Rattle.tcel_core.specs.Meaning.{exec, exec_act, exec_stmt}
use Rattle.tcel_core.specs.Outcome.{Memory, Occurrence, EnclosingBlock, enclosed}
use Rattle.tcel_core.specs.Windows.{latest, lesser, start_bound}
use Rattle.tcel_core.specs.Scope.{Fits, StmtFits, IsUntimed, StmtIsUntimed, LoopsAreUntimed, StmtLoopsAreUntimed}
use Rattle.tcel_core.proofs.Bodies.{ArePlain, act_plain, block_quiet}
use Rattle.tcel_target.specs.declared.costs.Costs.{Costs}
use Rattle.tcel_cost.specs.Expressions.{expr_cycles}
use Rattle.tcel_cost.specs.Walks.{Counts, Walks, IsGreatest, IsLast, FirstAt, LastAt, IsFirstCount, IsLastCount, held_entry}
use Rattle.tcel_cost.specs.Plans.{ArePoints, AreStmtPoints, AreBlockPoints, IsPointFor}
use Rattle.tcel_cost.proofs.RunWalks.{RunWalks, StmtRunWalks, run_walk, stmt_run_walk, by_branch, stmt_counts}
use Rattle.tcel_cost.specs.Steady.{AreInOrder, AreLater, IsSteady}
use Rattle.tcel_cost.proofs.SteadyWalks.{AreUpTo, block_steady, stmt_steady, held_rises}

-- where there is no `do` block, no loop holds one
mutual
  pub untimed_loops : (b : Block) → IsUntimed b → LoopsAreUntimed b
  untimed_loops done h = tt
  untimed_loops (next s rest) h = (untimed_stmt s h.0, untimed_loops rest h.1)

  untimed_stmt : (s : Stmt) → StmtIsUntimed s → StmtLoopsAreUntimed s
  untimed_stmt (item id act) h = h
  untimed_stmt (choice id test held other) h = (untimed_loops held h.0, untimed_loops other h.1)
  untimed_stmt (timed id window body) h = absurd h

-- without a `do` block there is no point
mutual
  pub no_points : (b : Block) (vars : List Var) (costs : Costs) (entry : ℕ) (points : List Point) → IsUntimed b → ArePoints b vars costs entry points → points ≡ []
  no_points done vars costs entry points h are = are
  no_points (next s rest) vars costs entry points h are =
      are.6 ∙ ap (λ l. l ++ are.2) (no_stmt_points s vars costs entry are.0 h.0 are.3) ∙ no_points rest vars costs are.1 are.2 h.1 are.5

  no_stmt_points : (s : Stmt) (vars : List Var) (costs : Costs) (entry : ℕ) (points : List Point) → StmtIsUntimed s → AreStmtPoints s vars costs entry points → points ≡ []
  no_stmt_points (item id act) vars costs entry points h are = are
  no_stmt_points (choice id test held other) vars costs entry points h are =
      let inner : ℕ = entry + (expr_cycles costs test + costs.branch) in
      are.4 ∙ ap (λ l. l ++ are.1) (no_points held vars costs inner are.0 h.0 are.2) ∙ no_points other vars costs inner are.1 h.1 are.3
  no_stmt_points (timed id window body) vars costs entry points h are = absurd h

-- ---- the first event of a walk, and the last

last_of : ℕ → List ℕ → ℕ
last_of c [] = c
last_of c (d ∷ ds) = last_of d ds

is_last : (c : ℕ) (cs : List ℕ) → IsLast (c ∷ cs) (last_of c cs)
unfolding last_of
is_last c [] = ([], refl)
is_last c (d ∷ ds) = let rest = is_last d ds in (c ∷ rest.0, ap (λ l. c ∷ l) rest.1)

last_on : (c : ℕ) (cs : List ℕ) (end : ℕ) → AreInOrder cs c end → c ≤ last_of c cs
unfolding last_of
last_on c [] end h = omega arith
last_on c (d ∷ ds) end h = let rest = last_on d ds end h.1 in let first = h.0 in omega arith

upto_last : (c : ℕ) (cs : List ℕ) (end : ℕ) → AreInOrder cs c end → AreUpTo (last_of c cs) (c ∷ cs)
unfolding last_of
upto_last c [] end h = (omega arith, tt)
upto_last c (d ∷ ds) end h = (last_on c (d ∷ ds) end h, upto_last d ds end h.1)

upto_by : (end : ℕ) (cs ds : List ℕ) → AreLater cs ds → AreUpTo end ds → AreUpTo end cs
upto_by end [] ds h g = tt
upto_by end (c ∷ cs) [] h g = absurd h
upto_by end (c ∷ cs) (d ∷ ds) h g = (let a = h.0 in let b = g.0 in omega arith, upto_by end cs ds h.1 g.1)

-- ---- what is so of counts and bounds

module _ (P : PointName → ℕ → ℕ → Type 0) where
  -- it holds of each point
  abbrev pub EachPoint : List Point → Type 0
  EachPoint [] = Unit {0}
  EachPoint (p ∷ ps) = P p.name p.prefix p.bound × EachPoint ps

  -- what is so of the point at each place is so of each point
  pub each_point : (points : List Point) → ((k : ℕ) (point : Point) → slice_get points k ≡ Some point → P point.name point.prefix point.bound) → EachPoint points
  each_point [] at = tt
  each_point (p ∷ points) at = (at 0 p refl, each_point points (λ k point e. at (suc k) point e))

  each_split : (a b : List Point) → EachPoint (a ++ b) → EachPoint a × EachPoint b
  each_split [] b h = (tt, h)
  each_split (p ∷ a) b h = let rest = each_split a b h.1 in ((h.0, rest.0), rest.1)

  -- it holds of a count and each bound of the blocks around an event, by the names of their points
  abbrev pub IsBound : ℕ → List EnclosingBlock → Type 0
  IsBound count [] = Unit {0}
  IsBound count (b ∷ bs) = IfSome b.window.within (P (within b.number) count) × IfSome (start_bound b) (P (before b.number) count) × IsBound count bs

  -- so it does for these events, each with its count
  abbrev pub AreBound : List Occurrence → List ℕ → Type 0
  AreBound [] counts = Unit {0}
  AreBound (e ∷ es) [] = ⊥
  AreBound (e ∷ es) (c ∷ cs) = IsBound c e.around × AreBound es cs

  bound-append : (a b : List Occurrence) (cs ds : List ℕ) → length cs ≡ length a → AreBound a cs → AreBound b ds → AreBound (a ++ b) (cs ++ ds)
  bound-append [] b [] ds e h g = g
  bound-append [] b (c ∷ cs) ds e h g = absurd (omega arith)
  bound-append (x ∷ a) b [] ds e h g = absurd h
  bound-append (x ∷ a) b (c ∷ cs) ds e h g = (h.0, bound-append a b cs ds (omega arith) h.1 g)

  plain_bound : (events : List Occurrence) (counts : List ℕ) → length counts ≡ length events → ArePlain events → AreBound events counts
  plain_bound [] counts e plain = tt
  plain_bound (x ∷ events) [] e plain = absurd (omega arith)
  plain_bound (x ∷ events) (c ∷ counts) e plain = (subst (IsBound c) (sym plain.0) tt, plain_bound events counts (omega arith) plain.1)

  -- ---- the points of a block

  abbrev EachIf : PointName → Option ℕ → List ℕ → Type 0
  EachIf name bound [] = Unit {0}
  EachIf name bound (c ∷ cs) = IfSome bound (P name c) × EachIf name bound cs

  abbrev FirstIf : PointName → Option ℕ → List ℕ → Type 0
  FirstIf name bound [] = Unit {0}
  FirstIf name bound (c ∷ cs) = IfSome bound (P name c)

  none_each : (name : PointName) (counts : List ℕ) → EachIf name None counts
  none_each name [] = tt
  none_each name (c ∷ cs) = (tt, none_each name cs)

  -- where it holds of each sooner count
  module _ (sooner : (name : PointName) (count later bound : ℕ) → count ≤ later → P name later bound → P name count bound) where
    upto_each : (name : PointName) (last bound : ℕ) (counts : List ℕ) → AreUpTo last counts → P name last bound → EachIf name (Some bound) counts
    upto_each name last bound [] h p = tt
    upto_each name last bound (c ∷ cs) h p = (sooner name c last bound h.0 p, upto_each name last bound cs h.1 p)

    -- the point of a rule binds the counts up to its prefix
    point_holds : (name : PointName) (prefix : Option ℕ → Type 0) (bound : ℕ) (points : List Point) → IsPointFor name prefix (Some bound) points → EachPoint points → (count : ℕ) × prefix (Some count) × P name count bound
    point_holds name prefix bound points is each = let own = subst EachPoint is.2 each in (is.0, is.1, own.0)

    module _ (walks : Counts) (steady : IsSteady walks) (inner from end : ℕ) (counts : List ℕ) (le : from ≤ inner) (walk : walks from end counts) where
      within_binds : (name : PointName) (bound : Option ℕ) (points : List Point) → IsPointFor name (IsLastCount walks inner) bound points → EachPoint points → EachIf name bound counts
      within_binds name None points is each = none_each name counts
      within_binds name (Some bound) points is each =
          let point = point_holds name (IsLastCount walks inner) bound points is each in
          let later = steady.delayed from end counts walk inner le in
          by later.moved later.to later.walk later.events_later point.0 point.1 point.2
        where
          by : (moved : List ℕ) (to : ℕ) → walks inner to moved → AreLater counts moved → (count : ℕ) → IsGreatest (LastAt walks inner) count → P name count bound → EachIf name (Some bound) counts
          by [] to w later count greatest p = upto_each name count bound counts (upto_by count counts [] later tt) p
          by (d ∷ ds) to w later count greatest p =
              let most = greatest.greatest (last_of d ds) (to, d ∷ ds, w, is_last d ds) in
              upto_each name (last_of d ds) bound counts (upto_by (last_of d ds) counts (d ∷ ds) later (upto_last d ds to (steady.ordered inner to (d ∷ ds) w).1)) (sooner name (last_of d ds) count bound most p)

      start_binds : (name : PointName) (bound : Option ℕ) (points : List Point) → IsPointFor name (IsFirstCount walks inner) bound points → EachPoint points → FirstIf name bound counts
      start_binds name None points is each = none_first counts
        where
          none_first : (cs : List ℕ) → FirstIf name None cs
          none_first [] = tt
          none_first (c ∷ cs) = tt
      start_binds name (Some bound) points is each =
          let point = point_holds name (IsFirstCount walks inner) bound points is each in
          let later = steady.delayed from end counts walk inner le in
          by counts later.moved later.to later.walk later.events_later point.0 point.1 point.2
        where
          by : (cs moved : List ℕ) (to : ℕ) → walks inner to moved → AreLater cs moved → (count : ℕ) → IsGreatest (FirstAt walks inner) count → P name count bound → FirstIf name (Some bound) cs
          by [] moved to w later count greatest p = tt
          by (c ∷ cs) [] to w later count greatest p = absurd later
          by (c ∷ cs) (d ∷ ds) to w later count greatest p =
              let most = greatest.greatest d (to, d ∷ ds, w, (ds, refl)) in
              let first = later.0 in
              sooner name c count bound (omega arith) p

    -- events that don't lead their block
    others_bound : (id : ℕ) (window : Window) (events : List Occurrence) (counts : List ℕ) → AreBound events counts → EachIf (within id) window.within counts → AreBound (enclosed id window false events) counts
    others_bound id window [] counts h each = tt
    others_bound id window (e ∷ events) [] h each = absurd h
    others_bound id window (e ∷ events) (c ∷ counts) h each = ((each.0, tt, h.0), others_bound id window events counts h.1 each.1)

    -- events of a block, the first of which leads it
    enclosed_bound : (id : ℕ) (window : Window) (events : List Occurrence) (counts : List ℕ) → AreBound events counts → EachIf (within id) window.within counts → FirstIf (before id) window.before counts → AreBound (enclosed id window true events) counts
    enclosed_bound id window [] counts h each first = tt
    enclosed_bound id window (e ∷ events) [] h each first = absurd h
    enclosed_bound id window (e ∷ events) (c ∷ counts) h each first = ((each.0, first, h.0), others_bound id window events counts h.1 each.1)

    -- ---- bodies

    mutual
      -- the events of a run of statements, along a walk from no later than where the points are counted from
      pub block_bound : (b : Block) (vars : List Var) → Fits b vars → LoopsAreUntimed b → (costs : Costs) (m : Memory) (entry from end : ℕ) (counts : List ℕ) (points : List Point) → from ≤ entry →
          ArePoints b vars costs entry points → EachPoint points → RunWalks b vars costs m from end counts → AreBound (exec b vars m).events counts
      block_bound done vars fits loops costs m entry from end counts points le are each walk = tt
      block_bound (next s rest) vars fits loops costs m entry from end counts points le are each walk =
          let o = exec_stmt s vars m in
          let split = each_split are.0 are.2 (subst EachPoint are.6 each) in
          let later = (stmt_steady s vars costs).delayed from walk.middle walk.before (stmt_run_walk s vars costs m from walk.middle walk.before walk.one) entry le in
          let most = are.4.greatest later.to (later.moved, later.walk) in
          let behind : walk.middle ≤ are.1 = let on = later.ends_later in omega arith in
          let one = stmt_bound s vars fits.0 loops.0 costs m entry from walk.middle walk.before are.0 le are.3 split.0 walk.one in
          let two = block_bound rest vars fits.1 loops.1 costs o.memory are.1 walk.middle end walk.after are.2 behind are.5 split.1 walk.two in
          subst (AreBound (o.events ++ (exec rest vars o.memory).events)) (sym walk.joined)
          (bound-append o.events (exec rest vars o.memory).events walk.before walk.after (stmt_counts s vars costs m from walk.middle walk.before walk.one) one two)

      stmt_bound : (s : Stmt) (vars : List Var) → StmtFits s vars → StmtLoopsAreUntimed s → (costs : Costs) (m : Memory) (entry from end : ℕ) (counts : List ℕ) (points : List Point) → from ≤ entry →
          AreStmtPoints s vars costs entry points → EachPoint points → StmtRunWalks s vars costs m from end counts → AreBound (exec_stmt s vars m).events counts
      stmt_bound (item id act) vars fits loops costs m entry from end counts points le are each walk = plain_bound (exec_act act vars m).events counts walk.1 (act_plain act vars fits loops m)
      stmt_bound (choice id test held other) vars fits loops costs m entry from end counts points le are each walk =
          let split = each_split are.0 are.1 (subst EachPoint are.4 each) in
          let tests : ℕ = expr_cycles costs test + costs.branch in
          by_branch test held other vars costs m id from end counts walk AreBound
          (λ to cs w. block_bound held vars fits.1 loops.0 costs m (entry + tests) (from + tests) to cs are.0 (omega arith) are.2 split.0 w)
          (λ to cs w. block_bound other vars fits.2 loops.1 costs m (entry + tests) (from + tests) to cs are.1 (omega arith) are.3 split.1 w)
      stmt_bound (timed id window body) vars fits loops costs m entry from end counts points le are each walk =
          let inner = held_entry (hold_of window body) entry in
          let begins = held_entry (hold_of window body) from in
          let sooner_begins = held_rises (hold_of window body) from entry le in
          let split = each_split are.0 are.1 (subst EachPoint are.4 each) in
          let events = (exec body vars m).events in
          let bound = block_bound body vars fits loops costs m inner begins end counts are.1 sooner_begins are.3 split.1 walk in
          elim (cases_Bool (has_event body)) [
            | inl some ↦
                let own : AreBlockPoints (Walks body vars costs) inner window id are.0 = subst (λ b. MatchBool b (AreBlockPoints (Walks body vars costs) inner window id are.0) (are.0 ≡ [])) some are.2 in
                let own_split = each_split own.0 own.1 (subst EachPoint own.4 split.0) in
                let walks = Walks body vars costs in
                let is_walk = run_walk body vars costs m begins end counts walk in
                enclosed_bound id window events counts bound
                (within_binds walks (block_steady body vars costs) inner begins end counts sooner_begins is_walk (within id) window.within own.1 own.3 own_split.1)
                (start_binds walks (block_steady body vars costs) inner begins end counts sooner_begins is_walk (before id) window.before own.0 own.2 own_split.0)
            | inr none ↦ subst (λ es. AreBound (enclosed id window true es) counts) (sym (block_quiet body vars fits none m)) tt
          ]

-- ---- latest times

module _ (P : ℕ → ℕ → Type 0) where
  lesser_bound : (count : ℕ) (bound : Option ℕ) (time : ℕ) → IfSome bound (P count) → P count time → P count (lesser bound time)
  lesser_bound count None time h g = g
  lesser_bound count (Some bound) time h g =
      elim (cases_lt bound time) [
        | inl less ↦ let e : bound ≡ min bound time = omega arith in subst (P count) e h
        | inr most ↦ let e : time ≡ min bound time = omega arith in subst (P count) e g
      ]

  -- then it holds of an event's latest time, where it holds of the deadline
  pub bound_latest : (count deadline : ℕ) (around : List EnclosingBlock) → P count deadline → IsBound (λ name. P) count around → P count (latest deadline around)
  bound_latest count deadline [] h bound = h
  bound_latest count deadline (b ∷ bs) h bound =
      lesser_bound count b.window.within (lesser (start_bound b) (latest deadline bs)) bound.0
      (lesser_bound count (start_bound b) (latest deadline bs) bound.1 (bound_latest count deadline bs h bound.2))
