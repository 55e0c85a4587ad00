-- The code of a `for`: its counter begins at 0, and a round sets its variable, runs the body and counts.
use Rattle.std.proofs.Common.{pos, ◌≡◌, ℕ, zero, suc, ◌+◌, ◌<◌, ◌≤◌, ℤ, List, [], ◌∷◌, ◌++◌, length, set, refl, sym, ap, ◌∙◌, subst, arith, append_assoc, append-nil, length-append}
use Rattle.std.specs.Prelude.{nat_lt}
use Rattle.std.proofs.lemmas.Bool.{lt-ltb, le-ltb, cond-false, cond-true}
use Rattle.std.proofs.lemmas.List.{length-set, set-append_left}
use Rattle.tcel_core.specs.Cells.{place, set_word}
use Rattle.tcel_core.specs.Contents.{loops}
use Rattle.tcel_core.specs.Language.{Block, for_loop}
use Rattle.tcel_core.specs.Meaning.{exec, with_cells}
use Rattle.tcel_core.specs.Outcome.{Memory, Outcome, rounds}
use Rattle.tcel_core.specs.Scope.{ActFits, HasWord}
use Rattle.tcel_core.proofs.Remain.{takes, takes-append}
use Rattle.tcel_target.specs.declared.costs.CostKey.TheVariants as keys
use Rattle.tcel_image.specs.declared.image.Instr.TheVariants.{Const, Get, Loop, Put}
use Rattle.tcel_code.specs.Code.{at, act_code, block_code}
use Rattle.tcel_code.specs.Counters.{in_order}
use Rattle.tcel_code.proofs.Counters.{ordered}
use Rattle.tcel_cost.specs.Walks.{Counts, ForWalks, Walks, Then, Rounds, Passes}
use Rattle.tcel_code.proofs.Ahead.{quietly}
use Rattle.tcel_code.proofs.ExprRuns.{Stands, stands_front, stands_back}
use Rattle.tcel_code.proofs.LoopRuns.{LoopIn, AtTurn, GoesToTurn, loop_end, after_turns, begin_goes, begun, counter_word, turn_goes}
use Rattle.tcel_code.proofs.Runs.{ActDoes, BlockDoes, Goes, InOrder, goes_by, goes_lower, goes_to, pass_goes, stays_goes, then_goes}
use Rattle.tcel_cost.proofs.RunWalks.{run_walk}
use Rattle.tcel_code.proofs.Steps.{Setting, LineAt, ready_at, ahead_at, quiet_step}

-- a walk of rounds and then one more round
rounds_and_one : (n : ℕ) (round : Counts) (entry end : ℕ) (events : List ℕ) → Then (Rounds n round) round entry end events → Rounds (suc n) round entry end events
rounds_and_one zero round entry end events w =
    let none : w.before ++ w.after ≡ w.after = ap (λ l. l ++ w.after) w.one.1 in
    let from : w.middle ≡ entry = let m = w.one.0 in omega arith in
    record {
      middle = end;
      before = w.after;
      after = [];
      one = subst (λ m. round m end w.after) from w.two;
      two = (omega arith, refl);
      joined = w.joined ∙ none ∙ sym (append-nil w.after);
    }
rounds_and_one (suc n) round entry end events w =
    let more = rounds_and_one n round w.one.middle end (w.one.after ++ w.after) (record { middle = w.middle; before = w.one.after; after = w.after; one = w.one.two; two = w.two; joined = refl }) in
    record {
      middle = w.one.middle;
      before = w.one.before;
      after = w.one.after ++ w.after;
      one = w.one.one;
      two = more;
      joined = w.joined ∙ ap (λ l. l ++ w.after) w.one.joined ∙ append_assoc w.one.before w.one.after w.after;
    }

module _ (s : Setting) (l : LoopIn s) (v : ℕ) (scalar : HasWord s.vars v) (get : LineAt s l.top 0 (Get l.counter)) (put : LineAt s (l.top + 1) 1 (Put (place s.vars v))) (at_body : l.top + 1 + 1 ≡ l.body_at) where
  open s use {costs, ranges, vars, frame, stack}
  open l use {turns, are_turns, body, counter, low, at_low, top, body_at, floor}

  abbrev ForRound : Counts
  ForRound = Then (Passes (costs.load + costs.store)) (Then (Walks body vars costs) (Passes costs.loop_))

  abbrev set_turn : ℕ → Memory → Memory
  set_turn j m = with_cells m (set_word vars m.cells v (pos j))

  abbrev for_round : ℕ → Memory → Outcome
  for_round j m = exec body vars (set_turn j m)

  -- one round
  for_turn : (j : ℕ) (m : Memory) (entry : ℕ) (others : List ℤ) (taken : List ℕ) → AtTurn s l j m others taken → j < turns →
      GoesToTurn s l ForRound (for_round j m) (suc j) top entry m others taken
  for_turn j m entry others taken now less =
      let m' = set_turn j m in
      let words = now.order.words in
      let word = counter_word vars m.cells others counter low words at_low ∙ now.counted in
      let same : set (m.cells ++ others) (place vars v) (pos j) ≡ m'.cells ++ others = set-append_left m.cells others (place vars v) (pos j) (omega arith) in
      let first = pass_goes s (costs.load + costs.store) m' low top body_at entry floor m.cells others others taken refl (λ k h. refl)
      (λ dues ran since ahead.
      quiet_step s taken dues (Get counter) 0 (λ now r. refl) (ranges keys.Load).0 top (top + 1) ran since stack (pos j ∷ stack) (m.cells ++ others) (m.cells ++ others) get
      (λ spent. ap (λ x. quietly (ready_at costs (top + 1) (x ∷ stack) (m.cells ++ others) frame taken)) word)
      (quiet_step s taken dues (Put (place vars v)) 1 (λ now r. refl) (ranges keys.Store).0 (top + 1) body_at (ran + costs.load) (since + costs.load) (pos j ∷ stack) stack (m.cells ++ others) (m'.cells ++ others) put
      (λ spent. ap (λ w. quietly (ready_at costs (top + 1 + 1) stack w frame taken)) same ∙ ap (λ k. quietly (ready_at costs k stack (m'.cells ++ others) frame taken)) at_body)
      (ahead_at s taken dues _ _ _ _ body_at body_at stack (m'.cells ++ others) (omega arith) (omega arith) refl ahead))) in
      let order : InOrder s m' taken = record { words = length-set m.cells (place vars v) (pos j) ∙ words; remain = now.order.remain } in
      let rest = turn_goes s l j m' (entry + (costs.load + costs.store)) others taken (record { order = order; room = now.room; counted = now.counted }) less in
      (then_goes s (exec body vars) first rest.0, rest.1)

  -- so many rounds
  for_turns : (m : Memory) (entry : ℕ) (others : List ℤ) (taken : List ℕ) → AtTurn s l 0 m others taken → (j : ℕ) → j ≤ turns → GoesToTurn s l (Rounds j ForRound) (rounds j for_round m) j top entry m others taken
  for_turns m entry others taken now zero h =
      let some = are_turns.some in
      (stays_goes s m low top (after_turns s l 0) entry floor others taken (sym (cond-true (nat_lt 0 turns) top (loop_end s l) (lt-ltb 0 turns some))), now)
  for_turns m entry others taken now (suc j) h =
      let before = for_turns m entry others taken now j (omega arith) in
      let o = rounds j for_round m in
      let one = goes_to s before.0 (cond-true (nat_lt j turns) top (loop_end s l) (lt-ltb j turns (omega arith))) in
      let two = for_turn j o.memory one.end one.left (takes o.events taken) before.1 (omega arith) in
      let last = for_round j o.memory in (
        goes_by s (Rounds (suc j) ForRound) (then_goes s (for_round j) one two.0) (rounds_and_one j ForRound),
        subst (AtTurn s l (suc j) last.memory two.0.left) (sym (takes-append o.events last.events taken)) two.1,
      )

  -- the whole loop
  for_goes : (m : Memory) (p q entry : ℕ) (others : List ℤ) (taken : List ℕ) → InOrder s m taken → low + (1 + loops body) ≤ length others → LineAt s p 0 (Const (pos 0)) → LineAt s (p + 1) 1 (Put counter) →
      p + 2 ≡ top → loop_end s l ≡ q → Goes s (ForWalks costs turns (Walks body vars costs)) (rounds turns for_round m) low p q entry floor m.cells others taken
  for_goes m p q entry others taken order room one two at_top at_end =
      let first = begin_goes s l m p entry others taken order.words one two at_top in
      let rest = for_turns m first.end first.left taken (begun s l m others taken order room) turns (omega arith) in
      goes_to s (then_goes s (rounds turns for_round) first rest.0) (cond-false (nat_lt turns turns) top (loop_end s l) (le-ltb turns turns (omega arith)) ∙ at_end)

module _ (s : Setting) where
  open s use {task, vars}

  -- where its body does what it means, a `for` does
  pub for_runs : (v n : ℕ) (body : Block) → ActFits (for_loop v n body) vars → BlockDoes s body → ActDoes s (for_loop v n body)
  for_runs v n body fits body_does m low p entry floor counter others taken order has stands =
      let own = has (omega arith) in
      let number = own.number in
      let code = block_code body vars (p + 4) (in_order (counter + 1)) in
      let line = at 0 (Loop counter n (p + 2)) in
      let two : p + 1 + 1 ≡ p + 2 = omega arith in
      let three : p + 1 + 1 + 1 ≡ p + 2 + 1 = omega arith in
      let four : p + 1 + 1 + 1 + 1 ≡ p + 4 = omega arith in
      let get = subst (λ k. LineAt s k 0 (Get counter)) two stands.1.1.0 in
      let put = subst (λ k. LineAt s k 1 (Put (place vars v))) three stands.1.1.1.0 in
      let behind = subst (λ k. Stands task.code k (code ++ line)) four stands.1.1.1.1 in
      let at_number = own.at in
      let l : LoopIn s = record {
        turns = n;
        are_turns = fits.1;
        body = body;
        fits = fits.2;
        counter = counter;
        low = number;
        at_low = own.at;
        top = p + 2;
        body_at = p + 4;
        code = code;
        floor = floor;
        body_goes =
            λ m' entry' others' taken' order' room'.
            goes_by s (Walks body vars s.costs)
            (body_does m' (suc number) (p + 4) entry' floor (in_order (counter + 1)) others' taken' order'
            (ordered vars (suc number) (length others') body (counter + 1) (suc number) (omega arith) (omega arith) room') (stands_front task.code (p + 4) code line behind))
            (run_walk body vars s.costs m');
        count = (stands_back task.code (p + 4) code line behind).0;
      } in
      goes_lower s low
      (for_goes s l v fits.0 get put (omega arith) m p (p + length (act_code (for_loop v n body) vars p counter)) entry others taken order own.within stands.0 stands.1.0 refl (omega (arith, length-append code line)))
      own.above
