-- What the loops share: a counter behind the words of the variables, and a body with the count behind it.
use Rattle.std.proofs.Common.{pos, ◌≡◌, ℕ, suc, ◌+◌, ◌-◌, ◌<◌, ◌≤◌, cond, ℤ, List, ◌∷◌, ◌++◌, length, get_or, set, refl, ap, ◌∙◌, arith, rules}
use Rattle.std.specs.Prelude.{◌+ℤ◌, ◌^◌, nat_lt, int_lt}
use Rattle.std.specs.Int.{w64}
use Rattle.std.proofs.lemmas.Int.{int_wrap_fits}
use Rattle.std.proofs.lemmas.List.{get_or-append-add, get_or-set_other, get_or-set_same, length-set, set-append_right}
use Rattle.tcel_num.specs.Arithmetic.{wrapped}
use Rattle.tcel_core.specs.declared.var.Var.{Var}
use Rattle.tcel_core.specs.Cells.{all_words}
use Rattle.tcel_core.specs.Contents.{loops}
use Rattle.tcel_core.specs.Language.{Block}
use Rattle.tcel_core.specs.Meaning.{exec}
use Rattle.tcel_core.specs.Outcome.{Memory, Outcome, quiet}
use Rattle.tcel_core.specs.Scope.{AreTurns, Fits}
use Rattle.tcel_core.proofs.Bodies.{block_words, block_remains}
use Rattle.tcel_core.proofs.Remain.{takes}
use Rattle.tcel_target.specs.declared.costs.CostKey.TheVariants as keys
use Rattle.tcel_image.specs.declared.image.Instr.TheVariants.{Const, Loop, Put}
use Rattle.tcel_image.specs.declared.image.Line.{Line}
use Rattle.tcel_cost.specs.Walks.{Counts, Walks, Then, Passes}
use Rattle.tcel_code.proofs.Ahead.{quietly}
use Rattle.tcel_code.proofs.Runs.{Goes, Runs, InOrder, goes_lower, pass_goes, then_quiet}
use Rattle.tcel_code.proofs.Steps.{Setting, LineAt, ready_at, ahead_at, quiet_step}

-- a counter counts on
counts_on : (j : ℕ) → suc j < 2 ^ 63 → wrapped (pos j +ℤ pos 1) ≡ pos (suc j)
counts_on j h = let e : j + 1 ≡ suc j = omega arith in ap (λ k. wrapped (pos k)) e ∙ int_wrap_fits w64 (pos (suc j)) (search rules)

-- the word of a counter
pub counter_word : (vars : List Var) (cells others : List ℤ) (counter low : ℕ) → length cells ≡ all_words vars → counter ≡ all_words vars + low → get_or (cells ++ others) counter (pos 0) ≡ get_or others low (pos 0)
counter_word vars cells others counter low words at_low =
    let there : counter ≡ length cells + low = omega arith in
    ap (λ k. get_or (cells ++ others) k (pos 0)) there ∙ get_or-append-add cells others low (pos 0)

pub counter_set : (vars : List Var) (cells others : List ℤ) (counter low : ℕ) (x : ℤ) → length cells ≡ all_words vars → counter ≡ all_words vars + low → set (cells ++ others) counter x ≡ cells ++ set others low x
counter_set vars cells others counter low x words at_low =
    let past : counter - length cells ≡ low = omega arith in
    set-append_right cells others (length cells) counter x refl (omega arith) ∙ ap (λ k. cells ++ set others k x) past

-- a loop in the code: a round starts at its top, and its body stands before the count
pub record LoopIn (s : Setting) : Type 0 where
  pub turns : ℕ
  pub are_turns : AreTurns turns
  pub body : Block
  pub fits : Fits body s.vars
  -- where its counter is, among all words and among those behind the variables'
  pub counter : ℕ
  pub low : ℕ
  pub at_low : counter ≡ all_words s.vars + low
  pub top : ℕ
  pub body_at : ℕ
  pub code : List Line
  pub floor : ℕ
  pub body_goes : (m : Memory) (entry : ℕ) (others : List ℤ) (taken : List ℕ) → InOrder s m taken → suc low + loops body ≤ length others →
      Runs s (Walks body s.vars s.costs) code (exec body s.vars m) (suc low) body_at entry floor m.cells others taken
  pub count : LineAt s (body_at + length code) 0 (Loop counter turns top)

module _ (s : Setting) (l : LoopIn s) where
  open s use {costs, ranges, inputs, vars, frame, stack}
  open l use {turns, are_turns, body, fits, counter, low, at_low, top, body_at, code, floor}

  -- behind the loop
  abbrev pub loop_end : ℕ
  loop_end = body_at + length code + 1

  -- where a walk goes on when so many turns are done
  abbrev pub after_turns : ℕ → ℕ
  after_turns j = cond (nat_lt j turns) top loop_end

  -- what a walk finds when so many turns are done
  pub record AtTurn (j : ℕ) (m : Memory) (others : List ℤ) (taken : List ℕ) : Type 0 where
    pub order : InOrder s m taken
    pub room : low + (1 + loops body) ≤ length others
    pub counted : get_or others low (pos 0) ≡ pos j

  -- from a place to where so many turns are done
  abbrev pub GoesToTurn : (walks : Counts) (o : Outcome) (j p entry : ℕ) (m : Memory) (others : List ℤ) (taken : List ℕ) → Type 0
  GoesToTurn walks o j p entry m others taken =
      (g : Goes s walks o low p (after_turns j) entry floor m.cells others taken) × AtTurn j o.memory g.left (takes o.events taken)

  -- the counter begins at 0
  abbrev pub begin_goes : (m : Memory) (p entry : ℕ) (others : List ℤ) (taken : List ℕ) → length m.cells ≡ all_words vars → LineAt s p 0 (Const (pos 0)) → LineAt s (p + 1) 1 (Put counter) → p + 2 ≡ top →
      Goes s (Passes (costs.const_ + costs.store)) (quiet m) low p top entry floor m.cells others taken
  begin_goes m p entry others taken words one two at_top =
      let others' = set others low (pos 0) in
      let on : p + 1 + 1 ≡ top = omega arith in
      pass_goes s (costs.const_ + costs.store) m low p top entry floor m.cells others others' taken (length-set others low (pos 0))
      (λ j h. get_or-set_other others low j (pos 0) (pos 0) (λ e. absurd (omega arith)))
      (λ dues ran since ahead.
      quiet_step s taken dues (Const (pos 0)) 0 (λ now r. refl) (ranges keys.Const).0 p (p + 1) ran since stack (pos 0 ∷ stack) (m.cells ++ others) (m.cells ++ others) one (λ spent. refl)
      (quiet_step s taken dues (Put counter) 1 (λ now r. refl) (ranges keys.Store).0 (p + 1) top (ran + costs.const_) (since + costs.const_) (pos 0 ∷ stack) stack (m.cells ++ others) (m.cells ++ others')
      two
      (λ spent. ap (λ l. quietly (ready_at costs (p + 1 + 1) stack l frame taken)) (counter_set vars m.cells others counter low (pos 0) words at_low) ∙ ap (λ k. quietly (ready_at costs k stack (m.cells ++ others') frame taken)) on)
      (ahead_at s taken dues _ _ _ _ top top stack (m.cells ++ others') (omega arith) (omega arith) refl ahead)))

  pub begun : (m : Memory) (others : List ℤ) (taken : List ℕ) → InOrder s m taken → low + (1 + loops body) ≤ length others → AtTurn 0 m (set others low (pos 0)) taken
  begun m others taken order room =
      let same = length-set others low (pos 0) in record {
        order = order;
        room = omega arith;
        counted = get_or-set_same others low (pos 0) (pos 0) (omega arith);
      }

  -- the count: on to the next round, or behind the loop
  abbrev count_goes : (j : ℕ) (m : Memory) (entry : ℕ) (others : List ℤ) (taken : List ℕ) → length m.cells ≡ all_words vars → get_or others low (pos 0) ≡ pos j → j < turns →
      Goes s (Passes costs.loop_) (quiet m) low (body_at + length code) (after_turns (suc j)) entry floor m.cells others taken
  count_goes j m entry others taken words counted less =
      let p = body_at + length code in
      let q = after_turns (suc j) in
      let others' = set others low (pos (suc j)) in
      let small = are_turns.countable in
      let word = counter_word vars m.cells others counter low words at_low ∙ counted in
      let next = ap (λ x. wrapped (x +ℤ pos 1)) word ∙ counts_on j (omega arith) in
      pass_goes s costs.loop_ m low p q entry floor m.cells others others' taken (length-set others low (pos (suc j)))
      (λ k h. get_or-set_other others low k (pos (suc j)) (pos 0) (λ e. absurd (omega arith)))
      (λ dues ran since ahead.
      quiet_step s taken dues (Loop counter turns top) 0 (λ now r. refl) (ranges keys.Loop).0 p q ran since stack stack (m.cells ++ others) (m.cells ++ others') l.count
      (λ spent.
      ap (λ x. quietly (ready_at costs (cond (int_lt x (pos turns)) top (p + 1)) stack (set (m.cells ++ others) counter x) frame taken)) next
      ∙ ap (λ w. quietly (ready_at costs q stack w frame taken)) (counter_set vars m.cells others counter low (pos (suc j)) words at_low))
      ahead)

  -- a body and the count behind it
  pub turn_goes : (j : ℕ) (m : Memory) (entry : ℕ) (others : List ℤ) (taken : List ℕ) → AtTurn j m others taken → j < turns →
      GoesToTurn (Then (Walks body vars costs) (Passes costs.loop_)) (exec body vars m) (suc j) body_at entry m others taken
  turn_goes j m entry others taken now less =
      let room = now.room in
      let r = l.body_goes m entry others taken now.order (omega arith) in
      let o = exec body vars m in
      let words = block_words body vars fits m now.order.words in
      let same = r.as_many in
      let longer = length-set r.left low (pos (suc j)) in (
        then_quiet s (goes_lower s low r (omega arith)) (count_goes j o.memory r.end r.left (takes o.events taken) words (r.kept low (omega arith) ∙ now.counted) less),
        record {
          order = record { words = words; remain = block_remains body vars fits inputs m taken now.order.remain };
          room = omega arith;
          counted = get_or-set_same r.left low (pos (suc j)) (pos 0) (omega arith);
        },
      )
