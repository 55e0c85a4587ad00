-- The total behind statements depends on the total before them alone, and doesn't fall; no other number is above it.
use Rattle.std.proofs.Common.{◌≡◌, ℕ, zero, suc, ◌+◌, ◌-◌, ◌*◌, ◌≤◌, ◌<◌, max, List, ap, ap₂, ◌∙◌, arith, Option, Some, None, mul-le-mul_left}
use Rattle.std.specs.Prelude.{IfSome}
use Rattle.tcel_core.specs.declared.var.Var.{Var}
use Rattle.tcel_core.specs.Cells.{width}
use Rattle.tcel_core.specs.Contents.{hold_of}
use Rattle.tcel_core.specs.Language.{Block, done, next, Stmt, item, choice, timed, Act, assign, assign_at, receive, send, for_loop, while_loop, copy}
use Rattle.tcel_target.specs.declared.costs.Costs.{Costs}
use Rattle.tcel_cost.specs.declared.numbers.Cost.{Cost}
use Rattle.tcel_cost.specs.CostSteps.{act_cost, block_cost, both, either, entered, from_start, greater, held, held_count, joined, passed, quiet_rounds, rounds, shown, stmt_cost, times, where_some}
use Rattle.tcel_cost.specs.Expressions.{expr_cycles}
use Rattle.tcel_cost.specs.Walks.{held_entry, jump_cost}
use Rattle.tcel_cost.proofs.CostWalks.{ActLoopsTurn, LoopsTurn, StmtLoopsTurn}
use Rattle.tcel_cost.proofs.SteadyWalks.{held_later, held_rises}

-- ---- by the total before

mutual
  pub block_total : (b : Block) (vars : List Var) (costs : Costs) (c d : Cost) → c.total ≡ d.total → (block_cost b vars costs c).total ≡ (block_cost b vars costs d).total
  block_total done vars costs c d e = e
  block_total (next s rest) vars costs c d e =
      block_total rest vars costs (stmt_cost s vars costs c) (stmt_cost s vars costs d) (stmt_total s vars costs c d e)

  pub stmt_total : (s : Stmt) (vars : List Var) (costs : Costs) (c d : Cost) → c.total ≡ d.total → (stmt_cost s vars costs c).total ≡ (stmt_cost s vars costs d).total
  stmt_total (item id act) vars costs c d e = act_total act vars costs c d e
  stmt_total (choice id test taken other) vars costs c d e =
      let k = expr_cycles costs test + costs.branch in
      let inner : k + c.total ≡ k + d.total = ap (λ n. k + n) e in
      ap₂ max (ap (λ n. jump_cost costs other + n) (block_total taken vars costs (passed k c) (passed k d) inner)) (block_total other vars costs (passed k c) (passed k d) inner)
  stmt_total (timed id window body) vars costs c d e =
      let hold = hold_of window body in
      block_total body vars costs (held hold c) (held hold d) (ap (held_entry hold) e)

  act_total : (act : Act) (vars : List Var) (costs : Costs) (c d : Cost) → c.total ≡ d.total → (act_cost act vars costs c).total ≡ (act_cost act vars costs d).total
  act_total (assign v e) vars costs c d same = ap (λ n. expr_cycles costs e + costs.store + n) same
  act_total (assign_at v i e) vars costs c d same = ap (λ n. expr_cycles costs i + expr_cycles costs e + costs.store_at + n) same
  act_total (receive v port) vars costs c d same = ap (λ n. costs.receive + n) same
  act_total (send e port) vars costs c d same = ap (λ n. expr_cycles costs e + costs.send + n) same
  act_total (copy a b) vars costs c d same = ap (λ n. width vars a * (costs.load + costs.store) + n) same
  act_total (for_loop v turns body) vars costs c d same =
      let all = (rounds turns (passed costs.loop_ (block_cost body vars costs (entered (costs.load + costs.store))))).total in
      ap (λ n. costs.const_ + costs.store + n + all) same
  act_total (while_loop test turns body) vars costs c d same =
      let k = expr_cycles costs test + costs.branch in
      let all = (rounds turns (passed costs.loop_ (block_cost body vars costs (entered k)))).total in
      ap (λ n. max (k + (costs.const_ + costs.store + n)) (costs.const_ + costs.store + n + all)) same

-- ---- it doesn't fall

mutual
  pub block_rises : (b : Block) (vars : List Var) (costs : Costs) (c : Cost) → c.total ≤ (block_cost b vars costs c).total
  block_rises done vars costs c = omega arith
  block_rises (next s rest) vars costs c =
      let one = stmt_rises s vars costs c in
      let two = block_rises rest vars costs (stmt_cost s vars costs c) in
      omega (arith, one, two)

  pub stmt_rises : (s : Stmt) (vars : List Var) (costs : Costs) (c : Cost) → c.total ≤ (stmt_cost s vars costs c).total
  stmt_rises (item id act) vars costs c = act_rises act vars costs c
  stmt_rises (choice id test taken other) vars costs c =
      let k = expr_cycles costs test + costs.branch in
      let one = block_rises other vars costs (passed k c) in
      omega (arith, one)
  stmt_rises (timed id window body) vars costs c =
      let hold = hold_of window body in
      let one = held_later hold c.total in
      let two = block_rises body vars costs (held hold c) in
      omega (arith, one, two)

  act_rises : (act : Act) (vars : List Var) (costs : Costs) (c : Cost) → c.total ≤ (act_cost act vars costs c).total
  act_rises (assign v e) vars costs c = omega arith
  act_rises (assign_at v i e) vars costs c = omega arith
  act_rises (receive v port) vars costs c = omega arith
  act_rises (send e port) vars costs c = omega arith
  act_rises (copy a b) vars costs c = omega arith
  act_rises (for_loop v turns body) vars costs c = omega arith
  act_rises (while_loop test turns body) vars costs c = omega arith

-- ---- events are after the frame's start, and no number is above the total

abbrev Within : ℕ → Option ℕ → Type 0
Within limit count = IfSome count (λ n. (0 < n) × (n ≤ limit))

abbrev Below : ℕ → Option ℕ → Type 0
Below limit count = IfSome count (λ n. n ≤ limit)

pub record IsOrdered (c : Cost) : Type 0 where
  pub first : Within c.total c.first
  pub last : Within c.total c.last
  pub quiet : Below c.total c.quiet

within_more : (a b : ℕ) (o : Option ℕ) → a ≤ b → Within a o → Within b o
within_more a b None l h = tt
within_more a b (Some n) l h = (h.0, let m = h.1 in omega arith)

within_greater : (a : ℕ) (o p : Option ℕ) → Within a o → Within a p → Within a (greater o p)
within_greater a None p h g = g
within_greater a (Some n) None h g = h
within_greater a (Some n) (Some m) h g = let x = h.0 in let y = h.1 in let z = g.1 in (omega arith, omega arith)

within_from : (k a : ℕ) (o : Option ℕ) → Within a o → Within (k + a) (from_start k o)
within_from k a None h = tt
within_from k a (Some n) h = let x = h.0 in let y = h.1 in (omega arith, omega arith)

within_both : (a b : ℕ) (o p : Option ℕ) → Below a o → Within b p → Within (a + b) (both o p)
within_both a b None p h g = tt
within_both a b (Some n) p h g = within_more (n + b) (a + b) (from_start n p) (omega (arith, h)) (within_from n b p g)

within_where : (a : ℕ) (o p : Option ℕ) → Within a p → Within a (where_some o p)
within_where a None p h = tt
within_where a (Some n) p h = h

within_event : (k a : ℕ) (o : Option ℕ) → 0 < k → Below a o → Within (k + a) (from_start k o)
within_event k a None l h = tt
within_event k a (Some n) l h = (omega arith, omega (arith, h))

below_from : (k a : ℕ) (o : Option ℕ) → Below a o → Below (k + a) (from_start k o)
below_from k a None h = tt
below_from k a (Some n) h = omega (arith, h)

below_held : (a : ℕ) (hold o : Option ℕ) → Below a o → Below (held_entry hold a) (held_count hold o)
below_held a hold None h = tt
below_held a hold (Some n) h = held_rises hold n a h

below_greater : (a b : ℕ) (o p : Option ℕ) → Below a o → Below b p → Below (max a b) (greater o p)
below_greater a b None None h g = tt
below_greater a b None (Some m) h g = omega (arith, g)
below_greater a b (Some n) None h g = omega (arith, h)
below_greater a b (Some n) (Some m) h g = omega (arith, h, g)

below_both : (a b : ℕ) (o p : Option ℕ) → Below a o → Below b p → Below (a + b) (both o p)
below_both a b None p h g = tt
below_both a b (Some n) None h g = tt
below_both a b (Some n) (Some m) h g = omega (arith, h, g)

below_times : (n a : ℕ) (o : Option ℕ) → Below a o → Below (n * a) (times n o)
below_times n a None h = tt
below_times n a (Some m) h = mul-le-mul_left n h

below_quiet : (n a : ℕ) (o : Option ℕ) → Below a o → quiet_rounds n o ≤ n * a
below_quiet n a None h = omega arith
below_quiet n a (Some m) h = mul-le-mul_left n h

pub entered_ordered : (n : ℕ) → IsOrdered (entered n)
entered_ordered n = record { first = tt; last = tt; quiet = omega arith }

passed_ordered : (k : ℕ) (c : Cost) → IsOrdered c → IsOrdered (passed k c)
passed_ordered k c h = record {
  first = within_more c.total (k + c.total) c.first (omega arith) h.first;
  last = within_more c.total (k + c.total) c.last (omega arith) h.last;
  quiet = below_from k c.total c.quiet h.quiet;
}

shown_ordered : (k : ℕ) (c : Cost) → 0 < k → IsOrdered c → IsOrdered (shown k c)
shown_ordered k c some h = record {
  first =
      within_greater (k + c.total) c.first (from_start k c.quiet) (within_more c.total (k + c.total) c.first (omega arith) h.first)
      (within_event k c.total c.quiet some h.quiet);
  last = (omega arith, omega arith);
  quiet = tt;
}

held_ordered : (hold : Option ℕ) (c : Cost) → IsOrdered c → IsOrdered (held hold c)
held_ordered hold c h = record {
  first = within_more c.total (held_entry hold c.total) c.first (held_later hold c.total) h.first;
  last = within_more c.total (held_entry hold c.total) c.last (held_later hold c.total) h.last;
  quiet = below_held c.total hold c.quiet h.quiet;
}

either_ordered : (c d : Cost) → IsOrdered c → IsOrdered d → IsOrdered (either c d)
either_ordered c d h g =
    let most = max c.total d.total in
    record {
      first = within_greater most c.first d.first (within_more c.total most c.first (omega arith) h.first) (within_more d.total most d.first (omega arith) g.first);
      last = within_greater most c.last d.last (within_more c.total most c.last (omega arith) h.last) (within_more d.total most d.last (omega arith) g.last);
      quiet = below_greater c.total d.total c.quiet d.quiet h.quiet g.quiet;
    }

joined_ordered : (c r : Cost) → IsOrdered c → IsOrdered r → IsOrdered (joined c r)
joined_ordered c r h g =
    let all = c.total + r.total in
    record {
      first =
          within_greater all c.first (both c.quiet r.first) (within_more c.total all c.first (omega arith) h.first)
          (within_both c.total r.total c.quiet r.first h.quiet g.first);
      last =
          within_greater all (from_start c.total r.last) (where_some r.quiet c.last) (within_from c.total r.total r.last g.last)
          (within_where all r.quiet c.last (within_more c.total all c.last (omega arith) h.last));
      quiet = below_both c.total r.total c.quiet r.quiet h.quiet g.quiet;
    }

-- one round less, and one
one_less : (n a : ℕ) → 0 < n → (n - 1) * a + a ≡ n * a
one_less zero a some = absurd (omega arith)
one_less (suc n) a some = let e : suc n - 1 ≡ n = omega arith in ap (λ m. m * a + a) e ∙ omega arith

rounds_ordered : (n : ℕ) (r : Cost) → 0 < n → IsOrdered r → IsOrdered (rounds n r)
rounds_ordered n r some h =
    let all = one_less n r.total some in
    record {
      first =
          within_more (quiet_rounds (n - 1) r.quiet + r.total) (n * r.total) (from_start (quiet_rounds (n - 1) r.quiet) r.first)
          (let q = below_quiet (n - 1) r.total r.quiet h.quiet in omega arith)
          (within_from (quiet_rounds (n - 1) r.quiet) r.total r.first h.first);
      last =
          within_more ((n - 1) * r.total + r.total) (n * r.total) (from_start ((n - 1) * r.total) r.last) (omega arith)
          (within_from ((n - 1) * r.total) r.total r.last h.last);
      quiet = below_times n r.total r.quiet h.quiet;
    }

-- a receive and a send take a cycle
pub record EventsTakeTime (costs : Costs) : Type 0 where
  pub receives : 0 < costs.receive
  pub sends : 0 < costs.send

module _ (costs : Costs) (timed_events : EventsTakeTime costs) (vars : List Var) where
  mutual
    pub block_ordered : (b : Block) → LoopsTurn b → (c : Cost) → IsOrdered c → IsOrdered (block_cost b vars costs c)
    block_ordered done h c of = of
    block_ordered (next s rest) h c of = block_ordered rest h.1 (stmt_cost s vars costs c) (stmt_ordered s h.0 c of)

    stmt_ordered : (s : Stmt) → StmtLoopsTurn s → (c : Cost) → IsOrdered c → IsOrdered (stmt_cost s vars costs c)
    stmt_ordered (item id act) h c of = act_ordered act h c of
    stmt_ordered (choice id test taken other) h c of =
        let k = expr_cycles costs test + costs.branch in
        let inner = passed_ordered k c of in
        either_ordered (passed (jump_cost costs other) (block_cost taken vars costs (passed k c))) (block_cost other vars costs (passed k c))
        (passed_ordered (jump_cost costs other) (block_cost taken vars costs (passed k c)) (block_ordered taken h.0 (passed k c) inner))
        (block_ordered other h.1 (passed k c) inner)
    stmt_ordered (timed id window body) h c of =
        block_ordered body h (held (hold_of window body) c) (held_ordered (hold_of window body) c of)

    act_ordered : (act : Act) → ActLoopsTurn act → (c : Cost) → IsOrdered c → IsOrdered (act_cost act vars costs c)
    act_ordered (assign v e) h c of = passed_ordered (expr_cycles costs e + costs.store) c of
    act_ordered (assign_at v i e) h c of = passed_ordered (expr_cycles costs i + expr_cycles costs e + costs.store_at) c of
    act_ordered (receive v port) h c of = shown_ordered costs.receive c timed_events.receives of
    act_ordered (send e port) h c of = shown_ordered (expr_cycles costs e + costs.send) c (let s = timed_events.sends in omega arith) of
    act_ordered (copy a b) h c of = passed_ordered (width vars a * (costs.load + costs.store)) c of
    act_ordered (for_loop v turns body) h c of =
        let begun = costs.const_ + costs.store in
        let k = costs.load + costs.store in
        joined_ordered (passed begun c) (rounds turns (passed costs.loop_ (block_cost body vars costs (entered k)))) (passed_ordered begun c of)
        (rounds_ordered turns (passed costs.loop_ (block_cost body vars costs (entered k))) h.0 (passed_ordered costs.loop_ (block_cost body vars costs (entered k)) (block_ordered body h.1 (entered k) (entered_ordered k))))
    act_ordered (while_loop test turns body) h c of =
        let begun = costs.const_ + costs.store in
        let k = expr_cycles costs test + costs.branch in
        let start = passed_ordered begun c of in
        either_ordered (passed k (passed begun c)) (joined (passed begun c) (rounds turns (passed costs.loop_ (block_cost body vars costs (entered k)))))
        (passed_ordered k (passed begun c) start)
        (joined_ordered (passed begun c) (rounds turns (passed costs.loop_ (block_cost body vars costs (entered k)))) start
        (rounds_ordered turns (passed costs.loop_ (block_cost body vars costs (entered k))) h.0 (passed_ordered costs.loop_ (block_cost body vars costs (entered k)) (block_ordered body h.1 (entered k) (entered_ordered k)))))
