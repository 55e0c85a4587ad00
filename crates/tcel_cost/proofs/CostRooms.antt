-- How much the numbers of a cost grow with a body.
use Rattle.std.proofs.Common.{◌≡◌, ℕ, zero, suc, ◌+◌, ◌-◌, ◌*◌, ◌≤◌, ◌<◌, ◌^◌, max, List, [], ◌∷◌, map, refl, sym, ap, ◌∙◌, subst, arith, Option, Some, None, mul-le-mul_left, mul-le-mul_right}
use Rattle.std.specs.Prelude.{IfSome}
use Rattle.tcel_core.specs.declared.body.CoreStmt.{CoreStmt}
use Rattle.tcel_core.specs.declared.var.Var.{Var}
use Rattle.tcel_core.specs.Contents.{hold_of}
use Rattle.tcel_core.specs.Language.{Block, done, next, Stmt, item, choice, timed, Act, assign, assign_at, receive, send, for_loop, while_loop, copy}
use Rattle.tcel_core.specs.Plain.{block_of, plain_stmt}
use Rattle.tcel_target.specs.declared.costs.Costs.{Costs}
use Rattle.tcel_cost.specs.declared.numbers.Cost.{Cost}
use Rattle.tcel_cost.specs.CostSteps.{act_cost, block_cost, both, either, entered, from_start, greater, held, held_count, joined, passed, quiet_rounds, rounds, shown, stmt_cost, times, where_some}
use Rattle.tcel_cost.specs.Expressions.{expr_cycles}
use Rattle.tcel_cost.specs.Rooms.{CanJoin, CanRepeat, HasRoom, IsUpTo, act_most, block_most, stmt_most}
use Rattle.tcel_cost.specs.Walks.{held_entry, jump_cost}

-- ---- counts that may be absent

abbrev Below : ℕ → Option ℕ → Type 0
Below limit count = IfSome count (λ n. n ≤ limit)

below_more : (a b : ℕ) (o : Option ℕ) → a ≤ b → Below a o → Below b o
below_more a b None l h = h
below_more a b (Some n) l h = omega (arith, l, h)

below_greater : (a : ℕ) (o p : Option ℕ) → Below a o → Below a p → Below a (greater o p)
below_greater a None p h g = g
below_greater a (Some n) None h g = h
below_greater a (Some n) (Some m) h g = omega (arith, h, g)

below_from : (k a : ℕ) (o : Option ℕ) → Below a o → Below (k + a) (from_start k o)
below_from k a None h = tt
below_from k a (Some n) h = omega (arith, h)

below_both : (a b : ℕ) (o p : Option ℕ) → Below a o → Below b p → Below (a + b) (both o p)
below_both a b None p h g = tt
below_both a b (Some n) p h g = below_more (n + b) (a + b) (from_start n p) (omega (arith, h)) (below_from n b p g)

below_where : (a : ℕ) (o p : Option ℕ) → Below a p → Below a (where_some o p)
below_where a None p h = tt
below_where a (Some n) p h = h

below_held : (a : ℕ) (hold o : Option ℕ) → Below a o → Below (held_entry hold 0 + a) (held_count hold o)
below_held a hold None h = tt
below_held a None (Some n) h = omega (arith, h)
below_held a (Some bound) (Some n) h = omega (arith, h)

held_below : (a n : ℕ) (hold : Option ℕ) → n ≤ a → held_entry hold n ≤ held_entry hold 0 + a
held_below a n None h = omega arith
held_below a n (Some bound) h = omega arith

-- ---- costs

pub upto_more : {c : Cost} (a b : ℕ) → a ≤ b → IsUpTo a c → IsUpTo b c
upto_more {c = c} a b l h = record {
  total = (let t = h.total in omega arith);
  first = below_more a b c.first l h.first;
  last = below_more a b c.last l h.last;
  quiet = below_more a b c.quiet l h.quiet;
}

pub entered_upto : (n : ℕ) → IsUpTo n (entered n)
entered_upto n = record { total = omega arith; first = tt; last = tt; quiet = omega arith }

pub passed_upto : (k a : ℕ) (c : Cost) → IsUpTo a c → IsUpTo (k + a) (passed k c)
passed_upto k a c h = record {
  total = (let t = h.total in omega arith);
  first = below_more a (k + a) c.first (omega arith) h.first;
  last = below_more a (k + a) c.last (omega arith) h.last;
  quiet = below_from k a c.quiet h.quiet;
}

shown_upto : (k a : ℕ) (c : Cost) → IsUpTo a c → IsUpTo (k + a) (shown k c)
shown_upto k a c h =
    let total : k + c.total ≤ k + a = (let t = h.total in omega arith) in
    record {
      total = total;
      first = below_greater (k + a) c.first (from_start k c.quiet) (below_more a (k + a) c.first (omega arith) h.first) (below_from k a c.quiet h.quiet);
      last = total;
      quiet = tt;
    }

pub held_upto : (hold : Option ℕ) (a : ℕ) (c : Cost) → IsUpTo a c → IsUpTo (held_entry hold 0 + a) (held hold c)
held_upto hold a c h = record {
  total = held_below a c.total hold h.total;
  first = below_more a (held_entry hold 0 + a) c.first (omega arith) h.first;
  last = below_more a (held_entry hold 0 + a) c.last (omega arith) h.last;
  quiet = below_held a hold c.quiet h.quiet;
}

pub either_upto : (a : ℕ) (c d : Cost) → IsUpTo a c → IsUpTo a d → IsUpTo a (either c d)
either_upto a c d h g = record {
  total = (let t = h.total in let s = g.total in omega arith);
  first = below_greater a c.first d.first h.first g.first;
  last = below_greater a c.last d.last h.last g.last;
  quiet = below_greater a c.quiet d.quiet h.quiet g.quiet;
}

joined_upto : (a b : ℕ) (c r : Cost) → IsUpTo a c → IsUpTo b r → IsUpTo (a + b) (joined c r)
joined_upto a b c r h g = record {
  total = (let t = h.total in let s = g.total in omega arith);
  first =
      below_greater (a + b) c.first (both c.quiet r.first) (below_more a (a + b) c.first (omega arith) h.first)
      (below_both a b c.quiet r.first h.quiet g.first);
  last =
      below_greater (a + b) (from_start c.total r.last) (where_some r.quiet c.last)
      (below_more (c.total + b) (a + b) (from_start c.total r.last) (let t = h.total in omega arith) (below_from c.total b r.last g.last))
      (below_where (a + b) r.quiet c.last (below_more a (a + b) c.last (omega arith) h.last));
  quiet = below_both a b c.quiet r.quiet h.quiet g.quiet;
}

-- ---- rounds

-- so many times what is below a limit
times_below : (n a : ℕ) (o : Option ℕ) → Below a o → Below (n * a) (times n o)
times_below n a None h = tt
times_below n a (Some m) h = mul-le-mul_left n h

quiet_below : (n a : ℕ) (o : Option ℕ) → Below a o → quiet_rounds n o ≤ n * a
quiet_below n a None h = omega arith
quiet_below n a (Some m) h = mul-le-mul_left n h

-- the rounds before the last and the last
last_round : (n a : ℕ) → (n - 1) * a + a ≤ max 1 n * a
last_round zero a = let e : zero - 1 ≡ 0 = omega arith in subst (λ m. m * a + a ≤ max 1 zero * a) (sym e) (let f : max 1 zero ≡ 1 = omega arith in subst (λ m. 0 * a + a ≤ m * a) (sym f) (omega arith))
last_round (suc n) a =
    let e : suc n - 1 ≡ n = omega arith in
    let f : max 1 (suc n) ≡ n + 1 = omega arith in
    subst (λ m. m * a + a ≤ max 1 (suc n) * a) (sym e) (subst (λ m. n * a + a ≤ m * a) (sym f) (omega arith))

all_rounds : (n a : ℕ) → n * a ≤ max 1 n * a
all_rounds n a = let l : n ≤ max 1 n = omega arith in mul-le-mul_right a l

rounds_upto : (n a : ℕ) (r : Cost) → IsUpTo a r → IsUpTo (max 1 n * a) (rounds n r)
rounds_upto n a r h = record {
  total = (let t = mul-le-mul_left n h.total in let m = all_rounds n a in omega arith);
  first =
      below_more (quiet_rounds (n - 1) r.quiet + a) (max 1 n * a) (from_start (quiet_rounds (n - 1) r.quiet) r.first)
      (let q = quiet_below (n - 1) a r.quiet h.quiet in let m = last_round n a in omega arith)
      (below_from (quiet_rounds (n - 1) r.quiet) a r.first h.first);
  last =
      below_more ((n - 1) * r.total + a) (max 1 n * a) (from_start ((n - 1) * r.total) r.last)
      (let t = mul-le-mul_left (n - 1) h.total in let m = last_round n a in omega arith)
      (below_from ((n - 1) * r.total) a r.last h.last);
  quiet = below_more (n * a) (max 1 n * a) (times n r.quiet) (all_rounds n a) (times_below n a r.quiet h.quiet);
}

-- ---- statements

some_cycles : (a k : ℕ) (c : Cost) → IsUpTo a c → IsUpTo (a + k) (passed k c)
some_cycles a k c h = upto_more (k + a) (a + k) (omega arith) (passed_upto k a c h)

an_event : (a k : ℕ) (c : Cost) → IsUpTo a c → IsUpTo (a + k) (shown k c)
an_event a k c h = upto_more (k + a) (a + k) (omega arith) (shown_upto k a c h)

-- a round that begins with so many cycles, by its body
round_upto : (k m more : ℕ) (c : Cost) → IsUpTo (k + m) c → IsUpTo (k + m + more) (passed more c)
round_upto k m more c h = upto_more (more + (k + m)) (k + m + more) (omega arith) (passed_upto more (k + m) c h)

mutual
  pub block_upto : (b : Block) (vars : List Var) (costs : Costs) (a : ℕ) (c : Cost) → IsUpTo a c → IsUpTo (a + block_most b vars costs) (block_cost b vars costs c)
  block_upto done vars costs a c h = upto_more a (a + 0) (omega arith) h
  block_upto (next s rest) vars costs a c h =
      upto_more (a + stmt_most s vars costs + block_most rest vars costs) (a + (stmt_most s vars costs + block_most rest vars costs)) (omega arith)
      (block_upto rest vars costs (a + stmt_most s vars costs) (stmt_cost s vars costs c) (stmt_upto s vars costs a c h))

  pub stmt_upto : (s : Stmt) (vars : List Var) (costs : Costs) (a : ℕ) (c : Cost) → IsUpTo a c → IsUpTo (a + stmt_most s vars costs) (stmt_cost s vars costs c)
  stmt_upto (item id act) vars costs a c h = act_upto act vars costs a c h
  stmt_upto (choice id test taken other) vars costs a c h =
      let k = expr_cycles costs test + costs.branch in
      let jump = jump_cost costs other in
      let m = block_most taken vars costs in
      let n = block_most other vars costs in
      let inner = passed_upto k a c h in
      either_upto (a + (k + (m + jump + n))) (passed jump (block_cost taken vars costs (passed k c))) (block_cost other vars costs (passed k c))
      (upto_more (jump + (k + a + m)) (a + (k + (m + jump + n))) (omega arith)
      (passed_upto jump (k + a + m) (block_cost taken vars costs (passed k c)) (block_upto taken vars costs (k + a) (passed k c) inner)))
      (upto_more (k + a + n) (a + (k + (m + jump + n))) (omega arith) (block_upto other vars costs (k + a) (passed k c) inner))
  stmt_upto (timed id window body) vars costs a c h =
      let hold = hold_of window body in
      upto_more (held_entry hold 0 + a + block_most body vars costs) (a + (held_entry hold 0 + block_most body vars costs)) (omega arith)
      (block_upto body vars costs (held_entry hold 0 + a) (held hold c) (held_upto hold a c h))

  pub act_upto : (act : Act) (vars : List Var) (costs : Costs) (a : ℕ) (c : Cost) → IsUpTo a c → IsUpTo (a + act_most act vars costs) (act_cost act vars costs c)
  act_upto (assign v e) vars costs a c h = some_cycles a (act_most (assign v e) vars costs) c h
  act_upto (assign_at v i e) vars costs a c h = some_cycles a (act_most (assign_at v i e) vars costs) c h
  act_upto (receive v port) vars costs a c h = an_event a (act_most (receive v port) vars costs) c h
  act_upto (send e port) vars costs a c h = an_event a (act_most (send e port) vars costs) c h
  act_upto (copy v w) vars costs a c h = some_cycles a (act_most (copy v w) vars costs) c h
  act_upto (for_loop v turns body) vars costs a c h =
      let begun = costs.const_ + costs.store in
      let k = costs.load + costs.store in
      let all = max 1 turns * (k + block_most body vars costs + costs.loop_) in
      upto_more (begun + a + all) (a + (begun + all)) (omega arith)
      (joined_upto (begun + a) all (passed begun c) (rounds turns (passed costs.loop_ (block_cost body vars costs (entered k)))) (passed_upto begun a c h)
      (rounds_upto turns (k + block_most body vars costs + costs.loop_) (passed costs.loop_ (block_cost body vars costs (entered k))) (round_upto k (block_most body vars costs) costs.loop_ (block_cost body vars costs (entered k)) (block_upto body vars costs k (entered k) (entered_upto k)))))
  act_upto (while_loop test turns body) vars costs a c h =
      let begun = costs.const_ + costs.store in
      let k = expr_cycles costs test + costs.branch in
      let own = k + block_most body vars costs + costs.loop_ in
      let all = max 1 turns * own in
      let one = last_round turns own in
      either_upto (a + (begun + all)) (passed k (passed begun c)) (joined (passed begun c) (rounds turns (passed costs.loop_ (block_cost body vars costs (entered k)))))
      (upto_more (k + (begun + a)) (a + (begun + all)) (omega arith) (passed_upto k (begun + a) (passed begun c) (passed_upto begun a c h)))
      (upto_more (begun + a + all) (a + (begun + all)) (omega arith)
      (joined_upto (begun + a) all (passed begun c) (rounds turns (passed costs.loop_ (block_cost body vars costs (entered k)))) (passed_upto begun a c h)
      (rounds_upto turns own (passed costs.loop_ (block_cost body vars costs (entered k))) (round_upto k (block_most body vars costs) costs.loop_ (block_cost body vars costs (entered k)) (block_upto body vars costs k (entered k) (entered_upto k))))))

-- ---- rooms

pub room_for : (c : Cost) (a more : ℕ) → IsUpTo a c → a + more ≤ 2 ^ 63 → HasRoom c more
room_for c a more h l = record { limit = a; upto = h; room = l }

pub less_room : (c : Cost) (more less : ℕ) → less ≤ more → HasRoom c more → HasRoom c less
less_room c more less l h = record { limit = h.limit; upto = h.upto; room = (let r = h.room in omega arith) }

-- behind a statement there is room for the others
pub stmt_room : (s : Stmt) (vars : List Var) (costs : Costs) (c : Cost) (more : ℕ) → HasRoom c (stmt_most s vars costs + more) → HasRoom (stmt_cost s vars costs c) more
stmt_room s vars costs c more h =
    room_for (stmt_cost s vars costs c) (h.limit + stmt_most s vars costs) more (stmt_upto s vars costs h.limit c h.upto) (let r = h.room in omega arith)

pub block_room : (b : Block) (vars : List Var) (costs : Costs) (c : Cost) (more : ℕ) → HasRoom c (block_most b vars costs + more) → HasRoom (block_cost b vars costs c) more
block_room b vars costs c more h =
    room_for (block_cost b vars costs c) (h.limit + block_most b vars costs) more (block_upto b vars costs h.limit c h.upto) (let r = h.room in omega arith)

pub passed_room : (k : ℕ) (c : Cost) (more : ℕ) → HasRoom c (k + more) → HasRoom (passed k c) more
passed_room k c more h = room_for (passed k c) (k + h.limit) more (passed_upto k h.limit c h.upto) (let r = h.room in omega arith)

pub held_room : (hold : Option ℕ) (c : Cost) (more : ℕ) → HasRoom c (held_entry hold 0 + more) → HasRoom (held hold c) more
held_room hold c more h = room_for (held hold c) (held_entry hold 0 + h.limit) more (held_upto hold h.limit c h.upto) (let r = h.room in omega arith)

-- the first event of rounds that can be added up
pub first_fits : (n : ℕ) (r : Cost) (before quiet : ℕ) → CanRepeat n r → before ≡ n - 1 → quiet ≡ quiet_rounds before r.quiet → IfSome r.first (λ f. quiet + f < 2 ^ 64)
first_fits n r before quiet h e f = fits r.first (let some = below_from quiet h.limit r.first h.upto.first in some)
  where
    most : quiet ≤ (n - 1) * h.limit
    most = subst (λ q. q ≤ (n - 1) * h.limit) (sym (f ∙ ap (λ b. quiet_rounds b r.quiet) e)) (quiet_below (n - 1) h.limit r.quiet h.upto.quiet)

    fits : (o : Option ℕ) → Below (quiet + h.limit) (from_start quiet o) → IfSome o (λ f. quiet + f < 2 ^ 64)
    fits None g = tt
    fits (Some f) g = let m = most in let l = last_round n h.limit in let room = h.room in omega (arith, g)

-- ---- rooms of the parts of a statement

-- behind the test of an `if`
pub inner_room : (c inner : Cost) (cycles got branch more : ℕ) → HasRoom c (cycles + branch + more) → got ≡ cycles → inner ≡ passed (got + branch) c → HasRoom inner more
inner_room c inner cycles got branch more h same is =
    subst (λ d. HasRoom d more) (sym (is ∙ ap (λ n. passed (n + branch) c) same)) (passed_room (cycles + branch) c more h)

-- for the jump behind the first branch
pub jump_room : (b : Block) (vars : List Var) (costs : Costs) (inner after : Cost) (jump got more : ℕ) → HasRoom inner (block_most b vars costs + jump + more) →
    after ≡ block_cost b vars costs inner → got ≡ jump → HasRoom after got
jump_room b vars costs inner after jump got more h is same =
    let room = block_room b vars costs inner jump (less_room inner (block_most b vars costs + jump + more) (block_most b vars costs + jump) (omega arith) h) in
    subst (HasRoom after) (sym same) (subst (λ d. HasRoom d jump) (sym is) room)

-- in a block behind its hold
pub block_held_room : (hold got : Option ℕ) (c inner : Cost) (more : ℕ) → HasRoom c (held_entry hold 0 + more) → got ≡ hold → inner ≡ held got c → HasRoom inner more
block_held_room hold got c inner more h same is =
    subst (λ d. HasRoom d more) (sym (is ∙ ap (λ o. held o c) same)) (held_room hold c more h)

-- for the loop's instruction behind a body
pub round_room : (b : Block) (vars : List Var) (costs : Costs) (k : ℕ) (start after : Cost) → k + block_most b vars costs + costs.loop_ ≤ 2 ^ 63 →
    start ≡ entered k → after ≡ block_cost b vars costs start → HasRoom after costs.loop_
round_room b vars costs k start after h begins is =
    subst (λ d. HasRoom d costs.loop_) (sym (is ∙ ap (block_cost b vars costs) begins))
    (room_for (block_cost b vars costs (entered k)) (k + block_most b vars costs) costs.loop_ (block_upto b vars costs k (entered k) (entered_upto k)) h)

-- loops of which a round begins with so many cycles
module _ (body : Block) (vars : List Var) (costs : Costs) (c : Cost) (begun k turns : ℕ) where
  abbrev own : ℕ
  own = k + block_most body vars costs + costs.loop_

  abbrev all : ℕ
  all = max 1 turns * own

  abbrev round : Cost
  round = passed costs.loop_ (block_cost body vars costs (entered k))

  own_upto : IsUpTo own round
  own_upto = round_upto k (block_most body vars costs) costs.loop_ (block_cost body vars costs (entered k)) (block_upto body vars costs k (entered k) (entered_upto k))

  pub own_fits : HasRoom c (begun + all) → own ≤ 2 ^ 63
  own_fits h = let room = h.room in let one = last_round turns own in omega (arith, room, one)

  pub can_repeat : (got : Cost) → HasRoom c (begun + all) → got ≡ round → CanRepeat turns got
  can_repeat got h is = subst (CanRepeat turns) (sym is) (record { limit = own; upto = own_upto; room = (let room = h.room in omega arith) })

  pub can_join : (start got sum : Cost) → HasRoom c (begun + all) → start ≡ passed begun c → got ≡ round → sum ≡ rounds turns got → CanJoin start sum
  can_join start got sum h begins is sums =
      subst (λ d. CanJoin d sum) (sym begins)
      (subst (CanJoin (passed begun c)) (sym (sums ∙ ap (rounds turns) is))
      (record { limit = all; upto = rounds_upto turns own round own_upto; room = passed_room begun c all h }))

  -- for a last test
  pub test_room : (start : Cost) (got : ℕ) → HasRoom c (begun + all) → start ≡ passed begun c → got ≡ k → HasRoom start got
  test_room start got h begins same =
      let one = last_round turns own in
      let room = passed_room begun c k (less_room c (begun + all) (begun + k) (omega (arith, one)) h) in
      subst (HasRoom start) (sym same) (subst (λ d. HasRoom d k) (sym begins) room)

-- the jump behind a branch, where the other one has a statement
pub jump_some : (costs : Costs) (list : List CoreStmt) → (list ≡ [] → ⊥) → costs.jump ≡ jump_cost costs (block_of (map plain_stmt list))
jump_some costs [] h = absurd (h refl)
jump_some costs (x ∷ list) h = refl
