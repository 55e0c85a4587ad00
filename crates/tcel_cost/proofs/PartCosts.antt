-- What the bodies of checked tasks cost, whole and in parts, fits 64 bits, and their loops have turns and hold no `do` block.
use Rattle.std.proofs.Common.{◌≡◌, ℕ, zero, suc, ◌+◌, ◌*◌, ◌≤◌, ◌^◌, ◌||◌, Bool, true, false, not, max, List, [], ◌∷◌, length, map, filter, if◌then◌else◌, refl, sym, ap, ◌∙◌, subst, arith, Option, Some, None, inl, inr, mul-le-mul, mul-le-mul_left, mul-le-mul_right}
use Rattle.std.specs.List.{AllByRecursion}
use Rattle.std.specs.Prelude.{IfSome}
use Rattle.std.proofs.lemmas.List.Elements.{recursion_from_All}
use Rattle.std.proofs.lemmas.List.{length-map}
use Rattle.std.proofs.lemmas.List.Filters.{length-filter_both}
use Rattle.tcel_num.specs.declared.op.Op.{Op}
use Rattle.tcel_core.specs.declared.var.Var.{Var}
use Rattle.tcel_core.specs.declared.var.VarKind.{VarKind}
use Rattle.tcel_core.specs.Cells.{all_words, width, words_of}
use Rattle.tcel_core.specs.Contents.{has_event, hold_of}
use Rattle.tcel_core.specs.Kinds.{Slicing, holds_kept, is_fetched, is_live}
use Rattle.tcel_core.specs.Numbering.{numbers_from}
use Rattle.tcel_core.specs.Language.{Expr, number, variable, element, unary, binary, Window, Block, done, next, joined, Stmt, item, choice, timed, Act, assign, assign_at, receive, send, for_loop, while_loop, copy, Task}
use Rattle.tcel_core.specs.Limits.{ActIsWithinBounds, IsBounded, IsTime, IsWithinBounds, StmtIsWithinBounds, act_loop_depth, act_nodes, expr_nodes, loop_depth, nodes, stmt_loop_depth, stmt_nodes}
use Rattle.tcel_core.specs.Parts.{AreOwnParts, TaskParts, copies, copy_of, fetches, first_of_block, first_of_stmt, first_part, has_rest, inside_number, is_split, number_of, parts_of, renamed_act, renamed_block, renamed_expr, renamed_stmt, rest_of_block, rest_of_stmt, restores, saved, saves, slicing_of, split_choice, truth_of}
use Rattle.tcel_core.specs.Scope.{ActFits, ActIsUntimed, Fits, IsUntimed, LoopsAreUntimed, StmtFits, StmtIsUntimed, StmtLoopsAreUntimed}
use Rattle.tcel_core.specs.Sound.{IsDeclared, IsKind, IsSoundTask}
use Rattle.tcel_core.specs.Typing.{ActIsTyped, IsTyped, Names, StmtIsTyped}
use Rattle.tcel_core.proofs.Scope.{array_within}
use Rattle.tcel_parts.proofs.FittingParts.{own_parts_fit}
use Rattle.tcel_target.specs.declared.costs.Costs.{Costs}
use Rattle.tcel_target.specs.declared.costs.CostKey.TheVariants as keys
use Rattle.tcel_target.specs.Costs.{CostsInRange, cost_of}
use Rattle.tcel_cost.specs.Bodies.{IsTaskBody}
use Rattle.tcel_cost.specs.Expressions.{expr_cycles, operator_key}
use Rattle.tcel_cost.specs.Rooms.{act_most, block_most, stmt_most}
use Rattle.tcel_cost.specs.Walks.{held_entry, jump_cost}
use Rattle.tcel_cost.proofs.BoundEvents.{untimed_loops}
use Rattle.tcel_cost.proofs.CostTotals.{EventsTakeTime}
use Rattle.tcel_cost.proofs.CostWalks.{ActLoopsTurn, LoopsTurn, StmtLoopsTurn}
use Rattle.tcel_cost.proofs.PointCosts.{StmtWindowsAreTimes, WindowsAreTimes}

-- ---- loops have turns

mutual
  pub turns_by_bounds : (b : Block) → IsWithinBounds b → LoopsTurn b
  turns_by_bounds done h = tt
  turns_by_bounds (next s rest) h = (stmt_turns_by_bounds s h.0, turns_by_bounds rest h.1)

  stmt_turns_by_bounds : (s : Stmt) → StmtIsWithinBounds s → StmtLoopsTurn s
  stmt_turns_by_bounds (item id act) h = act_turns_by_bounds act h
  stmt_turns_by_bounds (choice id test held other) h = (turns_by_bounds held h.1, turns_by_bounds other h.2)
  stmt_turns_by_bounds (timed id window body) h = turns_by_bounds body h.1

  act_turns_by_bounds : (act : Act) → ActIsWithinBounds act → ActLoopsTurn act
  act_turns_by_bounds (assign v e) h = tt
  act_turns_by_bounds (assign_at v i e) h = tt
  act_turns_by_bounds (receive v port) h = tt
  act_turns_by_bounds (send e port) h = tt
  act_turns_by_bounds (for_loop v n body) h = (let some = h.0.some in omega arith, turns_by_bounds body h.1)
  act_turns_by_bounds (while_loop test n body) h = (let some = h.1.some in omega arith, turns_by_bounds body h.2)
  act_turns_by_bounds (copy a b) h = tt

mutual
  pub turns_by_scope : (b : Block) (vars : List Var) → Fits b vars → LoopsTurn b
  turns_by_scope done vars h = tt
  turns_by_scope (next s rest) vars h = (stmt_turns_by_scope s vars h.0, turns_by_scope rest vars h.1)

  stmt_turns_by_scope : (s : Stmt) (vars : List Var) → StmtFits s vars → StmtLoopsTurn s
  stmt_turns_by_scope (item id act) vars h = act_turns_by_scope act vars h
  stmt_turns_by_scope (choice id test held other) vars h = (turns_by_scope held vars h.1, turns_by_scope other vars h.2)
  stmt_turns_by_scope (timed id window body) vars h = turns_by_scope body vars h

  act_turns_by_scope : (act : Act) (vars : List Var) → ActFits act vars → ActLoopsTurn act
  act_turns_by_scope (assign v e) vars h = tt
  act_turns_by_scope (assign_at v i e) vars h = tt
  act_turns_by_scope (receive v port) vars h = tt
  act_turns_by_scope (send e port) vars h = tt
  act_turns_by_scope (for_loop v n body) vars h = (h.1.some, turns_by_scope body vars h.2)
  act_turns_by_scope (while_loop test n body) vars h = (h.1.some, turns_by_scope body vars h.2)
  act_turns_by_scope (copy a b) vars h = tt

-- ---- windows are times

mutual
  pub windows_by_bounds : (b : Block) → IsWithinBounds b → WindowsAreTimes b
  windows_by_bounds done h = tt
  windows_by_bounds (next s rest) h = (stmt_windows_by_bounds s h.0, windows_by_bounds rest h.1)

  stmt_windows_by_bounds : (s : Stmt) → StmtIsWithinBounds s → StmtWindowsAreTimes s
  stmt_windows_by_bounds (item id act) h = tt
  stmt_windows_by_bounds (choice id test held other) h = (windows_by_bounds held h.1, windows_by_bounds other h.2)
  stmt_windows_by_bounds (timed id window body) h = (h.0, windows_by_bounds body h.1)

windows_joined : (a b : Block) → WindowsAreTimes a → WindowsAreTimes b → WindowsAreTimes (joined a b)
windows_joined done b h g = g
windows_joined (next s a) b h g = (h.0, windows_joined a b h.1 g)

windows_copies : (cs : List (ℕ × ℕ)) → WindowsAreTimes (copies cs)
windows_copies [] = tt
windows_copies (c ∷ cs) = (tt, windows_copies cs)

module _ (s : Slicing) where
  windows_split : (id : ℕ) (test : Expr) (both : Bool) (a b : Block) → WindowsAreTimes a → WindowsAreTimes b → WindowsAreTimes (split_choice s id test both a b)
  windows_split id test true a b h g = (tt, ((h, g), tt))
  windows_split id test false a b h g = ((h, g), tt)

  windows_where : (so : Bool) (a : Block) → WindowsAreTimes a → WindowsAreTimes (if so then a else done)
  windows_where true a h = h
  windows_where false a h = tt

  mutual
    windows_first : (b : Block) → IsWithinBounds b → WindowsAreTimes (first_of_block s b)
    windows_first done h = tt
    windows_first (next t rest) h = windows_joined (first_of_stmt s t) (first_of_block s rest) (stmt_windows_first t h.0) (windows_first rest h.1)

    stmt_windows_first : (t : Stmt) → StmtIsWithinBounds t → WindowsAreTimes (first_of_stmt s t)
    stmt_windows_first (item id act) h =
        windows_where (s.kept id) (next (item id (renamed_act (inside_number s) act)) (saves s id)) (tt, windows_copies _)
    stmt_windows_first (choice id test held other) h =
        windows_where (holds_kept s held || holds_kept s other)
        (split_choice s id (renamed_expr (inside_number s) test) (is_split s held other) (first_of_block s held) (first_of_block s other))
        (windows_split id (renamed_expr (inside_number s) test) (is_split s held other) (first_of_block s held) (first_of_block s other) (windows_first held h.1) (windows_first other h.2))
    stmt_windows_first (timed id window body) h =
        windows_where (holds_kept s body) (next (timed id window (first_of_block s body)) done) ((h.0, windows_first body h.1), tt)

  pub windows_of_first : IsWithinBounds s.body → WindowsAreTimes (first_part s)
  windows_of_first h = windows_joined (fetches s) (first_of_block s s.body) (windows_copies _) (windows_first s.body h)

-- ---- what bodies take at most

-- each cost is at most 1,000
pub record CostsAreFew (costs : Costs) : Type 0 where
  pub const_ : costs.const_ ≤ 1000
  pub load : costs.load ≤ 1000
  pub store : costs.store ≤ 1000
  pub load_at : costs.load_at ≤ 1000
  pub store_at : costs.store_at ≤ 1000
  pub operators : (op : Op) → cost_of costs (operator_key op) ≤ 1000
  pub jump : costs.jump ≤ 1000
  pub branch : costs.branch ≤ 1000
  pub loop_ : costs.loop_ ≤ 1000
  pub receive : costs.receive ≤ 1000
  pub send : costs.send ≤ 1000
  pub mark : costs.mark ≤ 1000
  pub end : costs.end ≤ 1000
  pub dispatch : costs.dispatch ≤ 1000

pub costs_few : (costs : Costs) → CostsInRange costs → CostsAreFew costs
costs_few costs h = record {
  const_ = (h keys.Const).1;
  load = (h keys.Load).1;
  store = (h keys.Store).1;
  load_at = (h keys.LoadAt).1;
  store_at = (h keys.StoreAt).1;
  operators = λ op. (h (operator_key op)).1;
  jump = (h keys.Jump).1;
  branch = (h keys.Branch).1;
  loop_ = (h keys.Loop).1;
  receive = (h keys.Receive).1;
  send = (h keys.Send).1;
  mark = (h keys.Mark).1;
  end = (h keys.End).1;
  dispatch = (h keys.Dispatch).1;
}

-- a node within so many loops
abbrev pub weight : ℕ → ℕ
weight zero = 4000
weight (suc d) = 4096 * weight d

-- a node of a body in parts, with what is copied for it
abbrev pub share : ℕ
share = 2 * weight 3

weight_some : (d : ℕ) → 4000 ≤ weight d
weight_some zero = omega arith
weight_some (suc d) = let h = weight_some d in omega (arith, h)

-- renamed expressions and statements take as much
renamed_cycles : (costs : Costs) (f : ℕ → ℕ) (e : Expr) → expr_cycles costs (renamed_expr f e) ≡ expr_cycles costs e
renamed_cycles costs f (number n) = refl
renamed_cycles costs f (variable v) = refl
renamed_cycles costs f (element v i) = ap (λ n. n + cost_of costs keys.LoadAt) (renamed_cycles costs f i)
renamed_cycles costs f (unary op e) = ap (λ n. n + cost_of costs (operator_key op)) (renamed_cycles costs f e)
renamed_cycles costs f (binary op a b) =
    ap (λ n. n + (expr_cycles costs (renamed_expr f b) + cost_of costs (operator_key op))) (renamed_cycles costs f a)
    ∙ ap (λ n. expr_cycles costs a + (n + cost_of costs (operator_key op))) (renamed_cycles costs f b)

renamed_jump : (costs : Costs) (f : ℕ → ℕ) (b : Block) → jump_cost costs (renamed_block f b) ≡ jump_cost costs b
renamed_jump costs f done = refl
renamed_jump costs f (next s rest) = refl

module _ (costs : Costs) (names : Names) (f : ℕ → ℕ) (vars vars' : List Var) where
  mutual
    renamed_most : (b : Block) → IsTyped names b → IsUntimed b → block_most (renamed_block f b) vars' costs ≡ block_most b vars costs
    renamed_most done t u = refl
    renamed_most (next s rest) t u =
        ap (λ n. n + block_most (renamed_block f rest) vars' costs) (renamed_stmt_most s t.0 u.0)
        ∙ ap (λ n. stmt_most s vars costs + n) (renamed_most rest t.1 u.1)

    renamed_stmt_most : (s : Stmt) → StmtIsTyped names s → StmtIsUntimed s → stmt_most (renamed_stmt f s) vars' costs ≡ stmt_most s vars costs
    renamed_stmt_most (item id act) t u = renamed_act_most act t u
    renamed_stmt_most (choice id test a b) t u =
        let e = renamed_cycles costs f test in
        let j = renamed_jump costs f b in
        let one = renamed_most a t.1 u.0 in
        let two = renamed_most b t.2 u.1 in
        omega (arith, e, j, one, two)
    renamed_stmt_most (timed id window body) t u = absurd u

    pub renamed_act_most : (act : Act) → ActIsTyped names act → ActIsUntimed act → act_most (renamed_act f act) vars' costs ≡ act_most act vars costs
    renamed_act_most (assign v e) t u = let same = renamed_cycles costs f e in omega (arith, same)
    renamed_act_most (assign_at v i e) t u = let one = renamed_cycles costs f i in let two = renamed_cycles costs f e in omega (arith, one, two)
    renamed_act_most (receive v port) t u = refl
    renamed_act_most (send e port) t u = let same = renamed_cycles costs f e in omega (arith, same)
    renamed_act_most (for_loop v turns body) t u =
        ap (λ n. costs.const_ + costs.store + max 1 turns * (costs.load + costs.store + n + costs.loop_)) (renamed_most body t.1 u)
    renamed_act_most (while_loop test turns body) t u =
        ap (λ n. costs.const_ + costs.store + max 1 turns * (n + costs.branch + block_most (renamed_block f body) vars' costs + costs.loop_)) (renamed_cycles costs f test)
        ∙ ap (λ n. costs.const_ + costs.store + max 1 turns * (expr_cycles costs test + costs.branch + n + costs.loop_)) (renamed_most body t.1 u)
    renamed_act_most (copy a b) t u = absurd t

-- ---- what a body takes by its nodes

-- so many nodes with so much each
by_nodes : (n k most : ℕ) → k ≤ most → n * k ≤ n * most
by_nodes n k most h = mul-le-mul_left n h

module _ (costs : Costs) (few : CostsAreFew costs) where
  expr_most : (e : Expr) → expr_cycles costs e ≤ expr_nodes e * 1000
  expr_most (number n) = let h = few.const_ in omega (arith, h)
  expr_most (variable v) = let h = few.load in omega (arith, h)
  expr_most (element v i) = let h = few.load_at in let g = expr_most i in omega (arith, h, g)
  expr_most (unary op e) = let h = few.operators op in let g = expr_most e in omega (arith, h, g)
  expr_most (binary op a b) = let h = few.operators op in let g = expr_most a in let k = expr_most b in omega (arith, h, g, k)

  jump_most : (b : Block) → jump_cost costs b ≤ 1000
  jump_most done = omega arith
  jump_most (next s rest) = few.jump

  -- a loop of at most 4,096 turns, by a round of its body
  loop_most : (turns round w : ℕ) → turns ≤ 4096 → round ≤ w → max 1 turns * round ≤ 4096 * w
  loop_most turns round w h g = let l : max 1 turns ≤ 4096 = omega arith in mul-le-mul l g

  module _ (names : Names) (vars : List Var) where
    mutual
      block_weight : (b : Block) (d : ℕ) → IsTyped names b → IsWithinBounds b → IsUntimed b → loop_depth b ≤ d → block_most b vars costs ≤ nodes b * weight d
      block_weight done d t h u l = omega arith
      block_weight (next s rest) d t h u l =
          let one = stmt_weight s d t.0 h.0 u.0 (omega arith) in
          let two = block_weight rest d t.1 h.1 u.1 (omega arith) in
          omega (arith, one, two)

      stmt_weight : (s : Stmt) (d : ℕ) → StmtIsTyped names s → StmtIsWithinBounds s → StmtIsUntimed s → stmt_loop_depth s ≤ d → stmt_most s vars costs ≤ stmt_nodes s * weight d
      stmt_weight (item id act) d t h u l = act_weight act d t h u l
      stmt_weight (choice id test a b) d t h u l =
          let e = expr_most test in
          let w = weight_some d in
          let some = by_nodes (expr_nodes test) 1000 (weight d) (omega arith) in
          let branch = few.branch in
          let jump = jump_most b in
          let one = block_weight a d t.1 h.1 u.0 (omega arith) in
          let two = block_weight b d t.2 h.2 u.1 (omega arith) in
          omega (arith, e, w, some, branch, jump, one, two)
      stmt_weight (timed id window body) d t h u l = absurd u

      -- an item, with itself as a node
      pub act_weight : (act : Act) (d : ℕ) → ActIsTyped names act → ActIsWithinBounds act → ActIsUntimed act → act_loop_depth act ≤ d →
          act_most act vars costs ≤ (1 + act_nodes act) * weight d
      act_weight (assign v e) d t h u l =
          let x = expr_most e in
          let w = weight_some d in
          let some = by_nodes (expr_nodes e) 1000 (weight d) (omega arith) in
          let store = few.store in
          omega (arith, x, w, some, store)
      act_weight (assign_at v i e) d t h u l =
          let x = expr_most i in
          let y = expr_most e in
          let w = weight_some d in
          let some = by_nodes (expr_nodes i) 1000 (weight d) (omega arith) in
          let more = by_nodes (expr_nodes e) 1000 (weight d) (omega arith) in
          let store = few.store_at in
          omega (arith, x, y, w, some, more, store)
      act_weight (receive v port) d t h u l = let w = weight_some d in let r = few.receive in omega (arith, w, r)
      act_weight (send e port) d t h u l =
          let x = expr_most e in
          let w = weight_some d in
          let some = by_nodes (expr_nodes e) 1000 (weight d) (omega arith) in
          let send = few.send in
          omega (arith, x, w, some, send)
      act_weight (for_loop v turns body) zero t h u l = absurd (omega arith)
      act_weight (for_loop v turns body) (suc d) t h u l =
          let w = weight_some d in
          let inner = block_weight body d t.1 h.1 u (omega arith) in
          let const_ = few.const_ in
          let load = few.load in
          let store = few.store in
          let loop_ = few.loop_ in
          let all = loop_most turns (costs.load + costs.store + block_most body vars costs + costs.loop_) (nodes body * weight d + 3000) h.0.most (omega arith) in
          omega (arith, w, const_, store, all)
      act_weight (while_loop test turns body) zero t h u l = absurd (omega arith)
      act_weight (while_loop test turns body) (suc d) t h u l =
          let w = weight_some d in
          let x = expr_most test in
          let some = by_nodes (expr_nodes test) 1000 (weight d) (omega arith) in
          let inner = block_weight body d t.1 h.2 u (omega arith) in
          let const_ = few.const_ in
          let branch = few.branch in
          let store = few.store in
          let loop_ = few.loop_ in
          let all = loop_most turns (expr_cycles costs test + costs.branch + block_most body vars costs + costs.loop_) (expr_nodes test * weight d + nodes body * weight d + 2000) h.1.most (omega arith) in
          omega (arith, w, const_, store, all)
      act_weight (copy a b) d t h u l = absurd t

    -- a hold takes at most 10^9
    hold_most : (window : Window) (body : Block) → IsBounded window → held_entry (hold_of window body) 0 ≤ 10 ^ 9
    hold_most window body h = within (has_event body) window.after h.0
      where
        within : (some : Bool) (after : Option ℕ) → IfSome after IsTime → held_entry (if some then after else None) 0 ≤ 10 ^ 9
        within false after g = omega arith
        within true None g = omega arith
        within true (Some n) g = let m = g.most in omega arith

    mutual
      whole_most : (b : Block) → IsTyped names b → IsWithinBounds b → LoopsAreUntimed b → loop_depth b ≤ 3 → block_most b vars costs ≤ nodes b * share
      whole_most done t h u l = omega arith
      whole_most (next s rest) t h u l =
          let one = stmt_whole_most s t.0 h.0 u.0 (omega arith) in
          let two = whole_most rest t.1 h.1 u.1 (omega arith) in
          omega (arith, one, two)

      stmt_whole_most : (s : Stmt) → StmtIsTyped names s → StmtIsWithinBounds s → StmtLoopsAreUntimed s → stmt_loop_depth s ≤ 3 → stmt_most s vars costs ≤ stmt_nodes s * share
      stmt_whole_most (item id act) t h u l = let a = act_weight act 3 t h u l in omega (arith, a)
      stmt_whole_most (choice id test a b) t h u l =
          let e = expr_most test in
          let branch = few.branch in
          let jump = jump_most b in
          let one = whole_most a t.1 h.1 u.0 (omega arith) in
          let two = whole_most b t.2 h.2 u.1 (omega arith) in
          omega (arith, e, branch, jump, one, two)
      stmt_whole_most (timed id window body) t h u l =
          let hold = hold_most window body h.0 in
          let inner = whole_most body t h.1 u l in
          omega (arith, hold, inner)

-- ---- what the parts take

joined_most : (a b : Block) (vars : List Var) (costs : Costs) → block_most (joined a b) vars costs ≡ block_most a vars costs + block_most b vars costs
joined_most done b vars costs = omega arith
joined_most (next s a) b vars costs = let h = joined_most a b vars costs in omega (arith, h)

numbers_many : (first count : ℕ) → length (numbers_from first count) ≡ count
numbers_many first zero = refl
numbers_many first (suc count) = let h = numbers_many (first + 1) count in omega (arith, h)

filter_few : (p : ℕ → Bool) (ns : List ℕ) → length (filter p ns) ≤ length ns
filter_few p ns = let h = length-filter_both p (λ n. not (p n)) (λ n. refl) ns in omega (arith, h)

module _ (costs : Costs) (few : CostsAreFew costs) (names : Names) (vars : List Var) (narrow : (v : ℕ) → width vars v ≤ 65536) (s : Slicing) (some : length s.vars ≤ 4096) where
  copies_most : (cs : List (ℕ × ℕ)) → block_most (copies cs) vars costs ≤ length cs * 131072000
  copies_most [] = omega arith
  copies_most (c ∷ cs) =
      let rest = copies_most cs in
      let load = few.load in
      let store = few.store in
      let both : costs.load + costs.store ≤ 2000 = omega arith in
      let one = mul-le-mul (narrow c.0) both in
      omega (arith, rest, one)

  -- one copy for each of some variables
  some_copies : (p : ℕ → Bool) (f : ℕ → ℕ × ℕ) → block_most (copies (map f (filter p (numbers_from 0 (length s.vars))))) vars costs ≤ 536870912000
  some_copies p f =
      let ns = numbers_from 0 (length s.vars) in
      let most = copies_most (map f (filter p ns)) in
      let all = length-map (filter p ns) f in
      let fewer = filter_few p ns in
      let many = numbers_many 0 (length s.vars) in
      let count : length (map f (filter p ns)) ≤ 4096 = omega (arith, all, fewer, many) in
      let total = mul-le-mul_right 131072000 count in
      omega (arith, most, total)

  jump_few : (b : Block) → jump_cost costs b ≤ 1000
  jump_few done = omega arith
  jump_few (next t rest) = few.jump

  first_where : (so : Bool) (a : Block) (limit : ℕ) → block_most a vars costs ≤ limit → block_most (if so then a else done) vars costs ≤ limit
  first_where true a limit h = h
  first_where false a limit h = omega arith

  either_few : (so : Bool) (a b : Expr) (limit : ℕ) → expr_cycles costs a ≤ limit → expr_cycles costs b ≤ limit → expr_cycles costs (if so then a else b) ≤ limit
  either_few true a b limit h g = h
  either_few false a b limit h g = g

  split_most : (id : ℕ) (test : Expr) (both : Bool) (a b : Block) (limit : ℕ) → expr_cycles costs test ≤ limit →
      block_most (split_choice s id test both a b) vars costs ≤ limit + 4000 + (block_most a vars costs + block_most b vars costs)
  split_most id test true a b limit h =
      let jump = jump_few b in
      let store = few.store in
      let load = few.load in
      let branch = few.branch in
      omega (arith, h, jump, store, load, branch)
  split_most id test false a b limit h =
      let jump = jump_few b in
      let branch = few.branch in
      omega (arith, h, jump, branch)

  mutual
    first_most : (b : Block) → IsTyped names b → IsWithinBounds b → LoopsAreUntimed b → loop_depth b ≤ 3 → block_most (first_of_block s b) vars costs ≤ nodes b * share
    first_most done t h u l = omega arith
    first_most (next x rest) t h u l =
        let one = stmt_first_most x t.0 h.0 u.0 (omega arith) in
        let two = first_most rest t.1 h.1 u.1 (omega arith) in
        let both = joined_most (first_of_stmt s x) (first_of_block s rest) vars costs in
        omega (arith, one, two, both)

    stmt_first_most : (x : Stmt) → StmtIsTyped names x → StmtIsWithinBounds x → StmtLoopsAreUntimed x → stmt_loop_depth x ≤ 3 → block_most (first_of_stmt s x) vars costs ≤ stmt_nodes x * share
    stmt_first_most (item id act) t h u l =
        let own = act_weight costs few names vars act 3 t h u l in
        let same = renamed_act_most costs names (inside_number s) vars vars act t u in
        let more = some_copies (is_live s id) (λ v. (number_of s (copy_of v), number_of s (saved id v))) in
        first_where (s.kept id) (next (item id (renamed_act (inside_number s) act)) (saves s id)) ((1 + act_nodes act) * share) (omega (arith, own, same, more))
    stmt_first_most (choice id test a b) t h u l =
        let e = expr_most costs few test in
        let same = renamed_cycles costs (inside_number s) test in
        let one = first_most a t.1 h.1 u.0 (omega arith) in
        let two = first_most b t.2 h.2 u.1 (omega arith) in
        let all = split_most id (renamed_expr (inside_number s) test) (is_split s a b) (first_of_block s a) (first_of_block s b) (expr_nodes test * 1000) (omega (arith, e, same)) in
        first_where (holds_kept s a || holds_kept s b)
        (split_choice s id (renamed_expr (inside_number s) test) (is_split s a b) (first_of_block s a) (first_of_block s b))
        (stmt_nodes (choice id test a b) * share) (omega (arith, one, two, all))
    stmt_first_most (timed id window body) t h u l =
        let hold = hold_most costs few names vars window (first_of_block s body) h.0 in
        let inner = first_most body t h.1 u l in
        first_where (holds_kept s body) (next (timed id window (first_of_block s body)) done) ((1 + nodes body) * share) (omega (arith, hold, inner))

  one_of_two : (so : Bool) (a b : Block) (limit : ℕ) → block_most a vars costs ≤ limit → block_most b vars costs ≤ limit → block_most (if so then a else b) vars costs ≤ limit
  one_of_two true a b limit h g = h
  one_of_two false a b limit h g = g

  mutual
    rest_most : (b : Block) → IsTyped names b → IsWithinBounds b → LoopsAreUntimed b → loop_depth b ≤ 3 → block_most (rest_of_block s b) vars costs ≤ nodes b * share
    rest_most done t h u l = omega arith
    rest_most (next x rest) t h u l =
        let one = stmt_rest_most x t.0 h.0 u.0 (omega arith) in
        let two = rest_most rest t.1 h.1 u.1 (omega arith) in
        let both = joined_most (rest_of_stmt s x) (rest_of_block s rest) vars costs in
        omega (arith, one, two, both)

    stmt_rest_most : (x : Stmt) → StmtIsTyped names x → StmtIsWithinBounds x → StmtLoopsAreUntimed x → stmt_loop_depth x ≤ 3 → block_most (rest_of_stmt s x) vars costs ≤ stmt_nodes x * share
    stmt_rest_most (item id act) t h u l =
        let own = act_weight costs few names vars act 3 t h u l in
        let more = some_copies (is_live s id) (λ v. (number_of s (saved id v), v)) in
        one_of_two (s.kept id) (restores s id) (next (item id act) done) ((1 + act_nodes act) * share) (omega (arith, more)) (omega (arith, own))
    stmt_rest_most (choice id test a b) t h u l =
        let e = expr_most costs few test in
        let load = few.load in
        let branch = few.branch in
        let jump = jump_few (rest_of_block s b) in
        let one = rest_most a t.1 h.1 u.0 (omega arith) in
        let two = rest_most b t.2 h.2 u.1 (omega arith) in
        let truth = variable (number_of s (truth_of id)) in
        let tested = either_few (is_split s a b) truth test (expr_nodes test * 1000 + 1000) (omega (arith, load)) (omega (arith, e)) in
        first_where (has_rest s a || has_rest s b)
        (next (choice id (if is_split s a b then truth else test) (rest_of_block s a) (rest_of_block s b)) done)
        (stmt_nodes (choice id test a b) * share) (omega (arith, tested, branch, jump, one, two))
    stmt_rest_most (timed id window body) t h u l = let inner = rest_most body t h.1 u l in omega (arith, inner)

-- ---- the bodies of checked tasks

-- a body of which walks, points and cost are as they should be
pub record BodyFits (b : Block) (vars : List Var) (costs : Costs) : Type 0 where
  pub loops : LoopsAreUntimed b
  pub turns : LoopsTurn b
  pub windows : WindowsAreTimes b
  pub most : block_most b vars costs ≤ 2 ^ 61

names_of : Task → Names
names_of task = record { vars = task.vars; inputs = length task.inputs; outputs = length task.outputs }

pub whole_fits : (task : Task) (costs : Costs) → IsSoundTask task → CostsInRange costs → BodyFits task.body task.vars costs
unfolding names_of
whole_fits task costs sound ranges =
    let body = sound.body in
    let most = whole_most costs (costs_few costs ranges) (names_of task) task.vars task.body body.typed body.bounded body.untimed body.depth in
    let few = mul-le-mul_right share body.nodes in
    record {
      loops = body.untimed;
      turns = turns_by_bounds task.body body.bounded;
      windows = windows_by_bounds task.body body.bounded;
      most = omega (arith, most, few);
    }

-- each declared variable has a word
words_some : (vars : List Var) → AllByRecursion IsDeclared vars → length vars ≤ all_words vars
words_some [] h = omega arith
words_some (v ∷ vars) h = let rest = words_some vars h.1 in let one = kind_some v.kind h.0.kind in omega (arith, rest, one)
  where
    kind_some : (kind : VarKind) → IsKind kind → 1 ≤ words_of kind
    kind_some VarKind.Int g = omega arith
    kind_some VarKind.Bool g = omega arith
    kind_some (VarKind.Array n) g = g.some

mutual
  untimed_windows : (b : Block) → IsUntimed b → WindowsAreTimes b
  untimed_windows done h = tt
  untimed_windows (next s rest) h = (stmt_untimed_windows s h.0, untimed_windows rest h.1)

  stmt_untimed_windows : (s : Stmt) → StmtIsUntimed s → StmtWindowsAreTimes s
  stmt_untimed_windows (item id act) h = tt
  stmt_untimed_windows (choice id test a b) h = (untimed_windows a h.0, untimed_windows b h.1)
  stmt_untimed_windows (timed id window body) h = absurd h

-- both parts
pub record PartsFit (parts : TaskParts) (costs : Costs) : Type 0 where
  pub first : BodyFits parts.first parts.vars costs
  pub rest : BodyFits parts.rest parts.vars costs

pub parts_fit : (task : Task) (parts : TaskParts) (costs : Costs) → IsSoundTask task → AreOwnParts task parts → CostsInRange costs → PartsFit parts costs
unfolding names_of
parts_fit task parts costs sound own ranges =
    let s = slicing_of task own.kept in
    let body = sound.body in
    let few = costs_few costs ranges in
    let names = names_of task in
    let scope = own_parts_fit task parts sound own in
    let words = subst (λ p. p.words ≤ 65536) own.are own.few in
    let narrow : (v : ℕ) → width (parts_of s).vars v ≤ 65536 = λ v. (let within = array_within (parts_of s).vars v in omega (arith, within, words)) in
    let declared = words_some task.vars (recursion_from_All IsDeclared task.vars sound.declarations.variables) in
    let most_words = sound.declarations.words in
    let some : length task.vars ≤ 4096 = omega (arith, declared, most_words) in
    let all = mul-le-mul_right share body.nodes in
    let first = first_most costs few names (parts_of s).vars narrow s some task.body body.typed body.bounded body.untimed body.depth in
    let fetched = some_copies costs few names (parts_of s).vars narrow s some (is_fetched s) (λ v. (v, number_of s (copy_of v))) in
    let both = joined_most (fetches s) (first_of_block s task.body) (parts_of s).vars costs in
    let rest = rest_most costs few names (parts_of s).vars narrow s some task.body body.typed body.bounded body.untimed body.depth in
    let are : parts_of s ≡ parts = sym own.are in
    record {
      first = record {
        loops = scope.loops;
        turns = turns_by_scope parts.first parts.vars scope.first;
        windows = subst (λ p. WindowsAreTimes p.first) are (windows_of_first s body.bounded);
        most = subst (λ p. block_most p.first p.vars costs ≤ 2 ^ 61) are (omega (arith, first, fetched, both, all));
      };
      rest = record {
        loops = untimed_loops parts.rest scope.untimed;
        turns = turns_by_scope parts.rest parts.vars scope.rest;
        windows = untimed_windows parts.rest scope.untimed;
        most = subst (λ p. block_most p.rest p.vars costs ≤ 2 ^ 61) are (omega (arith, rest, all));
      };
    }

-- the bodies of which a call may be asked
pub task_body_fits : (b : Block) (vars : List Var) (costs : Costs) → IsTaskBody b vars → CostsInRange costs → BodyFits b vars costs
task_body_fits b vars costs h ranges =
    elim h.form as (λ _. BodyFits b vars costs) [
      | inl whole ↦ subst (λ v. BodyFits b v costs) (sym whole.1) (subst (λ x. BodyFits x h.task.vars costs) (sym whole.0) (whole_fits h.task costs h.sound ranges))
      | inr part ↦
          (let fit = parts_fit h.task part.parts costs h.sound part.own ranges in
          subst (λ v. BodyFits b v costs) (sym part.over)
          (elim part.one as (λ _. BodyFits b part.parts.vars costs) [
            | inl first ↦ subst (λ x. BodyFits x part.parts.vars costs) (sym first) fit.first
            | inr rest ↦ subst (λ x. BodyFits x part.parts.vars costs) (sym rest) fit.rest
          ]))
    ]

-- a receive and a send take a cycle
pub events_take_time : (costs : Costs) → CostsInRange costs → EventsTakeTime costs
events_take_time costs h = record { receives = (h keys.Receive).0; sends = (h keys.Send).0 }
