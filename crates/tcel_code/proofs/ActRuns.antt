-- The code of assignments, receives, sends and copies.
use Rattle.std.proofs.Common.{◌≡◌, ℕ, ◌+◌, ◌*◌, ◌<◌, ◌∷◌, ◌++◌, length, set, refl, sym, ap, ◌∙◌, arith, length-append}
use Rattle.std.proofs.lemmas.List.{set-append_left}
use Rattle.std.proofs.Math.Nat.{mul-pos}
use Rattle.tcel_num.specs.Entry.{receive as receive_entry}
use Rattle.tcel_num.proofs.Words.{with_element_front, copied_front}
use Rattle.tcel_core.specs.declared.event.EventKind.TheVariants as kinds
use Rattle.tcel_core.specs.Cells.{place, width, set_element, copy_words}
use Rattle.tcel_core.specs.Language.{Expr, assign, assign_at, receive, send, copy}
use Rattle.tcel_core.specs.Meaning.{next_input, received, value, with_cells}
use Rattle.tcel_core.specs.Scope.{ActFits}
use Rattle.tcel_core.proofs.Remain.{take_one}
use Rattle.tcel_core.proofs.Scope.{array_within}
use Rattle.tcel_target.specs.declared.costs.CostKey.TheVariants as keys
use Rattle.tcel_image.specs.declared.image.Instr.TheVariants.{Copy, Put, PutAt, Receive, Send}
use Rattle.tcel_code.specs.Code.{at, expr_code}
use Rattle.tcel_cost.specs.Expressions.{expr_cycles}
use Rattle.tcel_code.proofs.Ahead.{quietly, showing}
use Rattle.tcel_code.proofs.ExprRuns.{stands_front, stands_back, value_runs}
use Rattle.tcel_code.proofs.Inputs.{same_input}
use Rattle.tcel_code.proofs.Runs.{ActDoes, pass_goes, show_goes}
use Rattle.tcel_code.proofs.Steps.{Setting, ready_at, ahead_at, quiet_step, show_step}

module _ (s : Setting) where
  open s use {costs, ranges, task, inputs, vars, frame, stack}

  pub assign_runs : (v : ℕ) (e : Expr) → ActFits (assign v e) vars → ActDoes s (assign v e)
  assign_runs v e fits m low p entry floor counter others taken order has stands =
      let code = expr_code e vars 0 in
      let put = at 1 (Put (place vars v)) in
      let x = value e vars m.cells in
      let cells = set m.cells (place vars v) x in
      let scalar = fits.0 in
      let words = order.words in
      let same : set (m.cells ++ others) (place vars v) x ≡ cells ++ others = set-append_left m.cells others (place vars v) x (omega arith) in
      pass_goes s (expr_cycles costs e + costs.store) (with_cells m cells) low p (p + length (code ++ put)) entry floor m.cells others others taken refl (λ j h. refl)
      (λ dues ran since ahead.
      value_runs s e fits.1 0 p ran since stack m.cells others taken dues order.words (stands_front task.code p code put stands)
      (quiet_step s taken dues (Put (place vars v)) 1 (λ now r. refl) (ranges keys.Store).0 (p + length code) (p + length code + 1) (ran + expr_cycles costs e) (since + expr_cycles costs e)
      (x ∷ stack) stack (m.cells ++ others) (cells ++ others) (stands_back task.code p code put stands).0 (λ spent. ap (λ l. quietly (ready_at costs (p + length code + 1) stack l frame taken)) same)
      (ahead_at s taken dues _ _ _ _ _ _ stack (cells ++ others) (omega arith) (omega arith) (omega (arith, length-append code put)) ahead)))

  pub assign_at_runs : (v : ℕ) (i e : Expr) → ActFits (assign_at v i e) vars → ActDoes s (assign_at v i e)
  assign_at_runs v i e fits m low p entry floor counter others taken order has stands =
      let index = expr_code i vars 0 in
      let code = expr_code e vars 1 in
      let put = at 2 (PutAt (place vars v) (width vars v)) in
      let x = value i vars m.cells in
      let y = value e vars m.cells in
      let cells = set_element vars m.cells v x y in
      let within = array_within vars v in
      let words = order.words in
      let same = with_element_front m.cells others (place vars v) (width vars v) x y (omega arith) in
      let behind = stands_back task.code p index (code ++ put) stands in
      let p1 : ℕ = p + length index in
      let p2 : ℕ = p1 + length code in
      pass_goes s (expr_cycles costs i + expr_cycles costs e + costs.store_at) (with_cells m cells) low p (p + length (index ++ (code ++ put))) entry floor m.cells others others taken refl (λ j h. refl)
      (λ dues ran since ahead.
      value_runs s i fits.0 0 p ran since stack m.cells others taken dues order.words (stands_front task.code p index (code ++ put) stands)
      (value_runs s e fits.1 1 p1 (ran + expr_cycles costs i) (since + expr_cycles costs i) (x ∷ stack) m.cells others taken dues order.words (stands_front task.code p1 code put behind)
      (quiet_step s taken dues (PutAt (place vars v) (width vars v)) 2 (λ now r. refl) (ranges keys.StoreAt).0 p2 (p2 + 1)
      (ran + expr_cycles costs i + expr_cycles costs e) (since + expr_cycles costs i + expr_cycles costs e) (y ∷ x ∷ stack) stack (m.cells ++ others) (cells ++ others)
      (stands_back task.code p1 code put behind).0 (λ spent. ap (λ l. quietly (ready_at costs (p2 + 1) stack l frame taken)) same)
      (ahead_at s taken dues _ _ _ _ _ _ stack (cells ++ others) (omega arith) (omega arith) (omega (arith, length-append index (code ++ put), length-append code put)) ahead))))

  pub copy_runs : (a b : ℕ) → ActFits (copy a b) vars → ActDoes s (copy a b)
  copy_runs a b fits m low p entry floor counter others taken order has stands =
      let cells = copy_words vars m.cells a b in
      let words = order.words in
      let one = array_within vars a in
      let two = array_within vars b in
      let same_width = fits.same in
      let same = copied_front m.cells others (place vars a) (place vars b) (width vars a) (omega arith) (omega arith) in
      let load : 0 < costs.load = (ranges keys.Load).0 in
      let each_word : 0 < costs.load + costs.store = omega arith in
      pass_goes s (width vars a * (costs.load + costs.store)) (with_cells m cells) low p (p + 1) entry floor m.cells others others taken refl (λ j h. refl)
      (λ dues ran since ahead.
      quiet_step s taken dues (Copy (place vars a) (place vars b) (width vars a)) 0 (λ now r. refl) (mul-pos fits.some each_word) p (p + 1) ran since stack stack
      (m.cells ++ others) (cells ++ others) stands.0 (λ spent. ap (λ l. quietly (ready_at costs (p + 1) stack l frame taken)) same) ahead)

  pub receive_runs : (v port : ℕ) → ActFits (receive v port) vars → ActDoes s (receive v port)
  receive_runs v port scalar m low p entry floor counter others taken order has stands =
      let x = next_input m port in
      let words = order.words in
      let same = same_input inputs m.inputs taken port order.remain in
      let cells = set m.cells (place vars v) x in
      let stays : set (m.cells ++ others) (place vars v) x ≡ cells ++ others = set-append_left m.cells others (place vars v) x (omega arith) in
      let taken' = take_one kinds.Receive port taken in
      show_goes s costs.receive (received vars m v port) kinds.Receive port x low p (p + 1) entry floor m.cells others taken
      (λ due later ran since is early soon ahead.
      show_step s (Receive port (place vars v)) 0 (λ now r. refl) (ranges keys.Receive).0 p (p + 1) ran since stack stack (m.cells ++ others) (cells ++ others) taken taken' due later stands.0
      (λ spent.
      ap (λ y. showing (receive_entry port y) (ready_at costs (p + 1) stack (set (m.cells ++ others) (place vars v) y) frame taken')) same
      ∙ ap (λ l. showing (receive_entry port x) (ready_at costs (p + 1) stack l frame taken')) stays
      ∙ ap (λ w. showing w (ready_at costs (p + 1) stack (cells ++ others) frame taken')) (sym is))
      early soon ahead)

  pub send_runs : (e : Expr) (port : ℕ) → ActFits (send e port) vars → ActDoes s (send e port)
  send_runs e port sound m low p entry floor counter others taken order has stands =
      let code = expr_code e vars 0 in
      let out = at 1 (Send port) in
      let x = value e vars m.cells in
      show_goes s (expr_cycles costs e + costs.send) m kinds.Send port x low p (p + length (code ++ out)) entry floor m.cells others taken
      (λ due later ran since is early soon ahead.
      value_runs s e sound 0 p ran since stack m.cells others taken (due ∷ later) order.words (stands_front task.code p code out stands)
      (show_step s (Send port) 1 (λ now r. refl) (ranges keys.Send).0 (p + length code) (p + length code + 1) (ran + expr_cycles costs e) (since + expr_cycles costs e)
      (x ∷ stack) stack (m.cells ++ others) (m.cells ++ others) taken taken due later (stands_back task.code p code out stands).0
      (λ spent. ap (λ w. showing w (ready_at costs (p + length code + 1) stack (m.cells ++ others) frame taken)) (sym is)) (omega arith) (omega arith)
      (ahead_at s taken later _ _ _ _ _ _ stack (m.cells ++ others) (omega arith) (omega arith) (omega (arith, length-append code out)) ahead)))
