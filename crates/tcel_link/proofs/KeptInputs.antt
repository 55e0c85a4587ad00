-- What a body leaves has as many inputs.
use Rattle.std.proofs.Common.{◌≡◌, pos, List, [], length, get_or, refl, ◌∙◌}
use Rattle.std.proofs.lemmas.Bool.{cond_both}
use Rattle.std.proofs.lemmas.List.{length-set}
use Rattle.tcel_num.specs.Arithmetic.{holds}
use Rattle.tcel_core.specs.declared.var.Var.{Var}
use Rattle.tcel_core.specs.Cells.{set_word}
use Rattle.tcel_core.specs.Language.{Block, done, next, Stmt, item, choice, timed, Act, assign, assign_at, receive, send, for_loop, while_loop, copy}
use Rattle.tcel_core.specs.Meaning.{exec, exec_act, exec_stmt, tail, value, with_cells}
use Rattle.tcel_core.specs.Outcome.{Memory}
use Rattle.tcel_core.proofs.Bodies.{rounds_keep, while_keeps}

mutual
  pub block_inputs : (b : Block) (vars : List Var) (m : Memory) → length (exec b vars m).memory.inputs ≡ length m.inputs
  block_inputs done vars m = refl
  block_inputs (next s rest) vars m = block_inputs rest vars (exec_stmt s vars m).memory ∙ stmt_inputs s vars m

  pub stmt_inputs : (s : Stmt) (vars : List Var) (m : Memory) → length (exec_stmt s vars m).memory.inputs ≡ length m.inputs
  stmt_inputs (item id act) vars m = act_inputs act vars m
  stmt_inputs (choice id test held other) vars m =
      cond_both (holds (value test vars m.cells)) (exec held vars) (exec other vars) (λ f. length (f m).memory.inputs ≡ length m.inputs) (λ _. block_inputs held vars m) (λ _. block_inputs other vars m)
  stmt_inputs (timed id window body) vars m = block_inputs body vars m

  act_inputs : (act : Act) (vars : List Var) (m : Memory) → length (exec_act act vars m).memory.inputs ≡ length m.inputs
  act_inputs (assign v e) vars m = refl
  act_inputs (assign_at v i e) vars m = refl
  act_inputs (receive v port) vars m = length-set m.inputs port (tail (get_or m.inputs port []))
  act_inputs (send e port) vars m = refl
  act_inputs (for_loop v n body) vars m =
      rounds_keep (λ k _. length k.inputs ≡ length m.inputs) (λ j k. exec body vars (with_cells k (set_word vars k.cells v (pos j))))
      (λ j k t same. block_inputs body vars (with_cells k (set_word vars k.cells v (pos j))) ∙ same) n m [] refl
  act_inputs (while_loop test n body) vars m =
      while_keeps (λ k _. length k.inputs ≡ length m.inputs) (λ k. holds (value test vars k.cells)) (exec body vars) (λ k t same. block_inputs body vars k ∙ same) n m [] refl
  act_inputs (copy a b) vars m = refl
