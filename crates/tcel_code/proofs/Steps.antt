-- One instruction of a frame's code on the machine, from a place with words on the stack and in the cells to another.
use Rattle.std.proofs.Common.{◌≡◌, ℕ, suc, ◌+◌, ◌-◌, ◌<◌, ◌≤◌, ℤ, List, ◌∷◌, refl, ap, ◌∙◌, subst, arith, Some}
use Rattle.std.specs.Prelude.{slice_get, nat_le}
use Rattle.tcel_core.specs.declared.var.Var.{Var}
use Rattle.tcel_target.specs.declared.costs.Costs.{Costs}
use Rattle.tcel_image.specs.declared.image.ImageTask.{ImageTask}
use Rattle.tcel_image.specs.declared.image.Instr.{Instr}
use Rattle.tcel_target.specs.Costs.{CostsInRange}
use Rattle.tcel_image.specs.Instructions.{cycles}
use Rattle.tcel_image.specs.Machine.{Running, is_last_cycle, effect}
use Rattle.tcel_image.specs.Spelling.{state_words}
use Rattle.tcel_code.proofs.Ahead.{Due, Ahead, IsAt, has_started, quietly, showing, after_cycles, passes, makes}

-- a task at the start of an instruction, in a frame that has started
abbrev pub ready_at : Costs → ℕ → List ℤ → List ℤ → ℕ → List ℕ → Running
ready_at costs place stack cells ended taken =
    record { cells = cells; stack = stack; place = place; dispatched = costs.dispatch; spent = 0; ended = ended; taken = taken }

-- an instruction ends by its cycles, and not by the time
abbrev pub EndsByCycles : Costs → ℕ → Instr → Type 0
EndsByCycles costs period instr = (now : ℕ) (r : Running) → is_last_cycle costs period now instr r ≡ nat_le (cycles costs instr) (r.spent + 1)

-- what stays the same while a frame runs
pub record Setting : Type 0 where
  pub costs : Costs
  pub ranges : CostsInRange costs
  pub task : ImageTask
  pub inputs : List (List ℤ)
  -- how the frame leaves its task
  pub last : Running
  pub vars : List Var
  -- how many frames ended before this one
  pub frame : ℕ
  -- the words on the stack below those of statements
  pub stack : List ℤ

module _ (s : Setting) where
  open s use {costs, task, inputs, last, frame}

  -- the line at a place
  abbrev pub LineAt : (p depth : ℕ) → Instr → Type 0
  LineAt p depth instr = slice_get task.code p ≡ Some (record { instr = instr; depth = depth })

  -- what the frame has ahead of it at the start of an instruction, where it has run so many ticks and its next one comes at a time or later
  abbrev pub AheadAt : (ran since p : ℕ) (stack cells : List ℤ) (taken : List ℕ) → List Due → Type 0
  AheadAt ran since p stack cells taken dues = Ahead costs task inputs last ran since (ready_at costs p stack cells frame taken) dues

  -- the same counts, times and places
  pub ahead_at : (taken : List ℕ) (dues : List Due) (ran ran' since since' p p' : ℕ) (stack cells : List ℤ) → ran ≡ ran' → since ≡ since' → p ≡ p' →
      AheadAt ran since p stack cells taken dues → AheadAt ran' since' p' stack cells taken dues
  ahead_at taken dues ran ran' since since' p p' stack cells e g f ahead =
      subst (λ n. AheadAt n since' p' stack cells taken dues) e
      (subst (λ n. AheadAt ran n p' stack cells taken dues) g
      (subst (λ n. AheadAt ran since n stack cells taken dues) f ahead))

  -- a task at the start of an instruction is at it
  starts : (instr : Instr) (depth : ℕ) → EndsByCycles costs task.period instr → (more : ℕ) → cycles costs instr ≡ suc more → (p : ℕ) (stack cells : List ℤ) (taken : List ℕ) →
      LineAt p depth instr → IsAt costs task instr more (ready_at costs p stack cells frame taken)
  starts instr depth by more n p stack cells taken here =
      record { started = has_started costs; depth = depth; here = here; lasts = λ now spent. by now (after_cycles spent (ready_at costs p stack cells frame taken)) ∙ ap (λ k. nat_le k (spent + 1)) n }

  -- an instruction that shows nothing
  pub quiet_step : (taken : List ℕ) (dues : List Due) (instr : Instr) (depth : ℕ) → EndsByCycles costs task.period instr → 0 < cycles costs instr →
      (p p' ran since : ℕ) (stack stack' cells cells' : List ℤ) → LineAt p depth instr →
      ((spent : ℕ) → effect (state_words task.states) inputs instr (after_cycles spent (ready_at costs p stack cells frame taken)) ≡ quietly (ready_at costs p' stack' cells' frame taken)) →
      AheadAt (ran + cycles costs instr) (since + cycles costs instr) p' stack' cells' taken dues →
      AheadAt ran since p stack cells taken dues
  quiet_step taken dues instr depth by some p p' ran since stack stack' cells cells' here does ahead =
      let r = ready_at costs p stack cells frame taken in
      let more : ℕ = cycles costs instr - 1 in
      let n : cycles costs instr ≡ suc more = omega arith in
      passes costs task inputs instr more r (starts instr depth by more n p stack cells taken here) last (ready_at costs p' stack' cells' frame taken) dues ran since (does more) refl
      (subst (λ k. AheadAt (ran + k) (since + k) p' stack' cells' taken dues) n ahead)

  -- an instruction that makes an entry
  pub show_step : (instr : Instr) (depth : ℕ) → EndsByCycles costs task.period instr → 0 < cycles costs instr →
      (p p' ran since : ℕ) (stack stack' cells cells' : List ℤ) (taken taken' : List ℕ) (due : Due) (later : List Due) → LineAt p depth instr →
      ((spent : ℕ) → effect (state_words task.states) inputs instr (after_cycles spent (ready_at costs p stack cells frame taken)) ≡ showing due.promise.what (ready_at costs p' stack' cells' frame taken')) →
      due.promise.earliest ≤ suc since → ran + cycles costs instr ≤ due.by →
      AheadAt (ran + cycles costs instr) (since + cycles costs instr) p' stack' cells' taken' later →
      AheadAt ran since p stack cells taken (due ∷ later)
  show_step instr depth by some p p' ran since stack stack' cells cells' taken taken' due later here does early soon ahead =
      let r = ready_at costs p stack cells frame taken in
      let more : ℕ = cycles costs instr - 1 in
      let n : cycles costs instr ≡ suc more = omega arith in
      makes costs task inputs instr more r (starts instr depth by more n p stack cells taken here) last (ready_at costs p' stack' cells' frame taken') due later ran since (does more) refl early (omega arith)
      (subst (λ k. AheadAt (ran + k) (since + k) p' stack' cells' taken' later) n ahead)
