-- A cycle of a task.
use Rattle.std.proofs.Common.{◌≡◌, ℕ, ◌+◌, ◌*◌, ◌^◌, ◌<◌, ◌≤◌, ℤ, pos, true, false, cond, List, length, get_or, Some, ap, sym, ◌∙◌, subst, arith}
use Rattle.std.specs.List.{slice_get}
use Rattle.std.proofs.lemmas.Option.{slice_get-get_or}
use Rattle.tcel_target.specs.declared.costs.Costs.{Costs}
use Rattle.tcel_image.specs.declared.image.ImageTask.{ImageTask}
use Rattle.tcel_image.specs.declared.image.Instr.TheVariants.{Const}
use Rattle.tcel_image.specs.declared.image.Line.{Line}
use Rattle.tcel_image.specs.Machine.{Running, effect, spend, cycle, cycle_of, is_last_cycle}
use Rattle.tcel_image.specs.Spelling.{TaskInRange, state_words}
use Rattle.tcel_machine.specs.declared.task.Task.{Task}
use Rattle.tcel_machine.specs.Task.{running_of, Becomes, CanRun}
use Rattle.tcel_machine.specs.Runs.{IsTaskValid, HasShape, HasCounts, IsRunning}
use Rattle.tcel_machine.proofs.Shapes.{fine, can_run, leads, has_shape, start_at, counts}

-- what an index past the end reads
abbrev pub no_line : Line
no_line = record { instr = Const (pos 0); depth = 0 }

pub line_at : (task : ImageTask) (lines : List Line) → lines ≡ task.code → (place : ℕ) → place < length task.code → slice_get task.code place ≡ Some (get_or lines place no_line)
line_at task lines e place h =
    ap (λ (l : List Line). slice_get l place) (sym e) ∙ slice_get-get_or lines place no_line (subst (λ (l : List Line). place < length l) (sym e) h)

module _ (task : ImageTask) (range : TaskInRange task) (valid : IsTaskValid task) (now : ℕ) (early : now < 10 ^ 12) (run : Task) (running : IsRunning task now run) (line : Line)
    (is : slice_get task.code run.place ≡ Some line) where
  pub can : CanRun line.instr (running_of run)
  can =
      can_run task run.place line.depth line.instr (running_of run) (fine task valid run.place line is) (running.shape.depth line is)
      (omega (arith, running.shape.depth line is, running.shape.low)) running.shape.cells running.shape.taken (λ port. omega (arith, running.counts.given port))

  pub runs_on : (inputs : List (List ℤ)) (new : Task) → run.ended * task.period ≤ now → Becomes run new (effect run.words inputs line.instr (running_of run)).task
      → IsRunning task (now + 1) new
  runs_on inputs new ready becomes =
      let shape : HasShape task (running_of new) =
      subst (HasShape task) (sym becomes.task)
      (has_shape task _
      (leads task run.words inputs line.depth line.instr (running_of run) (fine task valid run.place line is) running.shape.place
      (start_at task valid (omega (arith, running.shape.place))) running.fits (running.shape.depth line is) running.shape.cells running.shape.taken)) in
      record {
        words = becomes.words ∙ running.words;
        fits = omega (arith, becomes.words, running.fits, running.shape.cells, shape.cells);
        shape = shape;
        counts = subst (HasCounts task (now + 1)) (sym becomes.task) (counts task now run.words inputs line.instr (running_of run) running.counts ready);
      }

module _ (costs : Costs) (task : ImageTask) (inputs : List (List ℤ)) (now words : ℕ) (r : Running) (line : Line) (is : slice_get task.code r.place ≡ Some line) where
  pub ends_now : words ≡ state_words task.states → is_last_cycle costs task.period now line.instr r ≡ true → cycle costs task inputs now r ≡ effect words inputs line.instr r
  ends_now e last =
      ap (λ found. cycle_of costs task inputs now found r) is
      ∙ ap (λ b. cond b (effect (state_words task.states) inputs line.instr r) (spend r)) last
      ∙ ap (λ n. effect n inputs line.instr r) (sym e)

  pub spends : is_last_cycle costs task.period now line.instr r ≡ false → cycle costs task inputs now r ≡ spend r
  spends more =
      ap (λ found. cycle_of costs task inputs now found r) is ∙ ap (λ b. cond b (effect (state_words task.states) inputs line.instr r) (spend r)) more
