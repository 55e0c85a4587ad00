-- No step of a valid image's run takes a default.
use Rattle.std.proofs.Common.{◌≡◌, ℕ, zero, suc, ◌+◌, ◌≤◌, false, ℤ, List, [], ◌∷◌, length, get_or, map, Some, refl, ap, sym, subst, arith, inl, inr}
use Rattle.std.specs.List.{AllByRecursion, list_any, slice_get}
use Rattle.std.specs.Prelude.{nat_lt, slice_index_or}
use Rattle.std.proofs.lemmas.Bool.{cases_Bool, cond_both, or_parts, ltb-false, leb-false}
use Rattle.std.proofs.lemmas.Option.{none-some, same_Some}
use Rattle.tcel_target.specs.declared.costs.Costs.{Costs}
use Rattle.tcel_image.specs.declared.image.Image.{Image}
use Rattle.tcel_image.specs.declared.image.ImageTask.{ImageTask}
use Rattle.tcel_image.specs.declared.image.Instr.{Instr}
use Rattle.tcel_image.specs.declared.image.Instr.TheVariants.{Receive}
use Rattle.tcel_image.specs.declared.image.Line.{Line}
use Rattle.tcel_image.specs.Instructions.{Range, ranges}
use Rattle.tcel_image.specs.Machine.{Running, Streams, after, cycle, dispatch, is_last_cycle, is_ready, own_tick, runs, start_task, tick_from}
use Rattle.tcel_image.specs.Spelling.{TaskInRange, state_words}
use Rattle.tcel_image.specs.Validity.{has_bad_port}
use Rattle.tcel_machine.specs.Defaults.{FindsAll, HasInput, NoStepTakesADefault, machine_after}
use Rattle.tcel_machine.specs.Runs.{AreSound, HasShape, IsTaskValid}
use Rattle.tcel_machine.proofs.Cycles.{ends_now, line_at, no_line, spends}
use Rattle.tcel_machine.proofs.Shapes.{fine, has_shape, leads, start_at}
use Rattle.tcel_machine.proofs.Sound.{sound, start_shape}

-- ---- one task

module _ (costs : Costs) (task : ImageTask) (range : TaskInRange task) (valid : IsTaskValid task) (inputs : List (List ℤ)) (now : ℕ) (r : Running) (shape : HasShape task r) where
  abbrev line : Line
  line = get_or task.code r.place no_line

  there : slice_get task.code r.place ≡ Some line
  there = line_at task task.code refl r.place shape.place

  states_there : state_words task.states ≤ length r.cells
  states_there = omega (arith, shape.cells, range.cells.0)

  cycle_keeps : HasShape task (cycle costs task inputs now r).task
  cycle_keeps =
      elim (cases_Bool (is_last_cycle costs task.period now line.instr r)) [
        | inl last ↦
            subst (λ o. HasShape task o.task) (sym (ends_now costs task inputs now (state_words task.states) r line there refl last))
            (has_shape task _
            (leads task (state_words task.states) inputs line.depth line.instr r (fine task valid r.place line there) shape.place (start_at task valid (omega (arith, shape.place))) states_there (shape.depth line there)
            shape.cells shape.taken))
        | inr more ↦
            subst (λ o. HasShape task o.task) (sym (spends costs task inputs now (state_words task.states) r line there more))
            (record { place = shape.place; depth = shape.depth; low = shape.low; cells = shape.cells; taken = shape.taken })
      ]

  -- its own tick keeps its shape
  own_keeps : HasShape task (own_tick costs task inputs now r).task
  own_keeps =
      cond_both (nat_lt r.dispatched costs.dispatch) (dispatch r) (cycle costs task inputs now r) (λ o. HasShape task o.task)
      (λ _. record { place = shape.place; depth = shape.depth; low = shape.low; cells = shape.cells; taken = shape.taken }) (λ _. cycle_keeps)

-- what it finds
ranges_there : (cells : ℕ) (all : List Range) → list_any (λ (range : Range). nat_lt cells (range.from + range.length)) all ≡ false → AllByRecursion (λ (range : Range). range.from + range.length ≤ cells) all
ranges_there cells [] h = tt
ranges_there cells (range ∷ all) h = let both = or_parts _ _ h in (ltb-false _ _ both.0, ranges_there cells all both.1)

input_there : (task : ImageTask) (instr : Instr) (r : Running) → length r.taken ≡ length task.inputs → has_bad_port task instr ≡ false → HasInput instr r
input_there task (Receive port cell) r many h = omega (arith, leb-false _ _ h)
input_there task _ r many h = tt

finds : (task : ImageTask) → TaskInRange task → IsTaskValid task → (r : Running) → HasShape task r → FindsAll task r
finds task range valid r shape =
    let its = get_or task.code r.place no_line in
    let is : slice_get task.code r.place ≡ Some its = line_at task task.code refl r.place shape.place in
    let all = fine task valid r.place its is in
    let deep = shape.depth its is in
    record {
      line = its;
      there = is;
      deep = deep;
      values = omega (arith, all.enough);
      cells = subst (λ n. AllByRecursion (λ (range : Range). range.from + range.length ≤ n) (ranges its.instr)) (sym shape.cells) (ranges_there task.cells (ranges its.instr) all.cell);
      input = input_there task its.instr r shape.taken all.port;
      states = omega (arith, shape.cells, range.cells.0);
    }

-- ---- all tasks

abbrev AreShaped : List ImageTask → List Running → Type 0
AreShaped [] [] = Unit {0}
AreShaped (task ∷ tasks) (r ∷ rs) = HasShape task r × AreShaped tasks rs
AreShaped _ _ = ⊥

tick_keeps : (costs : Costs) (streams : Streams) (now n : ℕ) (tasks : List ImageTask) (rs : List Running) → AreSound tasks → AreShaped tasks rs → AreShaped tasks (tick_from costs now tasks streams n rs).tasks
tick_keeps costs streams now n [] [] sound shaped = tt
tick_keeps costs streams now n [] (r ∷ rs) sound shaped = absurd shaped
tick_keeps costs streams now n (task ∷ tasks) [] sound shaped = absurd shaped
tick_keeps costs streams now n (task ∷ tasks) (r ∷ rs) sound shaped =
    let inputs = slice_index_or streams n [] in
    let own = sound 0 task refl in
    cond_both (is_ready task now r) (runs now n r (own_tick costs task inputs now r) rs) (after r (tick_from costs now tasks streams (n + 1) rs)) (λ ticked. AreShaped (task ∷ tasks) ticked.tasks)
    (λ _. (own_keeps costs task own.0 own.1 inputs now r shaped.0, shaped.1)) (λ _. (shaped.0, tick_keeps costs streams now (n + 1) tasks rs (λ k. sound (suc k)) shaped.1))

start_shaped : (tasks : List ImageTask) → AreSound tasks → AreShaped tasks (map start_task tasks)
start_shaped [] sound = tt
start_shaped (task ∷ tasks) sound = let own = sound 0 task refl in (start_shape task own.0 own.1, start_shaped tasks (λ k. sound (suc k)))

always_shaped : (image : Image) (streams : Streams) (ticks : ℕ) → AreSound image.tasks → AreShaped image.tasks (machine_after image streams ticks).tasks
always_shaped image streams zero sound = start_shaped image.tasks sound
always_shaped image streams (suc ticks) sound =
    let before = machine_after image streams ticks in tick_keeps image.costs streams before.now 0 image.tasks before.tasks sound (always_shaped image streams ticks sound)

as_many : (tasks : List ImageTask) (rs : List Running) → AreShaped tasks rs → length rs ≡ length tasks
as_many [] [] shaped = refl
as_many [] (r ∷ rs) shaped = absurd shaped
as_many (task ∷ tasks) [] shaped = absurd shaped
as_many (task ∷ tasks) (r ∷ rs) shaped = ap suc (as_many tasks rs shaped.1)

shape_at : (tasks : List ImageTask) (rs : List Running) → AreShaped tasks rs → (number : ℕ) (task : ImageTask) (r : Running) → slice_get tasks number ≡ Some task → slice_get rs number ≡ Some r → HasShape task r
shape_at [] [] shaped number task r e f = absurd (none-some task e)
shape_at [] (x ∷ rs) shaped number task r e f = absurd shaped
shape_at (t ∷ tasks) [] shaped number task r e f = absurd shaped
shape_at (t ∷ tasks) (x ∷ rs) shaped zero task r e f = subst (λ u. HasShape u r) (same_Some t task e) (subst (HasShape t) (same_Some x r f) shaped.0)
shape_at (t ∷ tasks) (x ∷ rs) shaped (suc number) task r e f = shape_at tasks rs shaped.1 number task r e f

pub no_default : NoStepTakesADefault
no_default = λ image streams ticks range valid.
    let its = sound image range valid in
    let rs = (machine_after image streams ticks).tasks in
    let shaped = always_shaped image streams ticks its in
    record {
      as_many = as_many image.tasks rs shaped;
      each = λ number task r e f. let own = its number task e in finds task own.0 own.1 r (shape_at image.tasks rs shaped number task r e f);
    }
