-- The report on a choice, task by task.
use Rattle.std.proofs.Common.{◌≡◌, ◌∙◌, ℕ, suc, ◌+◌, ◌<◌, Bool, List, [], ◌∷◌, ◌++◌, Some, length, get_or, map, refl, sym, ap, subst, arith}
use Rattle.std.specs.List.{AllZip}
use Rattle.std.specs.Prelude.{nat_le, option_map, slice_get}
use Rattle.std.proofs.lemmas.List.{append_assoc, length-map}
use Rattle.std.proofs.lemmas.Option.{slice_get-map, slice_get_read}
use Rattle.tcel_busy.specs.WorstStretches.{AreWorst}
use Rattle.tcel_core.specs.Language.{Task}
use Rattle.tcel_core.specs.Parts.{AreOwnParts, TaskParts}
use Rattle.tcel_core.specs.Plain.{plain_task}
use Rattle.tcel_core.specs.declared.set.CoreTask.{CoreTask}
use Rattle.tcel_cost.specs.Forms.{Form, forms_of}
use Rattle.tcel_cost.specs.Plans.{ArePlans}
use Rattle.tcel_demand.specs.declared.plan.Worst.{Worst}
use Rattle.tcel_num.specs.Plan.{Plan, Point}
use Rattle.tcel_target.specs.declared.costs.Costs.{Costs}
use Rattle.tcel_tool.specs.AnalyseCommand.{IsText}
use Rattle.tcel_tool.specs.Chosen.{plain_choice}
use Rattle.tcel_tool.specs.Report.{AddsTask, AreTaskTexts, IsReport, IsTaskText, is_sliced, points_text, task_line}
use Rattle.tcel_tool.specs.SetChoice.{Choice, IsBest, IsChoiceFor}
use Rattle.tcel_tool.specs.Stage.{Call}
use Rattle.tcel_tool.specs.declared.choice.ChosenSet.{ChosenSet}

forms_long : (sliced : ℕ) (tasks : List Task) (parts : List TaskParts) → AllZip AreOwnParts tasks parts → length (forms_of sliced tasks parts) ≡ length tasks
forms_long sliced [] parts h = refl
forms_long sliced (task ∷ tasks) [] h = absurd h
forms_long sliced (task ∷ tasks) (own ∷ parts) h = ap (λ n. suc n) (forms_long sliced tasks parts h.1)

plans_long : (forms : List Form) (costs : Costs) (plans : List Plan) → ArePlans forms costs plans → length plans ≡ length forms
plans_long [] costs plans h = ap (λ (ps : List Plan). length ps) h
plans_long (form ∷ forms) costs [] h = absurd h
plans_long (form ∷ forms) costs (plan ∷ plans) h = ap (λ n. suc n) (plans_long forms costs plans h.1)

-- each task of a choice has a plan
pub one_plan_each : (c : Choice) → IsBest c → length c.plans ≡ length c.set
one_plan_each c best =
    plans_long (forms_of c.sliced c.set c.parts) c.costs c.plans best.chosen.are ∙ forms_long c.sliced c.set c.parts best.chosen.forms.split

module _ (chosen : ChosenSet) (number : ℕ) (best : IsBest (plain_choice chosen)) (within : number < length chosen.set.tasks) (plans : List Plan) (plans_are : plans ≡ chosen.choice.plans) where
  -- so has the task with this number
  pub has_plan : number < length plans
  has_plan =
      omega (arith, within, length-map chosen.set.tasks plain_task, one_plan_each (plain_choice chosen) best, ap (λ (ps : List Plan). length ps) plans_are)

  -- its line and those of its points are its text
  pub adds_task : (old middle new : List ℕ) (tasks : List CoreTask) (task : CoreTask) (plan : Plan) (points : List Point) (worst shown : List Worst) (sliced : Bool)
      → tasks ≡ chosen.set.tasks → task ≡ get_or tasks number task → plan ≡ get_or plans number plan → AreWorst plans number worst
      → ((p : Plan) → slice_get plans number ≡ Some p → length worst ≡ length p.points) → sliced ≡ nat_le (length tasks) (number + chosen.choice.sliced)
      → middle ≡ old ++ task_line task.name sliced plan → points ≡ plan.points → shown ≡ worst → new ≡ middle ++ points_text shown 0 points
      → AddsTask (plain_choice chosen) number old new
  adds_task old middle new tasks task plan points worst shown sliced tasks_are task_is plan_is are one_each form line points_are same text =
      let c = plain_choice chosen in
      let own = task_line task.name sliced plan ++ points_text shown 0 points in
      let in_set = slice_get_read chosen.set.tasks (length chosen.set.tasks) number task refl within (task_is ∙ ap (λ (ts : List CoreTask). get_or ts number task) tasks_are) in
      let there = slice_get_read plans (length plans) number plan refl has_plan plan_is in
      let long : length tasks ≡ length c.set = ap (λ (ts : List CoreTask). length ts) tasks_are ∙ sym (length-map chosen.set.tasks plain_task) in
      let form_is : sliced ≡ is_sliced c number = form ∙ ap (λ n. nat_le n (number + c.sliced)) long in
      let told : IsTaskText c number own = record {
        task = plain_task task;
        of_set = slice_get-map plain_task chosen.set.tasks number ∙ ap (λ (t : _). option_map plain_task t) in_set;
        plan = plan;
        of_plans = sym (ap (λ (ps : List Plan). slice_get ps number) plans_are) ∙ there;
        worst = worst;
        one_each = one_each plan there;
        are = subst (λ (ps : List Plan). AreWorst ps number worst) plans_are are;
        is =
            ap (λ (b : Bool). task_line task.name b plan ++ points_text shown 0 points) form_is
            ∙ ap (λ (ws : List Worst). task_line task.name (is_sliced c number) plan ++ points_text ws 0 points) same
            ∙ ap (λ (ps : List Point). task_line task.name (is_sliced c number) plan ++ points_text worst 0 ps) points_are;
      } in
      (own, told, text ∙ ap (λ (t : List ℕ). t ++ points_text shown 0 points) line ∙ append_assoc old (task_line task.name sliced plan) (points_text shown 0 points))

-- one task more, behind a head
pub one_task_more : (c : Choice) (n : ℕ) (head old new : List ℕ) → ((front : List ℕ) × AreTaskTexts c n front × (old ≡ head ++ front)) → AddsTask c n old new
    → (front : List ℕ) × AreTaskTexts c (n + 1) front × (new ≡ head ++ front)
one_task_more c n head old new (front, are, e) (own, is, f) =
    let all : AreTaskTexts c (suc n) (front ++ own) = (front, own, are, is, refl) in
    let one_more : suc n ≡ n + 1 = omega arith in
    (front ++ own, subst (λ k. AreTaskTexts c k (front ++ own)) one_more all, f ∙ ap (λ (t : List ℕ). t ++ own) e ∙ append_assoc head front own)

-- a report is the text of the command
abbrev pub reported : (last : Call) (c : Choice) → IsChoiceFor (last.read 1) (last.read 2) c → (report piece : List ℕ) → IsReport c report → piece ≡ report
    → IsText last (piece ∷ [])
reported last c for report piece is same = record { choice = c; for = for; report = report; reports = is; is = ap (λ (t : List ℕ). t ∷ []) same }
