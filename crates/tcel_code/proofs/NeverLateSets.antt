-- Sets whose demand fits, and of whose plans no point is ever late.
use Rattle.std.proofs.Common.{◌≡◌, ℕ, ◌+◌, ◌*◌, ◌≤◌, List, [], ◌∷◌, map, refl, sym, ap, subst, arith, Some}
use Rattle.std.specs.Prelude.{slice_get}
use Rattle.std.specs.List.{AllZip}
use Rattle.std.proofs.lemmas.List.Elements.{All-map, All-weaker, recursion_from_All}
use Rattle.tcel_num.specs.Hyperperiod.{IsHyperperiod, demand}
use Rattle.tcel_num.specs.Lateness.{IsNeverLate}
use Rattle.tcel_num.specs.Plan.{Plan}
use Rattle.tcel_num.specs.Schedule.{served}
use Rattle.tcel_demand.proofs.ReachedInTime.{reached_in_time}
use Rattle.tcel_demand.proofs.ServedAtLast.{served_at_last}
use Rattle.tcel_core.specs.Language.{Task}
use Rattle.tcel_core.specs.Scope.{TaskFits}
use Rattle.tcel_target.specs.declared.costs.Costs.{Costs}
use Rattle.tcel_target.specs.declared.costs.CostKey.TheVariants as keys
use Rattle.tcel_target.specs.Costs.{CostsInRange}
use Rattle.tcel_core.specs.Meets.{Meets}
use Rattle.tcel_image.specs.Machine.{trace}
use Rattle.tcel_cost.specs.Forms.{Form, whole_form}
use Rattle.tcel_cost.specs.Plans.{IsPlan}
use Rattle.tcel_code.specs.Layout.{layout}
use Rattle.tcel_code.specs.PartsFit.{PartsFit}
use Rattle.tcel_code.specs.Theorem.{HasStreams, SetsMeetTheirSource, WholeSetsMeetTheirSource}
use Rattle.tcel_cost.proofs.BoundEvents.{EachPoint, each_point}
use Rattle.tcel_code.proofs.Counters.{own_counters}
use Rattle.tcel_code.proofs.FormFrames.{Reaches}
use Rattle.tcel_code.proofs.FormSets.{all_serve, set_meets, source_of}

module _ (costs : Costs) (ranges : CostsInRange costs) (plans : List Plan) (never : IsNeverLate plans) (hyper : ℕ) (period : IsHyperperiod plans hyper) (fits : demand plans hyper ≤ hyper) where
  -- each point is reached by its bound
  in_time : Unit {0} → (n : ℕ) (form : Form) (plan : Plan) → slice_get plans n ≡ Some plan → IsPlan form costs plan → (f : ℕ) → EachPoint (λ name. Reaches plan.total form.task.period f (λ time. served plans time n)) plan.points
  in_time timed n form plan of_plan is f =
      subst (λ p. EachPoint (λ name. Reaches plan.total p f (λ time. served plans time n)) plan.points) is.period
      (each_point (λ name. Reaches plan.total plan.period f (λ time. served plans time n)) plan.points
      (λ k point of_point.
      let mark = (ranges keys.Mark).0 in
      let total = is.total in
      let later = served_at_last plans hyper period.positive period.common fits n plan of_plan (omega arith) (f * plan.total + point.prefix) in
      reached_in_time plans never n f k plan point of_plan of_point later.0 later.1))

pub sets_meet : SetsMeetTheirSource
sets_meet = λ forms costs plans hyper all ranges are period fits never streams ticks long.
    set_meets (Unit {0}) costs ranges plans streams forms
    (all_serve (Unit {0}) costs ranges plans streams (in_time costs ranges plans never hyper period fits) 0 forms plans streams refl refl (recursion_from_All PartsFit forms all) are long) ticks tt

-- ---- tasks that are not sliced

-- a task as a whole is such a form
pub whole_fits : (task : Task) → TaskFits task → PartsFit (whole_form task)
whole_fits task fits = record {
  period = fits.period;
  states = refl;
  first = fits.body;
  rest = tt;
  untimed = fits.loops;
  first_counters = own_counters task.body;
  rest_counters = tt;
  mean = λ state inputs long. record { events = refl; silent = refl; inputs = refl; states = refl };
}

-- the tasks of whole forms
same_tasks : (set : List Task) → map source_of (map whole_form set) ≡ set
same_tasks [] = refl
same_tasks (task ∷ set) = ap (λ (l : List Task). task ∷ l) (same_tasks set)

pub whole_sets_meet : WholeSetsMeetTheirSource
whole_sets_meet = λ set costs plans hyper all ranges are period fits never streams ticks long.
    let forms = map whole_form set in
    let same = same_tasks set in
    subst (λ (tasks : List Task). Meets tasks plans streams ticks (trace (layout forms costs) streams ticks)) same
    (sets_meet forms costs plans hyper (All-map PartsFit whole_form set (All-weaker TaskFits (λ task. PartsFit (whole_form task)) whole_fits set all)) ranges are period fits never streams ticks
    (subst (λ (tasks : List Task). AllZip HasStreams tasks streams) (sym same) long))
