-- What is found by two lists of plans is the choice, or why there is none.
use Rattle.std.proofs.Common.{◌≡◌, ℕ, ◌-◌, ◌<◌, ◌≤◌, List, length, sym, ap, ◌∙◌, subst, arith}
use Rattle.tcel_num.specs.Hyperperiod.{IsHyperperiod, IsLeastCommonMultiple, demand, periods_of}
use Rattle.tcel_num.specs.Plan.{Plan}
use Rattle.tcel_core.specs.Language.{Task}
use Rattle.tcel_core.specs.Parts.{TaskParts}
use Rattle.tcel_target.specs.declared.costs.Costs.{Costs}
use Rattle.tcel_cost.specs.Forms.{forms_of}
use Rattle.tcel_cost.specs.Plans.{ArePlans}
use Rattle.tcel_cost.proofs.UniquePlans.{plans_are}
use Rattle.tcel_driver.specs.Choice.{AreInTime, Fits, IsChosen}
use Rattle.tcel_driver.specs.Forms.{AreForms}
use Rattle.tcel_driver.specs.Refusals.{ForbidsForms, NoneFits, Refuses}
use Rattle.tcel_driver.specs.Steps.{HaveFault, HaveTime, IsLeast, joint}
use Rattle.tcel_driver.specs.declared.refused.Refused.{Refused}
use Rattle.tcel_driver.specs.declared.refused.Refused.TheVariants as refused
use Rattle.tcel_driver.proofs.Costed.{joint_plans, sliced_periods, whole_long, whole_periods}
use Rattle.tcel_driver.proofs.Joint.{joint_periods}

pub one_multiple : (periods : List ℕ) (m n : ℕ) → IsLeastCommonMultiple periods m → IsLeastCommonMultiple periods n → m ≡ n
one_multiple periods m n h g = omega (arith, h.least n g.positive g.common, g.least m h.positive h.common)

module _ (tasks : List Task) (costs : Costs) (parts : List TaskParts) (whole sliced : List Plan) (hyper : ℕ) (forms : AreForms tasks costs parts whole sliced hyper) where
  plans_at : (k : ℕ) → k ≤ length tasks → ArePlans (forms_of k tasks parts) costs (joint (length whole - k) whole sliced)
  plans_at k most =
      let long = whole_long costs tasks parts whole sliced forms.costed in
      joint_plans costs k (length whole - k) tasks parts whole sliced (omega arith) forms.costed

  pub releases : (k : ℕ) → IsHyperperiod (joint k whole sliced) hyper
  releases k =
      let at_once = whole_periods costs tasks parts whole sliced forms.costed in
      let in_parts = sliced_periods costs tasks parts whole sliced forms.costed in
      let same = joint_periods k whole sliced (in_parts ∙ sym at_once) ∙ at_once in
      subst (λ periods. IsLeastCommonMultiple periods hyper) (sym same) forms.period

  pub has_time : (k : ℕ) → k ≤ length tasks → Fits tasks costs parts k → HaveTime (joint (length whole - k) whole sliced) hyper
  has_time k most fits =
      let plans = joint (length whole - k) whole sliced in
      let same : fits.plans ≡ plans = plans_are (forms_of k tasks parts) costs fits.plans plans fits.are (plans_at k most) in
      let in_time : AreInTime plans = subst AreInTime same fits.in_time in
      let at : in_time.hyper ≡ hyper = one_multiple (periods_of plans) in_time.hyper hyper in_time.period (releases (length whole - k)) in
      record { room = subst (λ n. demand plans n ≤ n) at in_time.room; never = in_time.never }

  pub chosen : (k : ℕ) (plans : List Plan) → IsLeast whole sliced hyper k plans → IsChosen tasks costs k plans parts
  chosen k plans h =
      let long = whole_long costs tasks parts whole sliced forms.costed in
      let most = h.most in
      record {
        at_once = whole;
        in_parts = sliced;
        hyper = hyper;
        forms = forms;
        most = omega arith;
        are = subst (ArePlans (forms_of k tasks parts) costs) (sym h.are) (plans_at k (omega arith));
        in_time = record {
          hyper = hyper;
          period = subst (λ l. IsHyperperiod l hyper) (sym h.are) (releases (length whole - k));
          room = h.time.room;
          never = h.time.never;
        };
        least = λ fewer less fits. h.least fewer less (has_time fewer (omega arith) fits);
      }

  none_fits : (fault : Refused) → HaveFault whole sliced hyper fault → NoneFits tasks costs sliced hyper
  none_fits fault h =
      let long = whole_long costs tasks parts whole sliced forms.costed in
      record { parts = parts; whole = whole; forms = forms; none = λ k most fits. h.none k (omega arith) (has_time k most fits) }

  pub rejected : (fault : Refused) → HaveFault whole sliced hyper fault → Refuses tasks costs fault
  rejected (refused.Overload cycles ticks) h =
      let same = sym h.is.1 in
      record {
        sliced = sliced;
        none = subst (NoneFits tasks costs sliced) same (none_fits (refused.Overload cycles ticks) h);
        counted = h.is.0 ∙ ap (λ n. demand sliced n) same;
        above = subst (λ n. n < cycles) same h.is.2;
      }
  rejected (refused.Late late) h =
      record { sliced = sliced; hyper = hyper; none = none_fits (refused.Late late) h; room = h.is.0; first = h.is.1 }
  rejected fault h = absurd h.is

-- why forms aren't given is why no choice is made
pub forbidden : (tasks : List Task) (costs : Costs) (cause : Refused) → ForbidsForms tasks costs cause → Refuses tasks costs cause
forbidden tasks costs (refused.Overload cycles ticks) h = absurd h
forbidden tasks costs (refused.Late late) h = absurd h
forbidden tasks costs cause h = h
