-- The plans with some of the last tasks sliced: they are sound, release as often, and one step slices one task more.
use Rattle.std.proofs.Common.{◌≡◌, ℕ, ◌+◌, ◌/◌, ◌≤◌, List, [], ◌∷◌, ◌++◌, map, length, get_or, take, drop, set, refl, sym, ap, ◌∙◌, subst, arith}
use Rattle.std.specs.List.{sum}
use Rattle.std.proofs.lemmas.List.{length-append, length-map, length-take-le, append_assoc, append-nil, drop_at, set_at, take_all, take_more}
use Rattle.std.proofs.lemmas.List.Elements.{All-append, All-take, All-drop}
use Rattle.tcel_num.specs.Hyperperiod.{IsLeastCommonMultiple, periods_of}
use Rattle.tcel_num.specs.Plan.{Plan}
use Rattle.tcel_demand.specs.Sound.{AreWithin, IsSoundPlan, frames_in}
use Rattle.tcel_driver.specs.Steps.{ArePaired, joint}
use Rattle.tcel_driver.proofs.Lists.{seen_joint, sum_seen}

-- how many plans there are, and how often they release frames, is seen by their periods
pub periods_long : (a b : List Plan) → periods_of a ≡ periods_of b → length a ≡ length b
periods_long a b e = sym (length-map a (λ (plan : Plan). plan.period)) ∙ (ap (λ (l : List ℕ). length l) e ∙ length-map b (λ (plan : Plan). plan.period))

pub frames_by_periods : (plans : List Plan) (hyper : ℕ) → frames_in plans hyper ≡ sum (map (λ period. hyper / period) (periods_of plans))
frames_by_periods plans hyper = sum_seen (λ period. hyper / period) (λ (plan : Plan). plan.period) plans

pub same_frames : (a b : List Plan) (hyper : ℕ) → periods_of a ≡ periods_of b → frames_in a hyper ≡ frames_in b hyper
same_frames a b hyper e = frames_by_periods a hyper ∙ (ap (λ periods. sum (map (λ period. hyper / period) periods)) e ∙ sym (frames_by_periods b hyper))

pub joint_periods : (n : ℕ) (whole sliced : List Plan) → periods_of sliced ≡ periods_of whole → periods_of (joint n whole sliced) ≡ periods_of whole
joint_periods n whole sliced e = seen_joint (λ (plan : Plan). plan.period) n whole sliced e

-- so they are within the limits as the whole ones are
pub joint_within : (n : ℕ) (whole sliced : List Plan) (hyper : ℕ) → ArePaired whole sliced hyper → AreWithin (joint n whole sliced) hyper
joint_within n whole sliced hyper h =
    let same = joint_periods n whole sliced h.same in
    let long = periods_long (joint n whole sliced) whole same in
    let frames = same_frames (joint n whole sliced) whole hyper same in
    let few = h.at_once.frames in
    let some = h.at_once.sound.some in
    let most = h.at_once.sound.most in
    record {
      sound = record {
        some = omega arith;
        most = omega arith;
        each = All-append IsSoundPlan (take n whole) (drop n sliced) (All-take IsSoundPlan n whole h.at_once.sound.each) (All-drop IsSoundPlan n sliced h.in_parts.sound.each);
      };
      period = subst (λ periods. IsLeastCommonMultiple periods hyper) (sym same) h.at_once.period;
      frames = omega arith;
    }

-- ---- the tasks that are left to slice

-- these are the sliced plans that aren't taken yet, and the others are
pub record Stands (whole sliced left plans : List Plan) : Type 0 where
  pub taken : List Plan
  pub split : sliced ≡ left ++ taken
  pub are : plans ≡ take (length left) whole ++ taken

pub at_first : (whole sliced : List Plan) → length sliced ≡ length whole → Stands whole sliced sliced whole
at_first whole sliced e =
    record { taken = []; split = sym (append-nil sliced); are = sym (append-nil (take (length sliced) whole) ∙ take_all (length sliced) whole (omega arith)) }

pub left_few : (whole sliced left plans : List Plan) → length sliced ≡ length whole → Stands whole sliced left plans → length left ≤ length whole
left_few whole sliced left plans e h = let long = ap (λ (l : List Plan). length l) h.split ∙ length-append left h.taken in omega arith

-- they are joint there
pub stands_joint : (whole sliced left plans : List Plan) → Stands whole sliced left plans → plans ≡ joint (length left) whole sliced
stands_joint whole sliced left plans h =
    h.are ∙ ap (λ l. take (length left) whole ++ l) (sym (ap (λ l. drop (length left) l) h.split ∙ drop_at left h.taken (length left) refl))

-- one task more is sliced
pub one_more : (whole sliced left plans rest : List Plan) (plan : Plan) → length sliced ≡ length whole → Stands whole sliced left plans → left ≡ rest ++ plan ∷ [] → Stands whole sliced rest (set plans (length rest) plan)
one_more whole sliced left plans rest plan e h popped =
    let within = left_few whole sliced left plans e h in
    let long : length left ≡ length rest + 1 = ap (λ (l : List Plan). length l) popped ∙ length-append rest (plan ∷ []) in
    let front : take (length left) whole ≡ take (length rest) whole ++ get_or whole (length rest) plan ∷ [] =
    ap (λ n. take n whole) long ∙ take_more whole (length rest) plan (omega arith) in
    let plans_are : plans ≡ take (length rest) whole ++ get_or whole (length rest) plan ∷ h.taken =
    h.are ∙ (ap (λ l. l ++ h.taken) front ∙ append_assoc (take (length rest) whole) (get_or whole (length rest) plan ∷ []) h.taken) in
    record {
      taken = plan ∷ h.taken;
      split = h.split ∙ (ap (λ l. l ++ h.taken) popped ∙ append_assoc rest (plan ∷ []) h.taken);
      are = ap (λ l. set l (length rest) plan) plans_are
          ∙ set_at (take (length rest) whole) (get_or whole (length rest) plan) h.taken plan (length rest) (length-take-le (length rest) whole (omega arith));
    }

pub plans_long : (whole sliced left plans : List Plan) → periods_of sliced ≡ periods_of whole → Stands whole sliced left plans → length plans ≡ length whole
plans_long whole sliced left plans e h =
    ap (λ (l : List Plan). length l) (stands_joint whole sliced left plans h) ∙ periods_long (joint (length left) whole sliced) whole (joint_periods (length left) whole sliced e)

pub stands_within : (whole sliced left plans : List Plan) (hyper : ℕ) → ArePaired whole sliced hyper → Stands whole sliced left plans → AreWithin plans hyper
stands_within whole sliced left plans hyper paired h =
    subst (λ l. AreWithin l hyper) (sym (stands_joint whole sliced left plans h)) (joint_within (length left) whole sliced hyper paired)
