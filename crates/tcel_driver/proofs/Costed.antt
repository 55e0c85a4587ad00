-- The plans of tasks, in lists beside their tasks and parts.
use Rattle.std.proofs.Common.{◌≡◌, ℕ, zero, suc, ◌+◌, ◌≤◌, true, false, List, [], ◌∷◌, ◌++◌, length, take, refl, sym, ap, subst, arith, Some}
use Rattle.std.specs.Prelude.{slice_get}
use Rattle.std.proofs.lemmas.Bool.{le-leb, lt-leb}
use Rattle.std.proofs.lemmas.Option.{none-some}
use Rattle.tcel_num.specs.Hyperperiod.{periods_of}
use Rattle.tcel_num.specs.Plan.{Plan}
use Rattle.tcel_core.specs.Language.{Task}
use Rattle.tcel_core.specs.Parts.{TaskParts}
use Rattle.tcel_target.specs.declared.costs.Costs.{Costs}
use Rattle.tcel_cost.specs.Forms.{form_of, forms_of}
use Rattle.tcel_cost.specs.Plans.{ArePlans, IsPlan}
use Rattle.tcel_driver.specs.Forms.{AreCosted, IsCosted, task_periods}
use Rattle.tcel_driver.specs.Steps.{joint}
use Rattle.tcel_driver.proofs.Lists.{same_some}
use Rattle.tcel_driver.proofs.OneForms.{one_affordable}

pub costed_at : (costs : Costs) (tasks : List Task) (parts : List TaskParts) (whole sliced : List Plan) (i : ℕ) (task : Task) (own : TaskParts) → AreCosted costs tasks parts whole sliced
    → slice_get tasks i ≡ Some task → slice_get parts i ≡ Some own → (a : Plan) × (b : Plan) × IsCosted costs task own a b
costed_at costs [] parts whole sliced i task own h e f = absurd (none-some task e)
costed_at costs (t ∷ tasks) (p ∷ parts) (w ∷ whole) (s ∷ sliced) zero task own h e f =
    (w, s, subst (λ (x : TaskParts). IsCosted costs task x w s) (same_some p own f) (subst (λ (x : Task). IsCosted costs x p w s) (same_some t task e) h.0))
costed_at costs (t ∷ tasks) (p ∷ parts) (w ∷ whole) (s ∷ sliced) (suc i) task own h e f = costed_at costs tasks parts whole sliced i task own h.1 e f
costed_at costs tasks parts whole sliced i task own h e f = absurd h

pub one_costed : (costs : Costs) (tasks : List Task) (parts : List TaskParts) (whole sliced others more : List Plan) → AreCosted costs tasks parts whole sliced
    → AreCosted costs tasks parts others more → (whole ≡ others) × (sliced ≡ more)
one_costed costs [] [] [] [] [] [] h g = (refl, refl)
one_costed costs (t ∷ tasks) (p ∷ parts) (w ∷ whole) (s ∷ sliced) (v ∷ others) (r ∷ more) h g =
    let rest = one_costed costs tasks parts whole sliced others more h.1 g.1 in
    let first = one_affordable (form_of t false p) costs w v h.0.at_once g.0.at_once in
    let second = one_affordable (form_of t true p) costs s r h.0.in_parts g.0.in_parts in
    ((λ i. first i ∷ rest.0 i), (λ i. second i ∷ rest.1 i))
one_costed costs [] [] [] [] others more h g = absurd g
one_costed costs (t ∷ tasks) (p ∷ parts) (w ∷ whole) (s ∷ sliced) others more h g = absurd g
one_costed costs tasks parts whole sliced others more h g = absurd h

pub costed_push : (costs : Costs) (tasks : List Task) (parts : List TaskParts) (whole sliced : List Plan) (task : Task) (own : TaskParts) (a b : Plan) → AreCosted costs tasks parts whole sliced
    → IsCosted costs task own a b → AreCosted costs (tasks ++ task ∷ []) (parts ++ own ∷ []) (whole ++ a ∷ []) (sliced ++ b ∷ [])
costed_push costs [] [] [] [] task own a b h is = (is, tt)
costed_push costs (t ∷ tasks) (p ∷ parts) (w ∷ whole) (s ∷ sliced) task own a b h is = (h.0, costed_push costs tasks parts whole sliced task own a b h.1 is)
costed_push costs tasks parts whole sliced task own a b h is = absurd h

pub costed_take : (costs : Costs) (tasks : List Task) (parts : List TaskParts) (whole sliced : List Plan) (n : ℕ) → AreCosted costs tasks parts whole sliced
    → AreCosted costs (take n tasks) (take n parts) (take n whole) (take n sliced)
costed_take costs tasks parts whole sliced zero h = tt
costed_take costs [] [] [] [] (suc n) h = tt
costed_take costs (t ∷ tasks) (p ∷ parts) (w ∷ whole) (s ∷ sliced) (suc n) h = (h.0, costed_take costs tasks parts whole sliced n h.1)
costed_take costs tasks parts whole sliced (suc n) h = absurd h

-- ---- lengths and periods

pub whole_long : (costs : Costs) (tasks : List Task) (parts : List TaskParts) (whole sliced : List Plan) → AreCosted costs tasks parts whole sliced → length whole ≡ length tasks
whole_long costs [] [] [] [] h = refl
whole_long costs (t ∷ tasks) (p ∷ parts) (w ∷ whole) (s ∷ sliced) h = ap (λ n. suc n) (whole_long costs tasks parts whole sliced h.1)
whole_long costs tasks parts whole sliced h = absurd h

pub sliced_long : (costs : Costs) (tasks : List Task) (parts : List TaskParts) (whole sliced : List Plan) → AreCosted costs tasks parts whole sliced → length sliced ≡ length tasks
sliced_long costs [] [] [] [] h = refl
sliced_long costs (t ∷ tasks) (p ∷ parts) (w ∷ whole) (s ∷ sliced) h = ap (λ n. suc n) (sliced_long costs tasks parts whole sliced h.1)
sliced_long costs tasks parts whole sliced h = absurd h

pub whole_periods : (costs : Costs) (tasks : List Task) (parts : List TaskParts) (whole sliced : List Plan) → AreCosted costs tasks parts whole sliced → periods_of whole ≡ task_periods tasks
whole_periods costs [] [] [] [] h = refl
whole_periods costs (t ∷ tasks) (p ∷ parts) (w ∷ whole) (s ∷ sliced) h = λ i. h.0.at_once.is.period i ∷ whole_periods costs tasks parts whole sliced h.1 i
whole_periods costs tasks parts whole sliced h = absurd h

pub sliced_periods : (costs : Costs) (tasks : List Task) (parts : List TaskParts) (whole sliced : List Plan) → AreCosted costs tasks parts whole sliced → periods_of sliced ≡ task_periods tasks
sliced_periods costs [] [] [] [] h = refl
sliced_periods costs (t ∷ tasks) (p ∷ parts) (w ∷ whole) (s ∷ sliced) h = λ i. h.0.in_parts.is.period i ∷ sliced_periods costs tasks parts whole sliced h.1 i
sliced_periods costs tasks parts whole sliced h = absurd h

-- ---- the plans of the last tasks sliced

-- where at least as many are sliced as there are tasks, all are
all_sliced : (costs : Costs) (k : ℕ) (tasks : List Task) (parts : List TaskParts) (whole sliced : List Plan) → length tasks ≤ k → AreCosted costs tasks parts whole sliced
    → ArePlans (forms_of k tasks parts) costs sliced
all_sliced costs k [] [] [] [] most h = refl
all_sliced costs k (t ∷ tasks) (p ∷ parts) (w ∷ whole) (s ∷ sliced) most h =
    (subst (λ b. IsPlan (form_of t b p) costs s) (sym (le-leb (length (t ∷ tasks)) k most)) h.0.in_parts.is, all_sliced costs k tasks parts whole sliced (omega arith) h.1)
all_sliced costs k tasks parts whole sliced most h = absurd h

pub joint_plans : (costs : Costs) (k m : ℕ) (tasks : List Task) (parts : List TaskParts) (whole sliced : List Plan) → k + m ≡ length tasks → AreCosted costs tasks parts whole sliced
    → ArePlans (forms_of k tasks parts) costs (joint m whole sliced)
joint_plans costs k zero tasks parts whole sliced e h = all_sliced costs k tasks parts whole sliced (omega arith) h
joint_plans costs k (suc m) [] [] [] [] e h = absurd (omega arith)
joint_plans costs k (suc m) (t ∷ tasks) (p ∷ parts) (w ∷ whole) (s ∷ sliced) e h =
    (subst (λ b. IsPlan (form_of t b p) costs w) (sym (lt-leb (length (t ∷ tasks)) k (omega arith))) h.0.at_once.is, joint_plans costs k m tasks parts whole sliced (omega arith) h.1)
joint_plans costs k (suc m) tasks parts whole sliced e h = absurd h
