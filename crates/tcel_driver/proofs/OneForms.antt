-- A task has one kept set, so its parts are one; and a form has one plan.
use Rattle.std.proofs.Common.{◌≡◌, ℕ, ◌<◌, Bool, true, false, List, refl, sym, ap, ◌∙◌, arith, inl, inr}
use Rattle.std.proofs.Math.Path.{fun_ext}
use Rattle.tcel_num.specs.Plan.{Plan}
use Rattle.tcel_core.specs.Kept.{IsKeptSet}
use Rattle.tcel_core.specs.Language.{Block, Task}
use Rattle.tcel_core.specs.Parts.{AreOwnParts, TaskParts, parts_of, slicing_of}
use Rattle.tcel_target.specs.declared.costs.Costs.{Costs}
use Rattle.tcel_cost.specs.Forms.{Form, form_of}
use Rattle.tcel_cost.proofs.UniquePlans.{plan_is}
use Rattle.tcel_driver.specs.Forms.{AreSplit, IsAffordable, IsCosted}
use Rattle.tcel_driver.specs.Refusals.{IsDearForm, IsDearTask, NeedsWords}
use Rattle.tcel_driver.proofs.Lists.{zip_one}

-- ---- parts

same_truth : (a b : Bool) → (a ≡ true → b ≡ true) → (b ≡ true → a ≡ true) → a ≡ b
same_truth true true f g = refl
same_truth true false f g = sym (f refl)
same_truth false true f g = g refl
same_truth false false f g = refl

kept_same : (body : Block) (k l : ℕ → Bool) → IsKeptSet body k → IsKeptSet body l → k ≡ l
kept_same body k l h g = fun_ext (λ n. same_truth (k n) (l n) (h.least l g.closed n) (g.least k h.closed n))

by_kept : (task : Task) (k l : ℕ → Bool) → IsKeptSet task.body k → IsKeptSet task.body l → parts_of (slicing_of task k) ≡ parts_of (slicing_of task l)
by_kept task k l h g = ap (λ (kept : ℕ → Bool). parts_of (slicing_of task kept)) (kept_same task.body k l h g)

pub one_own : (task : Task) (a b : TaskParts) → AreOwnParts task a → AreOwnParts task b → a ≡ b
one_own task a b h g = h.are ∙ (by_kept task h.kept g.kept h.least g.least ∙ sym g.are)

pub one_split : (tasks : List Task) (parts others : List TaskParts) → AreSplit tasks parts → AreSplit tasks others → parts ≡ others
one_split tasks parts others h g = zip_one AreOwnParts one_own tasks parts others h g

pub one_count : (task : Task) (a b : ℕ) → NeedsWords task a → NeedsWords task b → a ≡ b
one_count task a b h g = h.counted ∙ (ap (λ (p : TaskParts). p.words) (by_kept task h.kept g.kept h.least g.least) ∙ sym g.counted)

pub own_or_large : (task : Task) (own : TaskParts) (words : ℕ) → AreOwnParts task own → NeedsWords task words → 65536 < words → ⊥
own_or_large task own words h g above =
    let few = h.few in
    let same : own.words ≡ words = one_count task own.words words (record { kept = h.kept; least = h.least; counted = ap (λ (p : TaskParts). p.words) h.are }) g in
    omega arith

-- ---- plans

pub one_affordable : (form : Form) (costs : Costs) (a b : Plan) → IsAffordable form costs a → IsAffordable form costs b → a ≡ b
one_affordable form costs a b h g = plan_is form costs a b h.is g.is

pub one_dear : (form : Form) (costs : Costs) (a b : ℕ) → IsDearForm form costs a → IsDearForm form costs b → a ≡ b
one_dear form costs a b h g = h.counted ∙ (ap (λ (p : Plan). p.total) (plan_is form costs h.plan g.plan h.is g.is) ∙ sym g.counted)

pub affordable_or_dear : (form : Form) (costs : Costs) (plan : Plan) (cycles : ℕ) → IsAffordable form costs plan → IsDearForm form costs cycles → ⊥
affordable_or_dear form costs plan cycles h g =
    let few = h.few in
    let counted = g.counted in
    let above = g.above in
    let same = ap (λ (p : Plan). p.total) (plan_is form costs plan g.plan h.is g.is) in
    omega arith

pub one_dear_task : (task : Task) (own : TaskParts) (costs : Costs) (a b : ℕ) → IsDearTask task own costs a → IsDearTask task own costs b → a ≡ b
one_dear_task task own costs a b (inl h) (inl g) = one_dear (form_of task false own) costs a b h g
one_dear_task task own costs a b (inl h) (inr g) = absurd (affordable_or_dear (form_of task false own) costs g.0 a g.1 h)
one_dear_task task own costs a b (inr h) (inl g) = absurd (affordable_or_dear (form_of task false own) costs h.0 b h.1 g)
one_dear_task task own costs a b (inr h) (inr g) = one_dear (form_of task true own) costs a b h.2 g.2

pub costed_or_dear : (task : Task) (own : TaskParts) (costs : Costs) (whole sliced : Plan) (cycles : ℕ) → IsCosted costs task own whole sliced → IsDearTask task own costs cycles → ⊥
costed_or_dear task own costs whole sliced cycles h (inl g) = affordable_or_dear (form_of task false own) costs whole cycles h.at_once g
costed_or_dear task own costs whole sliced cycles h (inr g) = affordable_or_dear (form_of task true own) costs sliced cycles h.in_parts g.2
