-- The answers exclude each other.
use Rattle.std.proofs.Common.{◌≡◌, ℕ, ◌+◌, ◌*◌, ◌^◌, ◌<◌, ◌≤◌, List, length, take, refl, sym, ap, ◌∙◌, subst, arith, Some, inl, inr}
use Rattle.std.specs.Prelude.{◌⊎◌, slice_get}
use Rattle.std.proofs.lemmas.Bool.{cases_order}
use Rattle.std.proofs.lemmas.List.{length-map, take_all, take-take}
use Rattle.std.proofs.lemmas.List.Elements.{All-take}
use Rattle.tcel_num.specs.Hyperperiod.{IsCommonMultiple, IsLeastCommonMultiple, demand}
use Rattle.tcel_num.specs.Lateness.{IsFirstLate, Lateness}
use Rattle.tcel_num.specs.Plan.{Plan}
use Rattle.tcel_core.specs.Language.{Task}
use Rattle.tcel_core.specs.Parts.{AreOwnParts, TaskParts}
use Rattle.tcel_target.specs.declared.costs.Costs.{Costs}
use Rattle.tcel_cost.specs.Forms.{forms_of}
use Rattle.tcel_cost.specs.Plans.{ArePlans}
use Rattle.tcel_cost.proofs.UniquePlans.{plans_are}
use Rattle.tcel_driver.specs.Choice.{Fits, IsChosen}
use Rattle.tcel_driver.specs.Forms.{AreCosted, AreForms, AreSplit, frames_within, task_periods}
use Rattle.tcel_driver.specs.Laws.{TheForms}
use Rattle.tcel_driver.specs.Refusals.{ForbidsForms, HasTooManyFrames, HavePlans, IsDearTask, IsLateSliced, IsOverloaded, IsTooDear, IsTooLarge, IsTooLong, NeedsWords, NoneFits, Refuses}
use Rattle.tcel_driver.specs.declared.refused.Refused.{Refused}
use Rattle.tcel_driver.specs.declared.refused.Refused.TheVariants as refused
use Rattle.tcel_driver.proofs.Chosen.{one_multiple}
use Rattle.tcel_driver.proofs.Costed.{costed_at, one_costed}
use Rattle.tcel_driver.proofs.FirstLates.{one_first_late}
use Rattle.tcel_driver.proofs.Lists.{slice_get_take, zip_at}
use Rattle.tcel_driver.proofs.OneForms.{costed_or_dear, one_count, one_dear_task, one_split, own_or_large}

-- ---- cells

large_or_split : (tasks some : List Task) (parts : List TaskParts) (number words : ℕ) → AreSplit some parts → (h : IsTooLarge tasks number words) → slice_get some number ≡ Some h.task → ⊥
large_or_split tasks some parts number words split h there =
    let own = zip_at AreOwnParts some parts number h.task split there in own_or_large h.task own.0 words own.2 h.needs h.above

no_split : (tasks : List Task) (parts : List TaskParts) (number words : ℕ) → IsTooLarge tasks number words → AreSplit tasks parts → ⊥
no_split tasks parts number words h split = large_or_split tasks tasks parts number words split h h.there

no_larger : (tasks : List Task) (m n v w : ℕ) → m < n → IsTooLarge tasks m v → IsTooLarge tasks n w → ⊥
no_larger tasks m n v w less h g = large_or_split tasks (take n tasks) g.before m v g.earlier h (slice_get_take tasks m n less ∙ h.there)

one_large : (tasks : List Task) (m n v w : ℕ) → IsTooLarge tasks m v → IsTooLarge tasks n w → refused.TooManyCells m v ≡ refused.TooManyCells n w
one_large tasks m n v w h g =
    elim (cases_order m n) [
      | inl same ↦
          let there : slice_get tasks n ≡ Some h.task = subst (λ i. slice_get tasks i ≡ Some h.task) same h.there in
          let mine : slice_get tasks n ≡ Some g.task = g.there in
          let task : h.task ≡ g.task = cc in
          let words = one_count g.task v w (subst (λ (t : Task). NeedsWords t v) task h.needs) g.needs in
          λ i. refused.TooManyCells (same i) (words i)
      | inr (inl less) ↦ absurd (no_larger tasks m n v w less h g)
      | inr (inr more) ↦ absurd (no_larger tasks n m w v more g h)
    ]

-- ---- cycles

module _ (tasks : List Task) (costs : Costs) where
  dear_or_costed : (some : List Task) (own : List TaskParts) (whole sliced : List Plan) (number cycles : ℕ) → AreCosted costs some own whole sliced → (h : IsTooDear tasks costs number cycles)
      → slice_get some number ≡ Some h.task → slice_get own number ≡ Some h.own → ⊥
  dear_or_costed some own whole sliced number cycles costed h there of_task =
      let both = costed_at costs some own whole sliced number h.task h.own costed there of_task in
      costed_or_dear h.task h.own costs both.0 both.1 cycles both.2 h.dear

  no_plans : (number cycles : ℕ) → IsTooDear tasks costs number cycles → HavePlans tasks costs → ⊥
  no_plans number cycles h plans =
      let same : h.parts ≡ plans.parts = one_split tasks h.parts plans.parts h.split plans.split in
      dear_or_costed tasks plans.parts plans.whole plans.sliced number cycles plans.costed h h.there (subst (λ parts. slice_get parts number ≡ Some h.own) same h.of_task)

  no_dearer : (m n c d : ℕ) → m < n → IsTooDear tasks costs m c → IsTooDear tasks costs n d → ⊥
  no_dearer m n c d less h g =
      let same : h.parts ≡ g.parts = one_split tasks h.parts g.parts h.split g.split in
      dear_or_costed (take n tasks) (take n g.parts) g.whole g.sliced m c g.earlier h (slice_get_take tasks m n less ∙ h.there)
      (slice_get_take g.parts m n less ∙ subst (λ parts. slice_get parts m ≡ Some h.own) same h.of_task)

  one_too_dear : (m n c d : ℕ) → IsTooDear tasks costs m c → IsTooDear tasks costs n d → refused.TooDear m c ≡ refused.TooDear n d
  one_too_dear m n c d h g =
      elim (cases_order m n) [
        | inl same ↦
            let parts : h.parts ≡ g.parts = one_split tasks h.parts g.parts h.split g.split in
            let there : slice_get tasks n ≡ Some h.task = subst (λ i. slice_get tasks i ≡ Some h.task) same h.there in
            let mine : slice_get tasks n ≡ Some g.task = g.there in
            let task : h.task ≡ g.task = cc in
            let of_task : slice_get g.parts n ≡ Some h.own = subst (λ i. slice_get g.parts i ≡ Some h.own) same (subst (λ l. slice_get l m ≡ Some h.own) parts h.of_task) in
            let of_mine : slice_get g.parts n ≡ Some g.own = g.of_task in
            let own : h.own ≡ g.own = cc in
            let dear = subst (λ (p : TaskParts). IsDearTask g.task p costs c) own (subst (λ (t : Task). IsDearTask t h.own costs c) task h.dear) in
            let cycles = one_dear_task g.task g.own costs c d dear g.dear in
            λ i. refused.TooDear (same i) (cycles i)
        | inr (inl less) ↦ absurd (no_dearer m n c d less h g)
        | inr (inr more) ↦ absurd (no_dearer n m d c more g h)
      ]

  -- ---- the hyperperiod

  -- the least common multiple of more periods is no smaller
  front_least : (periods : List ℕ) (m n a b : ℕ) → m ≤ n → IsLeastCommonMultiple (take m periods) a → IsLeastCommonMultiple (take n periods) b → a ≤ b
  front_least periods m n a b less h g =
      h.least b g.positive
      (subst (λ l. IsCommonMultiple l b) (take-take m n periods less) (All-take (λ (period : ℕ). (k : ℕ) × (b ≡ k * period)) m (take n periods) g.common))

  no_hyper : (number hyper : ℕ) → IsTooLong tasks costs number → IsLeastCommonMultiple (task_periods tasks) hyper → hyper ≤ 10 ^ 12 → ⊥
  no_hyper number hyper h period most =
      let long = length-map tasks (λ (task : Task). task.period) in
      let there = h.there in
      let above = h.above in
      let all = take_all (length (task_periods tasks)) (task_periods tasks) (omega arith) in
      let least = front_least (task_periods tasks) (number + 1) (length (task_periods tasks)) h.multiple hyper (omega arith) h.with_it (subst (λ l. IsLeastCommonMultiple l hyper) (sym all) period) in
      omega arith

  no_longer : (m n : ℕ) → m < n → IsTooLong tasks costs m → IsTooLong tasks costs n → ⊥
  no_longer m n less h g =
      let above = h.above in
      let most = g.most in
      let least = front_least (task_periods tasks) (m + 1) n h.multiple g.before (omega arith) h.with_it g.earlier in
      omega arith

  one_long : (m n : ℕ) → IsTooLong tasks costs m → IsTooLong tasks costs n → refused.HyperTooLong m ≡ refused.HyperTooLong n
  one_long m n h g =
      elim (cases_order m n) [
        | inl same ↦ ap (λ i. refused.HyperTooLong i) same
        | inr (inl less) ↦ absurd (no_longer m n less h g)
        | inr (inr more) ↦ absurd (no_longer n m more g h)
      ]

  one_frames : (m n : ℕ) → HasTooManyFrames tasks costs m → HasTooManyFrames tasks costs n → refused.TooManyFrames m ≡ refused.TooManyFrames n
  one_frames m n h g =
      let hyper = one_multiple (task_periods tasks) h.hyper g.hyper h.period g.period in
      ap (λ i. refused.TooManyFrames i) (h.counted ∙ (ap (λ i. frames_within tasks i) hyper ∙ sym g.counted))

  no_forms : (frames : ℕ) (parts : List TaskParts) (whole sliced : List Plan) (hyper : ℕ) → HasTooManyFrames tasks costs frames → AreForms tasks costs parts whole sliced hyper → ⊥
  no_forms frames parts whole sliced hyper h forms =
      let few = forms.frames in
      let above = h.above in
      let counted = h.counted in
      let same = ap (λ i. frames_within tasks i) (one_multiple (task_periods tasks) h.hyper hyper h.period forms.period) in
      omega arith

  -- ---- forms

  pub one_forms : (a b : TheForms) → AreForms tasks costs a.parts a.whole a.sliced a.hyper → AreForms tasks costs b.parts b.whole b.sliced b.hyper → a ≡ b
  one_forms a b h g =
      let parts : a.parts ≡ b.parts = one_split tasks a.parts b.parts h.split g.split in
      let plans = one_costed costs tasks b.parts a.whole a.sliced b.whole b.sliced (subst (λ p. AreCosted costs tasks p a.whole a.sliced) parts h.costed) g.costed in
      let hyper = one_multiple (task_periods tasks) a.hyper b.hyper h.period g.period in
      λ i. let forms : TheForms = record { parts = parts i; whole = plans.0 i; sliced = plans.1 i; hyper = hyper i } in forms

  plans_of : (parts : List TaskParts) (whole sliced : List Plan) (hyper : ℕ) → AreForms tasks costs parts whole sliced hyper → HavePlans tasks costs
  plans_of parts whole sliced hyper h = record { parts = parts; split = h.split; whole = whole; sliced = sliced; costed = h.costed }

  -- ---- time

  same_forms : (sliced others : List Plan) (hyper other : ℕ) → NoneFits tasks costs sliced hyper → NoneFits tasks costs others other → (sliced ≡ others) × (hyper ≡ other)
  same_forms sliced others hyper other h g =
      let a : TheForms = record { parts = h.parts; whole = h.whole; sliced = sliced; hyper = hyper } in
      let b : TheForms = record { parts = g.parts; whole = g.whole; sliced = others; hyper = other } in
      let same : a ≡ b = one_forms a b h.forms g.forms in
      (ap (λ (f : TheForms). f.sliced) same, ap (λ (f : TheForms). f.hyper) same)

  one_overload : (c d m n : ℕ) → IsOverloaded tasks costs c m → IsOverloaded tasks costs d n → refused.Overload c m ≡ refused.Overload d n
  one_overload c d m n h g =
      let same = same_forms h.sliced g.sliced m n h.none g.none in
      let cycles = h.counted ∙ ((λ i. demand (same.0 i) (same.1 i)) ∙ sym g.counted) in
      λ i. refused.Overload (cycles i) (same.1 i)

  room_or_overload : (c m : ℕ) (late : Lateness) → IsOverloaded tasks costs c m → IsLateSliced tasks costs late → ⊥
  room_or_overload c m late h g =
      let same = same_forms h.sliced g.sliced m g.hyper h.none g.none in
      let room = subst (λ n. demand g.sliced n ≤ n) (sym same.1) g.room in
      let counted = h.counted ∙ ap (λ plans. demand plans m) same.0 in
      let above = h.above in
      omega arith

  one_late : (a b : Lateness) → IsLateSliced tasks costs a → IsLateSliced tasks costs b → refused.Late a ≡ refused.Late b
  one_late a b h g =
      let same = same_forms h.sliced g.sliced h.hyper g.hyper h.none g.none in
      ap (λ (l : Lateness). refused.Late l) (one_first_late g.sliced a b (subst (λ plans. IsFirstLate plans a) same.0 h.first) g.first)

  -- a choice and a set of which no number fits
  none_or_chosen : (k : ℕ) (plans : List Plan) (parts : List TaskParts) (sliced : List Plan) (hyper : ℕ) → IsChosen tasks costs k plans parts → NoneFits tasks costs sliced hyper → ⊥
  none_or_chosen k plans parts sliced hyper h g =
      let same : parts ≡ g.parts = one_split tasks parts g.parts h.forms.split g.forms.split in
      let fits : Fits tasks costs parts k = record { plans = plans; are = h.are; in_time = h.in_time } in
      g.none k h.most (subst (λ p. Fits tasks costs p k) same fits)

  -- ---- the laws

  -- each cause stands where no later one does
  pub one_refusal : (a b : Refused) → Refuses tasks costs a → Refuses tasks costs b → (a ≡ b) ⊎ (a ≡ refused.NoMemory) ⊎ (b ≡ refused.NoMemory)
  one_refusal refused.NoMemory b h g = inr (inl refl)
  one_refusal a refused.NoMemory h g = inr (inr refl)
  one_refusal (refused.TooManyCells m v) (refused.TooManyCells n w) h g = inl (one_large tasks m n v w h g)
  one_refusal (refused.TooManyCells m v) (refused.TooDear n w) h g = absurd (no_split tasks g.parts m v h g.split)
  one_refusal (refused.TooManyCells m v) (refused.HyperTooLong n) h g = absurd (no_split tasks g.plans.parts m v h g.plans.split)
  one_refusal (refused.TooManyCells m v) (refused.TooManyFrames n) h g = absurd (no_split tasks g.plans.parts m v h g.plans.split)
  one_refusal (refused.TooManyCells m v) (refused.Overload n w) h g = absurd (no_split tasks g.none.parts m v h g.none.forms.split)
  one_refusal (refused.TooManyCells m v) (refused.Late n) h g = absurd (no_split tasks g.none.parts m v h g.none.forms.split)
  one_refusal (refused.TooDear m v) (refused.TooManyCells n w) h g = absurd (no_split tasks h.parts n w g h.split)
  one_refusal (refused.TooDear m v) (refused.TooDear n w) h g = inl (one_too_dear m n v w h g)
  one_refusal (refused.TooDear m v) (refused.HyperTooLong n) h g = absurd (no_plans m v h g.plans)
  one_refusal (refused.TooDear m v) (refused.TooManyFrames n) h g = absurd (no_plans m v h g.plans)
  one_refusal (refused.TooDear m v) (refused.Overload n w) h g = absurd (no_plans m v h (plans_of g.none.parts g.none.whole g.sliced w g.none.forms))
  one_refusal (refused.TooDear m v) (refused.Late n) h g = absurd (no_plans m v h (plans_of g.none.parts g.none.whole g.sliced g.hyper g.none.forms))
  one_refusal (refused.HyperTooLong m) (refused.TooManyCells n w) h g = absurd (no_split tasks h.plans.parts n w g h.plans.split)
  one_refusal (refused.HyperTooLong m) (refused.TooDear n w) h g = absurd (no_plans n w g h.plans)
  one_refusal (refused.HyperTooLong m) (refused.HyperTooLong n) h g = inl (one_long m n h g)
  one_refusal (refused.HyperTooLong m) (refused.TooManyFrames n) h g = absurd (no_hyper m g.hyper h g.period g.most)
  one_refusal (refused.HyperTooLong m) (refused.Overload n w) h g = absurd (no_hyper m w h g.none.forms.period g.none.forms.most)
  one_refusal (refused.HyperTooLong m) (refused.Late n) h g = absurd (no_hyper m g.hyper h g.none.forms.period g.none.forms.most)
  one_refusal (refused.TooManyFrames m) (refused.TooManyCells n w) h g = absurd (no_split tasks h.plans.parts n w g h.plans.split)
  one_refusal (refused.TooManyFrames m) (refused.TooDear n w) h g = absurd (no_plans n w g h.plans)
  one_refusal (refused.TooManyFrames m) (refused.HyperTooLong n) h g = absurd (no_hyper n h.hyper g h.period h.most)
  one_refusal (refused.TooManyFrames m) (refused.TooManyFrames n) h g = inl (one_frames m n h g)
  one_refusal (refused.TooManyFrames m) (refused.Overload n w) h g = absurd (no_forms m g.none.parts g.none.whole g.sliced w h g.none.forms)
  one_refusal (refused.TooManyFrames m) (refused.Late n) h g = absurd (no_forms m g.none.parts g.none.whole g.sliced g.hyper h g.none.forms)
  one_refusal (refused.Overload m v) (refused.TooManyCells n w) h g = absurd (no_split tasks h.none.parts n w g h.none.forms.split)
  one_refusal (refused.Overload m v) (refused.TooDear n w) h g = absurd (no_plans n w g (plans_of h.none.parts h.none.whole h.sliced v h.none.forms))
  one_refusal (refused.Overload m v) (refused.HyperTooLong n) h g = absurd (no_hyper n v g h.none.forms.period h.none.forms.most)
  one_refusal (refused.Overload m v) (refused.TooManyFrames n) h g = absurd (no_forms n h.none.parts h.none.whole h.sliced v g h.none.forms)
  one_refusal (refused.Overload m v) (refused.Overload n w) h g = inl (one_overload m n v w h g)
  one_refusal (refused.Overload m v) (refused.Late n) h g = absurd (room_or_overload m v n h g)
  one_refusal (refused.Late m) (refused.TooManyCells n w) h g = absurd (no_split tasks h.none.parts n w g h.none.forms.split)
  one_refusal (refused.Late m) (refused.TooDear n w) h g = absurd (no_plans n w g (plans_of h.none.parts h.none.whole h.sliced h.hyper h.none.forms))
  one_refusal (refused.Late m) (refused.HyperTooLong n) h g = absurd (no_hyper n h.hyper g h.none.forms.period h.none.forms.most)
  one_refusal (refused.Late m) (refused.TooManyFrames n) h g = absurd (no_forms n h.none.parts h.none.whole h.sliced h.hyper g h.none.forms)
  one_refusal (refused.Late m) (refused.Overload n w) h g = absurd (room_or_overload n w m g h)
  one_refusal (refused.Late m) (refused.Late n) h g = inl (one_late m n h g)

  -- where forms are given no cause forbids them
  pub given : (parts : List TaskParts) (whole sliced : List Plan) (hyper : ℕ) (cause : Refused) → AreForms tasks costs parts whole sliced hyper → ForbidsForms tasks costs cause → cause ≡ refused.NoMemory
  given parts whole sliced hyper (refused.TooManyCells m v) forms h = absurd (no_split tasks parts m v h forms.split)
  given parts whole sliced hyper (refused.TooDear m v) forms h = absurd (no_plans m v h (plans_of parts whole sliced hyper forms))
  given parts whole sliced hyper (refused.HyperTooLong m) forms h = absurd (no_hyper m hyper h forms.period forms.most)
  given parts whole sliced hyper (refused.TooManyFrames m) forms h = absurd (no_forms m parts whole sliced hyper h forms)
  given parts whole sliced hyper (refused.Overload m v) forms h = absurd h
  given parts whole sliced hyper (refused.Late m) forms h = absurd h
  given parts whole sliced hyper refused.NoMemory forms h = refl

  pub made : (k : ℕ) (plans : List Plan) (parts : List TaskParts) (cause : Refused) → IsChosen tasks costs k plans parts → Refuses tasks costs cause → cause ≡ refused.NoMemory
  made k plans parts (refused.Overload m v) choice h = absurd (none_or_chosen k plans parts h.sliced v choice h.none)
  made k plans parts (refused.Late m) choice h = absurd (none_or_chosen k plans parts h.sliced h.hyper choice h.none)
  made k plans parts cause choice h = given parts choice.at_once choice.in_parts choice.hyper cause choice.forms h

  no_fewer : (k l : ℕ) (plans others : List Plan) (parts : List TaskParts) → k < l → IsChosen tasks costs k plans parts → IsChosen tasks costs l others parts → ⊥
  no_fewer k l plans others parts less h g = g.least k less (record { plans = plans; are = h.are; in_time = h.in_time })

  pub one_choice : (k l : ℕ) (plans others : List Plan) (parts own : List TaskParts) → IsChosen tasks costs k plans parts → IsChosen tasks costs l others own → (k ≡ l) × (plans ≡ others) × (parts ≡ own)
  one_choice k l plans others parts own h g =
      let same : parts ≡ own = one_split tasks parts own h.forms.split g.forms.split in
      let there : IsChosen tasks costs k plans own = subst (λ p. IsChosen tasks costs k plans p) same h in
      let number : k ≡ l = elim (cases_order k l) [
        | inl e ↦ e
        | inr (inl less) ↦ absurd (no_fewer k l plans others own less there g)
        | inr (inr more) ↦ absurd (no_fewer l k others plans own more g there)
      ] in
      let are = subst (λ n. ArePlans (forms_of n tasks own) costs plans) number there.are in
      (number, plans_are (forms_of l tasks own) costs plans others are g.are, same)
