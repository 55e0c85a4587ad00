-- The faults of the sets that were asked: they exclude that these fit, and the next set's fault goes behind them.
use Rattle.std.proofs.Common.{◌≡◌, ◌⊎◌, ℕ, zero, suc, ◌+◌, ◌^◌, ◌<◌, ◌≤◌, Bool, true, false, List, [], ◌∷◌, ◌++◌, length, refl, sym, ap, ◌∙◌, subst, arith, Some, inl, inr}
use Rattle.std.specs.Prelude.{slice_get}
use Rattle.std.proofs.lemmas.Bool.{cases_lt}
use Rattle.std.proofs.lemmas.Option.{none-some, slice_get_within}
use Rattle.tcel_num.specs.Plan.{Plan}
use Rattle.tcel_num.specs.Lateness.{place_of}
use Rattle.tcel_driver.specs.Steps.{HaveTime}
use Rattle.tcel_driver.proofs.FirstLates.{is_late}
use Rattle.tcel_driver.proofs.Lists.{same_some}
use Rattle.tcel_fewest.specs.Faults.{AreFaults, IsAsked, IsBefore, IsFault, IsFewest, IsReached, IsSet, IsTold, NoneFits}
use Rattle.tcel_fewest.specs.Sets.{Precedes, plans_of, size_of}
use Rattle.tcel_fewest.specs.declared.fault.SetFault.{SetFault}
use Rattle.tcel_fewest.specs.declared.fault.Why.{Why}
use Rattle.tcel_fewest.specs.declared.fault.Why.TheVariants as why
use Rattle.tcel_fewest.proofs.SetLemmas.{size_most}

pub fault_or_time : (plans : List Plan) (hyper : ℕ) (reason : Why) → IsFault plans hyper reason → HaveTime plans hyper → ⊥
fault_or_time plans hyper (why.Overload cycles ticks) h time = let room = time.room in let above = h.2 in omega arith
fault_or_time plans hyper (why.Late late) h time = time.never (place_of late) (is_late plans late h.1)

-- ---- one element more of a list

module _ {X : Type 0} where
  get_new : (xs : List X) (x : X) → slice_get (xs ++ x ∷ []) (length xs) ≡ Some x
  get_new [] x = refl
  get_new (y ∷ xs) x = get_new xs x

  get_old : (xs : List X) (x y : X) (i : ℕ) → slice_get xs i ≡ Some y → slice_get (xs ++ x ∷ []) i ≡ Some y
  get_old [] x y i e = absurd (none-some y e)
  get_old (z ∷ xs) x y zero e = e
  get_old (z ∷ xs) x y (suc i) e = get_old xs x y i e

  get_either : (xs : List X) (x y : X) (i : ℕ) → slice_get (xs ++ x ∷ []) i ≡ Some y → slice_get xs i ≡ Some y ⊎ (i ≡ length xs × y ≡ x)
  get_either [] x y zero e = inr (refl, sym (same_some x y e))
  get_either [] x y (suc i) e = absurd (none-some y e)
  get_either (z ∷ xs) x y zero e = inl e
  get_either (z ∷ xs) x y (suc i) e =
      elim (get_either xs x y i e) [
        | inl old ↦ inl old
        | inr new ↦ inr (ap (λ n. suc n) (new.0), new.1)
      ]

-- ---- the faults so far

module _ (whole sliced : List Plan) (hyper : ℕ) where
  pub none_fits : (Among : ℕ → Type 0) (faults : List SetFault) → AreFaults whole sliced hyper Among faults → (set : ℕ) → Among set → HaveTime (plans_of set whole sliced) hyper → ⊥
  none_fits Among faults h set among time =
      let told = h.all set among in
      let wrong = (h.each told.place told.fault told.there).1 in
      fault_or_time (plans_of set whole sliced) hyper told.fault.why (subst (λ s. IsFault (plans_of s whole sliced) hyper told.fault.why) told.of_set wrong) time

  -- of the same sets, said in other words
  pub faults_of_same : (Among Others : ℕ → Type 0) (faults : List SetFault) → ((set : ℕ) → Among set → Others set) → ((set : ℕ) → Others set → Among set)
      → AreFaults whole sliced hyper Among faults → AreFaults whole sliced hyper Others faults
  faults_of_same Among Others faults f g h =
      record {
        each = λ place fault there. let one = h.each place fault there in (f fault.tasks one.0, one.1);
        all = λ set other. h.all set (g set other);
        order = h.order;
      }

  -- and of one set more, which comes behind them
  module _ (Among Others : ℕ → Type 0) (faults : List SetFault) (set : ℕ) (reason : Why)
      (wider : (s : ℕ) → Among s → Others s) (new : Others set) (no_wider : (s : ℕ) → Others s → Among s ⊎ (s ≡ set)) (behind : (s : ℕ) → Among s → Precedes (length whole) s set)
      (wrong : IsFault (plans_of set whole sliced) hyper reason) (h : AreFaults whole sliced hyper Among faults) where
    abbrev fresh : SetFault
    fresh = record { tasks = set; why = reason }

    each_with : (place : ℕ) (fault : SetFault) → slice_get (faults ++ fresh ∷ []) place ≡ Some fault → Others fault.tasks × IsFault (plans_of fault.tasks whole sliced) hyper fault.why
    each_with place fault there =
        elim (get_either faults fresh fault place there) [
          | inl old ↦ let one = h.each place fault old in (wider fault.tasks one.0, one.1)
          | inr last ↦ subst (λ (f : SetFault). Others f.tasks × IsFault (plans_of f.tasks whole sliced) hyper f.why) (sym last.1) (new, wrong)
        ]

    all_with : (s : ℕ) → Others s → IsTold (faults ++ fresh ∷ []) s
    all_with s other =
        elim (no_wider s other) [
          | inl among ↦
              let told = h.all s among in
              record { place = told.place; fault = told.fault; there = get_old faults fresh told.fault told.place told.there; of_set = told.of_set }
          | inr same ↦ record { place = length faults; fault = fresh; there = get_new faults fresh; of_set = sym same }
        ]

    order_with : (i j : ℕ) (a b : SetFault) → i < j → slice_get (faults ++ fresh ∷ []) i ≡ Some a → slice_get (faults ++ fresh ∷ []) j ≡ Some b → Precedes (length whole) a.tasks b.tasks
    order_with i j a b less at_i at_j =
        elim (get_either faults fresh a i at_i) [
          | inr last ↦ elim (get_either faults fresh b j at_j) [
            | inl old ↦ let within = slice_get_within faults j b old in let place = last.0 in absurd (omega arith)
            | inr other ↦ let place = last.0 in let beside = other.0 in absurd (omega arith)
          ]
          | inl old ↦ elim (get_either faults fresh b j at_j) [
            | inl other ↦ h.order i j a b less old other
            | inr last ↦ subst (λ (f : SetFault). Precedes (length whole) a.tasks f.tasks) (sym last.1) (behind a.tasks (h.each i a old).0)
          ]
        ]

    pub faults_with : AreFaults whole sliced hyper Others (faults ++ record { tasks = set; why = reason } ∷ [])
    faults_with = record { each = each_with; all = all_with; order = order_with }

-- ---- the sets in their order

-- a set with this size and number comes before another size and number
abbrev Reached : ℕ → ℕ → ℕ → ℕ → Type 0
Reached own size set upto = (own < size) ⊎ ((own ≡ size) × (set < upto))

later : (own size set upto : ℕ) → Reached own size set upto → Reached own size set (upto + 1)
later own size set upto (inl less) = inl less
later own size set upto (inr at) = let less = at.1 in inr (at.0, omega arith)

earlier : (own size set upto : ℕ) → Reached own size set (upto + 1) → Reached own size set upto ⊎ ((own ≡ size) × (set ≡ upto))
earlier own size set upto (inl less) = inl (inl less)
earlier own size set upto (inr at) =
    elim (cases_lt set upto) [
      | inl less ↦ inl (inr (at.0, less))
      | inr more ↦ let less = at.1 in inr (at.0, omega arith)
    ]

smaller : (own size set upto : ℕ) → Reached own size set upto → Reached own (size + 1) set 0
smaller own size set upto (inl less) = inl (omega arith)
smaller own size set upto (inr at) = let same = at.0 in inl (omega arith)

no_smaller : (own size set upto : ℕ) → set < upto → Reached own (size + 1) set 0 → Reached own size set upto
no_smaller own size set upto within (inl less) =
    elim (cases_lt own size) [
      | inl smaller ↦ inl smaller
      | inr more ↦ inr (omega arith, within)
    ]
no_smaller own size set upto within (inr at) = let none = at.1 in absurd (omega arith)

nothing : (own set : ℕ) → Reached own 0 set 0 → ⊥
nothing own set (inl less) = omega arith
nothing own set (inr at) = let less = at.1 in omega arith

module _ (whole sliced : List Plan) (hyper : ℕ) where
  abbrev Told : ℕ → ℕ → List SetFault → Type 0
  Told size upto faults = AreFaults whole sliced hyper (IsReached (length whole) size upto) faults

  abbrev own : ℕ → ℕ
  own set = size_of (length whole) set

  -- a set of another size is passed
  pub told_other : (size set : ℕ) (faults : List SetFault) → (size_of (length whole) set ≡ size → ⊥) → Told size set faults → Told size (set + 1) faults
  told_other size set faults other h =
      faults_of_same whole sliced hyper (IsReached (length whole) size set) (IsReached (length whole) size (set + 1)) faults
      (λ s reached. (reached.0, later (own s) size s set reached.1))
      (λ s reached. (
        reached.0,
        elim (earlier (own s) size s set reached.1) [
          | inl before ↦ before
          | inr here ↦ absurd (other (ap (λ n. size_of (length whole) n) (sym here.1) ∙ here.0))
        ],
      )) h

  -- the fault of one of this size is added
  pub told_next : (size set : ℕ) (faults : List SetFault) (reason : Why) → IsSet (length whole) set → size_of (length whole) set ≡ size → IsFault (plans_of set whole sliced) hyper reason → Told size set faults
      → Told size (set + 1) (faults ++ record { tasks = set; why = reason } ∷ [])
  told_next size set faults reason is same wrong h =
      faults_with whole sliced hyper (IsReached (length whole) size set) (IsReached (length whole) size (set + 1)) faults set reason
      (λ s reached. (reached.0, later (own s) size s set reached.1)) (is, inr (same, omega arith))
      (λ s reached. elim (earlier (own s) size s set reached.1) [
        | inl before ↦ inl (reached.0, before)
        | inr here ↦ inr here.1
      ])
      (λ s reached. subst (λ z. Reached (own s) z s set) (sym same) reached.1) wrong h

  -- all sets of this size are told
  pub told_size : (size upto : ℕ) (faults : List SetFault) → 2 ^ length whole ≤ upto → Told size upto faults → Told (size + 1) 0 faults
  told_size size upto faults most h =
      faults_of_same whole sliced hyper (IsReached (length whole) size upto) (IsReached (length whole) (size + 1) 0) faults
      (λ s reached. (reached.0, smaller (own s) size s upto reached.1)) (λ s reached. (reached.0, no_smaller (own s) size s upto (let is = reached.0 in omega arith) reached.1)) h

  -- none is told at first
  pub told_none : Told 0 0 []
  told_none =
      record {
        each = λ place fault there. absurd (none-some fault there);
        all = λ set reached. absurd (nothing (own set) set reached.1);
        order = λ i j a b less there other. absurd (none-some a there);
      }

  -- this set fits, and all before it are told
  pub fewest_found : (size set : ℕ) (faults : List SetFault) → IsSet (length whole) set → size_of (length whole) set ≡ size → HaveTime (plans_of set whole sliced) hyper → Told size set faults
      → IsFewest whole sliced hyper set faults
  fewest_found size set faults is same time h =
      let told = faults_of_same whole sliced hyper (IsReached (length whole) size set) (IsBefore (length whole) set) faults
      (λ s reached. (reached.0, subst (λ z. Reached (own s) z s set) (sym same) reached.1)) (λ s before. (before.0, subst (λ z. Reached (own s) z s set) same before.1)) h in
      record { is = is; time = time; first = none_fits whole sliced hyper (IsBefore (length whole) set) faults told; told = told }

  -- all are told
  pub none_found : (size : ℕ) (faults : List SetFault) → length whole < size → Told size 0 faults → NoneFits whole sliced hyper faults
  none_found size faults past h =
      let told = faults_of_same whole sliced hyper (IsReached (length whole) size 0) (IsSet (length whole)) faults (λ s reached. reached.0)
      (λ s there. (there, inl (let most = size_most (length whole) s in omega arith))) h in
      record { none = none_fits whole sliced hyper (IsSet (length whole)) faults told; told = told }

  -- what asking a set of this size tells
  pub told_with : (size set : ℕ) (fits : Bool) (old new : List SetFault) → IsSet (length whole) set → size_of (length whole) set ≡ size → fits ≡ false → IsAsked whole sliced hyper set fits old new → Told size set old → Told size (set + 1) new
  told_with size set fits old new is same late asked h =
      let wrong : IsAsked whole sliced hyper set false old new = subst (λ b. IsAsked whole sliced hyper set b old new) late asked in
      subst (Told size (set + 1)) (sym wrong.2) (told_next size set old wrong.0 is same wrong.1 h)

  pub found_here : (size set : ℕ) (fits : Bool) (old new : List SetFault) → IsSet (length whole) set → size_of (length whole) set ≡ size → fits ≡ true → IsAsked whole sliced hyper set fits old new → Told size set old
      → IsFewest whole sliced hyper set new
  found_here size set fits old new is same fit asked h =
      let right : IsAsked whole sliced hyper set true old new = subst (λ b. IsAsked whole sliced hyper set b old new) fit asked in
      subst (IsFewest whole sliced hyper set) (sym right.1) (fewest_found size set old is same right.0 h)
