-- The loop that slices the lowest whole task until the plans have time.
use Rattle.std.proofs.Common.{◌≡◌, ℕ, ◌+◌, ◌-◌, ◌<◌, ◌≤◌, List, [], ◌∷◌, ◌++◌, length, sym, ap, ◌∙◌, subst, arith, inl, inr}
use Rattle.std.proofs.lemmas.Bool.{cases_lt}
use Rattle.std.proofs.lemmas.List.{length_push}
use Rattle.tcel_num.specs.Lateness.{place_of}
use Rattle.tcel_num.specs.Plan.{Plan}
use Rattle.tcel_driver.specs.Steps.{HaveFault, HaveTime, IsFault, IsLeast, joint}
use Rattle.tcel_driver.specs.declared.refused.Refused.{Refused}
use Rattle.tcel_driver.specs.declared.refused.Refused.TheVariants as refused
use Rattle.tcel_driver.proofs.FirstLates.{is_late}
use Rattle.tcel_driver.proofs.Joint.{Stands, left_few, stands_joint}

fault_or_time : (plans : List Plan) (hyper : ℕ) (fault : Refused) → IsFault plans hyper fault → HaveTime plans hyper → ⊥
fault_or_time plans hyper (refused.Overload cycles ticks) h time = let room = time.room in let above = h.2 in let counted = h.0 in omega arith
fault_or_time plans hyper (refused.Late late) h time = time.never (place_of late) (is_late plans late h.1)
fault_or_time plans hyper fault h time = absurd h

-- no smaller number of sliced tasks has time
abbrev pub NoneBefore : List Plan → List Plan → ℕ → ℕ → Type 0
NoneBefore whole sliced hyper upto = (number : ℕ) → number < upto → HaveTime (joint (length whole - number) whole sliced) hyper → ⊥

module _ (whole sliced left plans : List Plan) (hyper : ℕ) (long : length sliced ≡ length whole) (stands : Stands whole sliced left plans) (none : NoneBefore whole sliced hyper (length whole - length left)) where
  -- nor has this one
  none_yet : (fault : Refused) → IsFault plans hyper fault → (number : ℕ) → number ≤ length whole - length left → HaveTime (joint (length whole - number) whole sliced) hyper → ⊥
  none_yet fault h number most time =
      elim (cases_lt number (length whole - length left)) [
        | inl less ↦ none number less time
        | inr more ↦
            let few = left_few whole sliced left plans long stands in
            let at : length whole - number ≡ length left = omega arith in
            let here : HaveTime (joint (length left) whole sliced) hyper = subst (λ n. HaveTime (joint n whole sliced) hyper) at time in
            fault_or_time plans hyper fault h (subst (λ l. HaveTime l hyper) (sym (stands_joint whole sliced left plans stands)) here)
      ]

  pub none_next : (fault : Refused) (rest : List Plan) (plan : Plan) → IsFault plans hyper fault → left ≡ rest ++ plan ∷ [] → NoneBefore whole sliced hyper (length whole - length rest)
  none_next fault rest plan h popped number less time =
      let longer : length left ≡ length rest + 1 = ap (λ (l : List Plan). length l) popped ∙ length_push rest plan in
      none_yet fault h number (omega arith) time

  pub none_left : (fault : Refused) → IsFault plans hyper fault → left ≡ [] → HaveFault whole sliced hyper fault
  none_left fault h empty =
      let nothing : length left ≡ 0 = ap (λ (l : List Plan). length l) empty in
      let all : plans ≡ sliced = stands_joint whole sliced left plans stands ∙ ap (λ n. joint n whole sliced) nothing in
      record { none = λ number most time. none_yet fault h number (omega arith) time; is = subst (λ l. IsFault l hyper fault) all h }

  pub least_found : (number : ℕ) → number + length left ≡ length whole → HaveTime plans hyper → IsLeast whole sliced hyper number plans
  least_found number e time =
      let at : length left ≡ length whole - number = omega arith in
      let same : length whole - length left ≡ number = omega arith in
      record {
        most = omega arith;
        are = stands_joint whole sliced left plans stands ∙ ap (λ n. joint n whole sliced) at;
        time = time;
        least = subst (NoneBefore whole sliced hyper) same none;
      }
