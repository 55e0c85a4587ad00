-- Traces of the counter.
use Rattle.std.proofs.Common.{◌≡◌, ℕ, zero, suc, ◌+◌, ◌*◌, ◌<◌, ◌≤◌, pos, List, [], ◌∷◌, ◌++◌, length, get_or, refl, sym, ap, subst, ◌∙◌, zero-le, Option, Some, None, arith, lit<, lit≤}
use Rattle.std.specs.Prelude.{slice_get}
use Rattle.std.specs.Int.{int_wrap}
use Rattle.std.specs.List.Sorted.{IsStrictlyIncreasing}
use Rattle.std.proofs.lemmas.Option.{slice_get_within, none-some, same_Some}
use Rattle.tcel_num.specs.Entry.{Entry, What, send, first, end}
use Rattle.tcel_num.specs.Plan.{Plan, frame}
use Rattle.tcel_num.specs.Schedule.{served}
use Rattle.tcel_core.specs.Examples.{MeetsCounter, counter, counter_streams, counter_plans, entry, passed_on, counted}
use Rattle.tcel_core.specs.Meets.{Keeps, IsInTime, entries_of}
use Rattle.tcel_core.specs.Promises.{Behavior, Promise, behavior_of, first_promise, end_promise, frame_promises, promises}

-- what the counter is to do
abbrev pub behavior : Behavior
behavior = behavior_of counter counter_streams

-- a list of one has no other
only : {A : Type 0} (P : ℕ → A → Type 0) (x : A) → P 0 x → (i : ℕ) (y : A) → slice_get (x ∷ []) i ≡ Some y → P i y
only P x here zero y e = subst (P 0) (same_Some x y e) here
only P x here (suc i) y e = absurd (none-some y e)

-- when an entry is to come at the latest
latest_of : Option Promise → Option ℕ
latest_of None = None
latest_of (Some p) = p.latest

-- each entry of frame f that is bound is to come by its deadline
bound : (f k : ℕ) (p : Promise) (latest : ℕ) → slice_get (frame_promises behavior f) k ≡ Some p → p.latest ≡ Some latest → latest ≡ f * 10 + 10
unfolding latest_of
bound f zero p latest is closes =
    let e : Some (f * 10 + 10) ≡ p.latest = ap latest_of is in same_Some latest (f * 10 + 10) (sym closes ∙ sym e)
bound f (suc zero) p latest is closes =
    let e : Some (f * 10 + 10) ≡ p.latest = ap latest_of is in same_Some latest (f * 10 + 10) (sym closes ∙ sym e)
bound f (suc (suc zero)) p latest is closes =
    let e : Some (f * 10 + 10) ≡ p.latest = ap latest_of is in same_Some latest (f * 10 + 10) (sym closes ∙ sym e)
bound f (suc (suc (suc zero))) p latest is closes =
    let e : None ≡ p.latest = ap latest_of is in absurd (none-some latest (e ∙ closes))
bound f (suc (suc (suc (suc k)))) p latest is closes = absurd (none-some p is)

rises : (a b c d : ℕ) → a < b → b < c → c < d → IsStrictlyIncreasing (a ∷ b ∷ c ∷ d ∷ [])
rises a b c d h i j zero below = h
rises a b c d h i j (suc zero) below = i
rises a b c d h i j (suc (suc zero)) below = j
rises a b c d h i j (suc (suc (suc k))) below = absurd (omega arith)

abbrev pub counter_trace : List Entry
counter_trace = passed_on 3 (pos 5) ++ counted 8 9

abbrev counter_plan : Plan
counter_plan = record { period = 10; total = 9; points = record { prefix = 8; bound = 10; name = frame } ∷ [] }

complete : (f k : ℕ) (p : Promise) (latest : ℕ) → slice_get (frame_promises behavior f) k ≡ Some p → p.latest ≡ Some latest →
    latest ≤ 10 → length (promises behavior f) + k < 4
complete zero k p latest is closes within =
    let short : k < 4 = slice_get_within (frame_promises behavior 0) k p is in omega arith
complete (suc f) k p latest is closes within =
    let late : latest ≡ suc f * 10 + 10 = bound (suc f) k p latest is closes in absurd (omega arith)

keeps : Keeps behavior 10 counter_trace
unfolding int_wrap
keeps = record {
  follows = refl;
  in_time =
      let soon : IsInTime (entry 8 first) (first_promise 0 0 10) = record { not_early = zero-le; not_late = lit≤ tt } in
      let free : IsInTime (entry 9 (end (pos 1 ∷ []))) (end_promise 0 (pos 1 ∷ [])) = record { not_early = zero-le; not_late = tt } in
      (record { not_early = zero-le; not_late = lit≤ tt }, (record { not_early = zero-le; not_late = lit≤ tt }, (soon, (free, tt))));
  complete = complete;
}

served_whole : (f : ℕ) → (f + 1) * 9 ≤ served counter_plans 10 0 → length (promises behavior (f + 1)) ≤ 4
served_whole zero due = lit≤ tt
served_whole (suc f) due = absurd (omega arith)

ended : (i f : ℕ) (b : Behavior) (plan : Plan) → slice_get (behavior ∷ []) i ≡ Some b → slice_get counter_plans i ≡ Some plan →
    (f + 1) * plan.total ≤ served counter_plans 10 i → length (promises b (f + 1)) ≤ length (entries_of i counter_trace)
ended zero f b plan is_b is_plan due =
    let P : Behavior → Type 0 = λ b. length (promises b (f + 1)) ≤ 4 in
    let Q : Plan → Type 0 = λ plan. (f + 1) * plan.total ≤ served counter_plans 10 0 in
    subst P (same_Some behavior b is_b) (served_whole f (subst Q (sym (same_Some counter_plan plan is_plan)) due))
ended (suc i) f b plan is_b is_plan due = absurd (none-some b is_b)

known : (k : ℕ) (d : Entry) → k < 4 → (get_or counter_trace k d).task < 1
known zero d h = lit< tt
known (suc zero) d h = lit< tt
known (suc (suc zero)) d h = lit< tt
known (suc (suc (suc zero))) d h = lit< tt
known (suc (suc (suc (suc k)))) d h = absurd (omega arith)

pub meets : MeetsCounter counter_trace
meets = record {
  rises = rises 1 3 8 9 (lit< tt) (lit< tt) (lit< tt);
  known = known;
  keeps = only (λ i b. Keeps b 10 (entries_of i counter_trace)) behavior keeps;
  ended = ended;
}

-- what the entry shows, if it is there
what_of_told : Option (ℕ × What) → What
what_of_told None = first
what_of_told (Some shown) = shown.1

pub other_value : MeetsCounter (passed_on 3 (pos 6) ++ counted 8 9) → ⊥
unfolding what_of_told
other_value m =
    let e : send 0 (pos 6) ≡ send 0 (pos 5) = ap (λ all. what_of_told (slice_get all 1)) (m.keeps 0 behavior refl).follows in
    cc

pub other_state : MeetsCounter (passed_on 3 (pos 5) ++ entry 8 first ∷ entry 9 (end (pos 2 ∷ [])) ∷ []) → ⊥
unfolding what_of_told int_wrap
other_state m =
    let e : end (pos 2 ∷ []) ≡ end (pos 1 ∷ []) = ap (λ all. what_of_told (slice_get all 3)) (m.keeps 0 behavior refl).follows in
    cc

pub late_event : MeetsCounter (passed_on 11 (pos 5) ++ counted 12 13) → ⊥
late_event m = let h = (m.keeps 0 behavior refl).in_time.1.0.not_late in omega (arith, h)

pub no_event : MeetsCounter [] → ⊥
no_event m = let h = (m.keeps 0 behavior refl).complete 0 0 _ 10 refl refl (lit≤ tt) in omega (arith, h)

pub no_end : MeetsCounter (passed_on 3 (pos 5) ++ entry 8 first ∷ []) → ⊥
no_end m = let h = m.ended 0 0 behavior _ refl refl (lit≤ tt) in omega (arith, h)

pub same_time : MeetsCounter (passed_on 3 (pos 5) ++ counted 3 9) → ⊥
same_time m = let h = m.rises 1 (lit< tt) in omega (arith, h)
