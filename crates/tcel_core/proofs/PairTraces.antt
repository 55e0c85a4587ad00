-- Traces of two tasks, of which the second waits.
use Rattle.std.proofs.Common.{◌≡◌, ℕ, zero, suc, ◌+◌, ◌*◌, ◌<◌, ◌≤◌, List, [], ◌∷◌, ◌++◌, length, refl, sym, ap, subst, ◌∙◌, zero-le, Option, Some, None, arith, lit<, lit≤}
use Rattle.std.specs.Prelude.{slice_get, IfSome, map}
use Rattle.std.specs.List.Sorted.{IsStrictlySortedBy}
use Rattle.std.specs.Ordering.{nat_cmp}
use Rattle.std.proofs.lemmas.List.Elements.{All-from_recursion}
use Rattle.std.proofs.lemmas.Map.Keys.{IsStrictlyIncreasing-from_sorted}
use Rattle.std.proofs.lemmas.Option.{none-some, same_Some}
use Rattle.tcel_num.specs.Entry.{Entry, What, first, end}
use Rattle.tcel_num.specs.Plan.{Plan}
use Rattle.tcel_num.specs.Schedule.{served}
use Rattle.tcel_core.specs.Examples.{MeetsBoth, both_plans, often, often_frame, often_front, shown_by, waiting, waiting_front}
use Rattle.tcel_core.specs.Meets.{Keeps, IsInTime, entries_of}
use Rattle.tcel_core.specs.Promises.{Behavior, Promise, behavior_of, frame_promises, promises}

abbrev often_behavior : Behavior
often_behavior = behavior_of often []

abbrev waiting_behavior : Behavior
waiting_behavior = behavior_of waiting []

abbrev whole : List Entry
whole = often_frame 0 2 3 4 ++ often_frame 1 10 11 12 ++ waiting_front 15 16 ++ often_frame 2 18 19 20 ++ shown_by 21 1 0 (end []) ∷ []

-- when an entry is to come at the latest
latest_of : Option Promise → Option ℕ
latest_of None = None
latest_of (Some p) = p.latest

-- each entry of a frame of the first task that is bound is to come by its deadline
often_bound : (f k : ℕ) (p : Promise) (latest : ℕ) → slice_get (frame_promises often_behavior f) k ≡ Some p → p.latest ≡ Some latest → (latest ≡ f * 8 + 8) × (k < 3)
unfolding latest_of
often_bound f zero p latest is closes =
    let e : Some (f * 8 + 8) ≡ p.latest = ap latest_of is in (same_Some latest (f * 8 + 8) (sym closes ∙ sym e), lit< tt)
often_bound f (suc zero) p latest is closes =
    let e : Some (f * 8 + 8) ≡ p.latest = ap latest_of is in (same_Some latest (f * 8 + 8) (sym closes ∙ sym e), lit< tt)
often_bound f (suc (suc zero)) p latest is closes =
    let e : None ≡ p.latest = ap latest_of is in absurd (none-some latest (e ∙ closes))
often_bound f (suc (suc (suc k))) p latest is closes = absurd (none-some p is)

-- those of the second by 30 at the earliest
waiting_bound : (f k : ℕ) (p : Promise) (latest : ℕ) → slice_get (frame_promises waiting_behavior f) k ≡ Some p → p.latest ≡ Some latest → 30 ≤ latest
unfolding latest_of
waiting_bound f zero p latest is closes =
    let e : Some (f * 40 + 30) ≡ p.latest = ap latest_of is in omega (arith, same_Some latest (f * 40 + 30) (sym closes ∙ sym e))
waiting_bound f (suc zero) p latest is closes =
    let e : Some (f * 40 + 40) ≡ p.latest = ap latest_of is in omega (arith, same_Some latest (f * 40 + 40) (sym closes ∙ sym e))
waiting_bound f (suc (suc zero)) p latest is closes =
    let e : None ≡ p.latest = ap latest_of is in absurd (none-some latest (e ∙ closes))
waiting_bound f (suc (suc (suc k))) p latest is closes = absurd (none-some p is)

often_complete : (f k : ℕ) (p : Promise) (latest : ℕ) → slice_get (frame_promises often_behavior f) k ≡ Some p → p.latest ≡ Some latest → latest ≤ 24 →
    length (promises often_behavior f) + k < 9
often_complete zero k p latest is closes within = let h = (often_bound 0 k p latest is closes).1 in omega arith
often_complete (suc zero) k p latest is closes within = let h = (often_bound 1 k p latest is closes).1 in omega arith
often_complete (suc (suc zero)) k p latest is closes within = let h = (often_bound 2 k p latest is closes).1 in omega arith
often_complete (suc (suc (suc f))) k p latest is closes within = let h = (often_bound (suc (suc (suc f))) k p latest is closes).0 in absurd (omega arith)

waiting_complete : (f k : ℕ) (p : Promise) (latest : ℕ) → slice_get (frame_promises waiting_behavior f) k ≡ Some p → p.latest ≡ Some latest → latest ≤ 24 →
    length (promises waiting_behavior f) + k < 3
waiting_complete f k p latest is closes within = let h = waiting_bound f k p latest is closes in absurd (omega arith)

-- an entry with these bounds
bounded : (e : Entry) (p : Promise) (latest : ℕ) → p.earliest ≤ e.time → p.latest ≡ Some latest → e.time ≤ latest → IsInTime e p
bounded e p latest early is late = record { not_early = early; not_late = subst (λ l. IfSome l (λ n. e.time ≤ n)) (sym is) late }

free : (e : Entry) (p : Promise) → p.earliest ≤ e.time → p.latest ≡ None → IsInTime e p
free e p early is = record { not_early = early; not_late = subst (λ l. IfSome l (λ n. e.time ≤ n)) (sym is) tt }

often_keeps : Keeps often_behavior 24 (entries_of 0 whole)
often_keeps = record {
  follows = refl;
  in_time = (bounded _ _ 8 (lit≤ tt) refl (lit≤ tt), (bounded _ _ 8 zero-le refl (lit≤ tt), (free _ _ zero-le refl, (bounded _ _ 16 (lit≤ tt) refl (lit≤ tt), (bounded _ _ 16 zero-le refl (lit≤ tt), (free _ _ zero-le refl, (bounded _ _ 24 (lit≤ tt) refl (lit≤ tt), (bounded _ _ 24 zero-le refl (lit≤ tt), (free _ _ zero-le refl, tt)))))))));
  complete = often_complete;
}

waiting_keeps : Keeps waiting_behavior 24 (entries_of 1 whole)
waiting_keeps = record {
  follows = refl;
  in_time = (bounded _ _ 30 (lit≤ tt) refl (lit≤ tt), (bounded _ _ 40 zero-le refl (lit≤ tt), (free _ _ zero-le refl, tt)));
  complete = waiting_complete;
}

both_keep : (i : ℕ) (b : Behavior) → slice_get (often_behavior ∷ waiting_behavior ∷ []) i ≡ Some b → Keeps b 24 (entries_of i whole)
both_keep zero b is = subst (λ b. Keeps b 24 (entries_of 0 whole)) (same_Some often_behavior b is) often_keeps
both_keep (suc zero) b is = subst (λ b. Keeps b 24 (entries_of 1 whole)) (same_Some waiting_behavior b is) waiting_keeps
both_keep (suc (suc i)) b is = absurd (none-some b is)

often_served : (f : ℕ) → (f + 1) * 4 ≤ served both_plans 24 0 → length (promises often_behavior (f + 1)) ≤ 9
often_served zero due = lit≤ tt
often_served (suc zero) due = lit≤ tt
often_served (suc (suc zero)) due = lit≤ tt
often_served (suc (suc (suc f))) due = absurd (omega arith)

waiting_served : (f : ℕ) → (f + 1) * 14 ≤ served both_plans 24 1 → length (promises waiting_behavior (f + 1)) ≤ 3
waiting_served f due = absurd (omega arith)

ended : (i f : ℕ) (b : Behavior) (plan : Plan) → slice_get (often_behavior ∷ waiting_behavior ∷ []) i ≡ Some b → slice_get both_plans i ≡ Some plan →
    (f + 1) * plan.total ≤ served both_plans 24 i → length (promises b (f + 1)) ≤ length (entries_of i whole)
ended zero f b plan is_b is_plan due =
    subst (λ (b : Behavior). length (promises b (f + 1)) ≤ 9) (same_Some often_behavior b is_b)
    (often_served f (subst (λ (p : Plan). (f + 1) * p.total ≤ served both_plans 24 0) (sym (same_Some _ plan is_plan)) due))
ended (suc zero) f b plan is_b is_plan due =
    subst (λ (b : Behavior). length (promises b (f + 1)) ≤ 3) (same_Some waiting_behavior b is_b)
    (waiting_served f (subst (λ (p : Plan). (f + 1) * p.total ≤ served both_plans 24 1) (sym (same_Some _ plan is_plan)) due))
ended (suc (suc i)) f b plan is_b is_plan due = absurd (none-some b is_b)

sorted : IsStrictlySortedBy nat_cmp (map (λ (e : Entry). e.time) whole)
unfolding IsStrictlySortedBy
sorted = ((refl, (refl, (refl, (refl, (refl, (refl, (refl, (refl, (refl, (refl, (refl, tt))))))))))), ((refl, (refl, (refl, (refl, (refl, (refl, (refl, (refl, (refl, (refl, tt)))))))))), ((refl, (refl, (refl, (refl, (refl, (refl, (refl, (refl, (refl, tt))))))))), ((refl, (refl, (refl, (refl, (refl, (refl, (refl, (refl, tt)))))))), ((refl, (refl, (refl, (refl, (refl, (refl, (refl, tt))))))), ((refl, (refl, (refl, (refl, (refl, (refl, tt)))))), ((refl, (refl, (refl, (refl, (refl, tt))))), ((refl, (refl, (refl, (refl, tt)))), ((refl, (refl, (refl, tt))), ((refl, (refl, tt)), ((refl, tt), (tt, tt))))))))))))

pub both : MeetsBoth whole
both = record {
  rises = IsStrictlyIncreasing-from_sorted (map (λ (e : Entry). e.time) whole) sorted;
  known = All-from_recursion (λ (e : Entry). e.task < 2) whole (lit< tt, (lit< tt, (lit< tt, (lit< tt, (lit< tt, (lit< tt, (lit< tt, (lit< tt, (lit< tt, (lit< tt, (lit< tt, (lit< tt, tt))))))))))));
  keeps = both_keep;
  ended = ended;
}

-- ---- traces that don't meet it

pub of_no_task : MeetsBoth (shown_by 1 2 0 first ∷ often_frame 0 2 3 4 ++ often_frame 1 10 11 12 ++ waiting_front 15 16 ++ often_frame 2 18 19 20) → ⊥
of_no_task m = let h = m.known 0 (shown_by 1 2 0 first) (lit< tt) in omega (arith, h)

pub early_event : MeetsBoth (often_frame 0 2 3 4 ++ waiting_front 9 16 ++ often_frame 2 18 19 20) → ⊥
early_event m = let h = (m.keeps 1 waiting_behavior refl).in_time.0.not_early in omega (arith, h)

pub late_first : MeetsBoth (often_frame 0 2 9 10) → ⊥
late_first m = let h = (m.keeps 0 often_behavior refl).in_time.1.0.not_late in omega (arith, h)

pub no_first : MeetsBoth (often_frame 0 2 3 4 ++ often_frame 1 10 11 12 ++ often_front 2 18) → ⊥
no_first m = let h = (m.keeps 0 often_behavior refl).complete 2 1 _ 24 refl refl (lit≤ tt) in omega (arith, h)

-- the frame that an entry tells, if it is there
frame_told : Option (ℕ × What) → ℕ
frame_told None = 0
frame_told (Some shown) = shown.0

pub other_frame : MeetsBoth (often_frame 1 2 3 4) → ⊥
unfolding frame_told
other_frame m =
    let e : 1 ≡ 0 = ap (λ all. frame_told (slice_get all 0)) (m.keeps 0 often_behavior refl).follows in
    omega (arith, e)
