-- From one release to the next.
use Rattle.std.proofs.Common.{◌≡◌, ◌≢◌, ℕ, suc, ◌+◌, ◌*◌, ◌^◌, ◌<◌, ◌≤◌, min, All, List, length, get_or, set, take, sym, ap, ◌∙◌, subst, arith, Some, inl, inr, get_or-set_other, get_or-set_same, add-one}
use Rattle.std.specs.Prelude.{slice_get}
use Rattle.std.proofs.lemmas.Bool.{cases_lt, cases_eq}
use Rattle.std.proofs.lemmas.List.{take_all}
use Rattle.std.proofs.lemmas.List.Sums.{sum_by-take-le}
use Rattle.std.proofs.lemmas.Option.{slice_get_within, get_or_from_slice_get}
use Rattle.tcel_busy.specs.Releases.{AreNext, IsGap}
use Rattle.tcel_demand.specs.Sound.{IsSoundPlan}
use Rattle.tcel_demand.specs.Workload.{releases, asked}
use Rattle.tcel_demand.proofs.Fronts.{asked_next}
use Rattle.tcel_demand.proofs.Releases.{releases_reach, releases_least, releases_mono, released_before}
use Rattle.tcel_num.specs.Plan.{Plan}

pub each_sound : (plans : List Plan) (k : ℕ) (plan : Plan) → All IsSoundPlan plans → slice_get plans k ≡ Some plan → IsSoundPlan plan
each_sound plans k plan sound e = subst IsSoundPlan (get_or_from_slice_get plans k plan plan e) (sound k plan (slice_get_within plans k plan e))

-- a release at this time is one more
on_time : (period time : ℕ) → 0 < period → releases period time * period ≡ time → releases period (suc time) ≡ releases period time + 1
on_time period time some e =
    let more = released_before period (suc time) (releases period time) some (omega arith) in
    let most = releases_least period (suc time) (releases period time + 1) some (omega arith) in
    omega arith

-- before the next release there are no more
not_yet : (period time : ℕ) → 0 < period → releases period time * period ≢ time → releases period (suc time) ≡ releases period time
not_yet period time some apart =
    let reach = releases_reach period time some in
    let most = releases_least period (suc time) (releases period time) some (elim (cases_lt time (releases period time * period)) [ inl less ↦ less | inr past ↦ absurd (apart (omega arith)) ]) in
    let least = releases_mono period time (suc time) some (omega arith) in
    omega arith

-- the first tasks' releases at this time are passed, the others' are not
pub record IsPassing (plans : List Plan) (time many : ℕ) (next : List ℕ) (cycles until : ℕ) : Type 0 where
  pub passed : (k : ℕ) (plan : Plan) → k < many → slice_get plans k ≡ Some plan → (get_or next k 0 ≡ releases plan.period (suc time) * plan.period) × (until ≤ get_or next k 0)
  pub ahead : (k : ℕ) (plan : Plan) → many ≤ k → slice_get plans k ≡ Some plan → get_or next k 0 ≡ releases plan.period time * plan.period
  pub cycles_are : asked (take many plans) time + cycles ≡ asked (take many plans) (suc time)
  pub later : time < until

pub passing_none : (plans : List Plan) (time : ℕ) (next : List ℕ) (until : ℕ) → AreNext plans time next → time < until → IsPassing plans time 0 next 0 until
passing_none plans time next until h later = record { passed = λ k plan less e. absurd (omega arith); ahead = λ k plan most e. h k plan e; cycles_are = omega arith; later = later }

pub passing_all : (plans : List Plan) (time : ℕ) (next : List ℕ) (cycles until : ℕ) → until < 2 ^ 64 → IsPassing plans time (length plans) next cycles until → AreNext plans (suc time) next × IsGap plans time next (record { cycles = cycles; until = until })
passing_all plans time next cycles until fits h =
    let whole = take_all (length plans) plans (omega arith) in
    let before = ap (λ (ps : List Plan). asked ps time) whole in
    let after = ap (λ (ps : List Plan). asked ps (suc time)) whole in
    let sum = h.cycles_are in (
      λ k plan e. (h.passed k plan (slice_get_within plans k plan e) e).0,
      record {
        cycles = omega arith;
        later = h.later;
        fits = fits;
        until = λ k plan e. (h.passed k plan (slice_get_within plans k plan e) e).1;
      },
    )

module _ (plans : List Plan) (time many : ℕ) (next : List ℕ) (cycles until : ℕ) (plan : Plan) (e : slice_get plans many ≡ Some plan) (some : 0 < plan.period)
    (h : IsPassing plans time many next cycles until) where
  here : get_or next many 0 ≡ releases plan.period time * plan.period
  here = h.ahead many plan (omega arith) e

  same_plan : (other : Plan) → slice_get plans many ≡ Some other → plan ≡ other
  same_plan other there = cc

  pub cycles_fit : asked plans (suc time) ≤ 10 ^ 12 → get_or next many 0 ≡ time → cycles + plan.total ≤ 10 ^ 12
  cycles_fit fits at =
      let more = on_time plan.period time some (sym here ∙ at) in
      let own = ap (λ n. plan.total * n) more in
      omega (
        arith,
        h.cycles_are,
        asked_next plans many plan (suc time) e,
        asked_next plans many plan time e,
        sum_by-take-le (λ (p : Plan). p.total * releases p.period (suc time)) plans (suc many),
      )

  pub passing_release : many < length next → get_or next many 0 ≡ time →
      IsPassing plans time (many + 1) (set next many (get_or next many 0 + plan.period)) (cycles + plan.total) (min until (get_or (set next many (get_or next many 0 + plan.period)) many 0))
  passing_release within at =
      let more = on_time plan.period time some (sym here ∙ at) in
      let mine = get_or-set_same next many (get_or next many 0 + plan.period) 0 within in
      let there = here in
      let product = ap (λ n. n * plan.period) more in
      let own = ap (λ n. plan.total * n) more in
      let least : min until (get_or (set next many (get_or next many 0 + plan.period)) many 0) ≤ until = omega arith in
      let later = h.later in
      record {
        passed = λ k other less f. elim (cases_eq k many) [
          | inl same ↦
              let plan_same = same_plan other (subst (λ i. slice_get plans i ≡ Some other) same f) in
              subst (λ i. (get_or (set next many (get_or next many 0 + plan.period)) i 0 ≡ releases other.period (suc time) * other.period)
              × (min until (get_or (set next many (get_or next many 0 + plan.period)) many 0) ≤ get_or (set next many (get_or next many 0 + plan.period)) i 0)) (sym same)
              (subst (λ (p : Plan). get_or (set next many (get_or next many 0 + plan.period)) many 0 ≡ releases p.period (suc time) * p.period) plan_same (omega arith), omega arith)
          | inr apart ↦
              let left = get_or-set_other next many k (get_or next many 0 + plan.period) 0 apart in
              let old = h.passed k other (omega arith) f in
              let first = old.0 in
              let second = old.1 in
              (omega arith, omega arith)
        ];
        ahead = λ k other most f. rw (get_or-set_other next many k (get_or next many 0 + plan.period) 0 (omega arith)) (h.ahead k other (omega arith) f);
        cycles_are = rw add-one (omega (arith, h.cycles_are, asked_next plans many plan (suc time) e, asked_next plans many plan time e));
        later = omega arith;
      }

  pub passing_no_release : (get_or next many 0 ≡ time → ⊥) → IsPassing plans time (many + 1) next cycles (min until (get_or next many 0))
  passing_no_release other_time =
      let there = here in
      let none = not_yet plan.period time some (λ at. other_time (there ∙ at)) in
      let product = ap (λ n. n * plan.period) none in
      let own = ap (λ n. plan.total * n) none in
      let reach = releases_reach plan.period time some in
      let later = h.later in
      record {
        passed = λ k other less f. elim (cases_eq k many) [
          | inl same ↦
              let plan_same = same_plan other (subst (λ i. slice_get plans i ≡ Some other) same f) in
              subst (λ i. (get_or next i 0 ≡ releases other.period (suc time) * other.period) × (min until (get_or next many 0) ≤ get_or next i 0)) (sym same)
              (subst (λ (p : Plan). get_or next many 0 ≡ releases p.period (suc time) * p.period) plan_same (omega arith), omega arith)
          | inr apart ↦
              let old = h.passed k other (omega arith) f in
              let first = old.0 in
              let second = old.1 in
              (first, omega arith)
        ];
        ahead = λ k other most f. h.ahead k other (omega arith) f;
        cycles_are = rw add-one (omega (arith, h.cycles_are, asked_next plans many plan (suc time) e, asked_next plans many plan time e));
        later = elim (cases_lt time (get_or next many 0)) [ inl less ↦ omega arith | inr past ↦ absurd (other_time (omega arith)) ];
      }
