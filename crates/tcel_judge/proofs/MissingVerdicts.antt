-- Where nothing is wrong with a line, what is missing is what the judge says.
use Rattle.std.proofs.Common.{◌≡◌, ℕ, ◌<◌, List, [], ◌∷◌, All, length, map, refl, sym, ap, ◌∙◌, subst, Some}
use Rattle.std.specs.Prelude.{slice_get}
use Rattle.std.specs.Option.{option_map}
use Rattle.std.proofs.lemmas.List.Elements.{All-get_or, All-weaker}
use Rattle.std.proofs.lemmas.Option.{get_or_from_slice_get, slice_get-map, slice_get_within}
use Rattle.tcel_num.specs.Hyperperiod.{periods_of}
use Rattle.tcel_num.specs.Plan.{Plan}
use Rattle.tcel_num.specs.Schedule.{served}
use Rattle.tcel_code.proofs.TaskMeets.{map_got}
use Rattle.tcel_trace.specs.declared.trace_line.TraceLine.{TraceLine}
use Rattle.tcel_judge.specs.declared.course.Course.{Course}
use Rattle.tcel_judge.specs.declared.verdict.Verdict.TheVariants as verdicts
use Rattle.tcel_judge.specs.declared.verdict.Breach.{Breach}
use Rattle.tcel_judge.specs.declared.verdict.Breach.TheVariants as breaches
use Rattle.tcel_judge.specs.Courses.{HasTaken, HaveTaken, Stands, judged, place}
use Rattle.tcel_judge.specs.FirstBreach.{Judged, AreRight, IsWhole, Says, accepted, missed, own_lines, total_at, Misses, MissesNone}
use Rattle.tcel_judge.specs.Gaps.{period_of, LacksNone, NoneLacks, IsFirstMissing}

-- the period of a task
abbrev pub judged_period : Judged → ℕ
judged_period j = j.does.period

-- there is a plan for each with its period
pub periods_alike : (courses : List Course) (set : List Judged) (plans : List Plan) → map judged courses ≡ set → map judged_period set ≡ periods_of plans →
    map period_of courses ≡ periods_of plans
periods_alike courses set plans same periods = both courses ∙ ap (map judged_period) same ∙ periods
  where
    both : (cs : List Course) → map period_of cs ≡ map judged_period (map judged cs)
    both [] = refl
    both (c ∷ cs) = ap (λ (ns : List ℕ). period_of c ∷ ns) (both cs)

module _ (set : List Judged) (plans : List Plan) (ticks : ℕ) (lines : List TraceLine) (courses : List Course) (taken : HaveTaken set lines courses) where
  pub all_stand : All Stands courses
  all_stand = All-weaker (HasTaken lines) Stands (λ c h. h.stands) courses taken.each

  far : (i : ℕ) (c : Course) → slice_get courses i ≡ Some c → place c ≡ own_lines (judged c).task.name lines
  far i c e =
      (subst (HasTaken lines) (get_or_from_slice_get courses i c c e) (All-get_or (HasTaken lines) courses i c (slice_get_within courses i c e) taken.each)).taken

  abbrev same : map judged courses ≡ set
  same = taken.judged

  module _ (right : AreRight set plans ticks lines) where
    -- one that lacks none is whole
    whole_of : (i : ℕ) (c : Course) (j : Judged) → slice_get courses i ≡ Some c → judged c ≡ j → LacksNone ticks (total_at plans i) (served plans ticks i) c →
        IsWhole set plans ticks lines i j
    whole_of i c j at is none =
        let here : IsWhole set plans ticks lines i (judged c) =
        subst (MissesNone ticks (total_at plans i) (served plans ticks i) (judged c).does) (far i c at) none in
        subst (IsWhole set plans ticks lines i) is here

    all_whole : (many : ℕ) → NoneLacks plans ticks courses many → (i : ℕ) (j : Judged) → i < many → slice_get set i ≡ Some j → IsWhole set plans ticks lines i j
    all_whole many none i j less e =
        let got = map_got judged courses i j (ap (λ (js : List Judged). slice_get js i) same ∙ e) in
        whole_of i got.0 j got.1 got.2 (none i got.0 less got.1)

    pub says_yes : NoneLacks plans ticks courses (length courses) → Says set plans ticks lines verdicts.Yes
    says_yes none =
        accepted right
        (λ i j e.
        let got = map_got judged courses i j (ap (λ (js : List Judged). slice_get js i) same ∙ e) in
        all_whole (length courses) none i j (slice_get_within courses i got.0 got.1) e)

    pub says_missing : (breach : Breach) → IsFirstMissing plans ticks courses breach → Says set plans ticks lines (verdicts.No breach)
    says_missing breach m =
        let c = m.course in
        let l = m.lacks in
        let there = ap (λ (js : List Judged). slice_get js m.task) (sym same) ∙ slice_get-map judged courses m.task ∙ ap (option_map judged) m.there in
        let misses = subst (λ n. Misses ticks (total_at plans m.task) (served plans ticks m.task) (judged c).does n l.at l.entry) (far m.task c m.there) l.misses in
        let named = m.named ∙ ap (λ f. breaches.Missing m.task f m.gap.what) l.frame ∙ ap (breaches.Missing m.task l.entry.frame) l.what in
        subst (λ b. Says set plans ticks lines (verdicts.No b)) (sym named)
        (missed m.task l.at (judged c) l.entry right there (λ k g less e. all_whole m.task m.before k g less e) misses)
