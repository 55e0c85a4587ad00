-- A walk through a busy period, from one release of a higher task to the next. In plain functions of the time.
use Rattle.std.proofs.Common.{◌≡◌, ℕ, suc, ◌+◌, ◌*◌, ◌<◌, ◌≤◌, arith, inl, inr}
use Rattle.std.proofs.Math.Nat.{mul-le-mul_left}
use Rattle.std.proofs.lemmas.Bool.{cases_lt}
use Rattle.tcel_busy.proofs.BusyPeriod.{IsTask, IsEnd, IsLeastTime, IsFirst, reached}
use Rattle.tcel_demand.specs.Workload.{releases}
use Rattle.tcel_demand.proofs.Releases.{releases_least, released_before}

-- in a frame of the busy period, with so many cycles passed: what the higher tasks ask for stays up to a time
pub record IsGapAt (higher : ℕ → ℕ) (period total end frame from since until : ℕ) : Type 0 where
  pub inside : frame * period < end
  pub part : from < total
  pub before : since < until
  pub steady : (t : ℕ) → since < t → t ≤ until → higher t ≡ higher (suc since)
  pub low : (t : ℕ) → t ≤ since → t < frame * total + from + 1 + higher t

module _ (higher higher_done all all_done served : ℕ → ℕ) (period total : ℕ) (task : IsTask higher higher_done all all_done served period total) (end : ℕ) (ends : IsEnd all end)
    (frame from since until : ℕ) (h : IsGapAt higher period total end frame from since until) where
  -- all cycles up to this frame's end, beside what the higher tasks ask for, fit the busy period
  at_end : frame * total + total + higher end ≤ end
  at_end =
      let own : total * suc frame ≤ total * releases period end = mul-le-mul_left total (released_before period end frame task.period_some h.inside) in
      let asks = task.asks end in
      let enough = ends.enough in
      omega arith

  since_soon : since < end
  since_soon =
      elim (cases_lt since end) [
        | inl soon ↦ soon
        | inr past ↦ let low = h.low end past in let part = h.part in let fits = at_end in absurd (omega arith)
      ]

  pub start_soon : frame * total + higher (suc since) + total ≤ end
  start_soon = let soon = since_soon in let rise = task.above.rising (suc since) end soon in let fits = at_end in omega arith

  module _ (cycle : ℕ) (more : from < cycle) (most : cycle ≤ total) (within : frame * total + higher (suc since) + cycle ≤ until) where
    in_gap : since < frame * total + higher (suc since) + cycle
    in_gap = let low = h.low since (omega arith) in let rise = task.above.rising since (suc since) (omega arith) in omega arith

    cycle_time : IsLeastTime higher (frame * total + cycle) (frame * total + higher (suc since) + cycle)
    cycle_time =
        let here = h.steady (frame * total + higher (suc since) + cycle) in_gap within in
        record {
          room = omega arith;
          least = λ t less. elim (cases_lt since t) [
            | inr early ↦ let low = h.low t early in omega arith
            | inl inside ↦ let same = h.steady t inside (omega arith) in omega arith
          ];
        }

    pub cycle_first : IsFirst served (frame * total + cycle) (frame * total + higher (suc since) + cycle)
    cycle_first =
        let own : total * suc frame ≤ total * releases period end = mul-le-mul_left total (released_before period end frame task.period_some h.inside) in
        (reached higher higher_done all all_done served period total task end ends (frame * total + cycle) (frame * total + higher (suc since) + cycle) (omega arith) cycle_time).0

  -- the frame ends in this gap, behind the next release of its task
  pub next_frame : suc frame * period < frame * total + higher (suc since) + total → IsGapAt higher period total end (frame + 1) 0 since until
  next_frame later =
      let soon = start_soon in
      let part = h.part in
      record {
        inside = omega arith;
        part = omega arith;
        before = h.before;
        steady = h.steady;
        low = λ t early. let low = h.low t early in omega arith;
      }

  -- or before it, and then so does the busy period
  pub left_behind : frame * total + higher (suc since) + total ≤ until → frame * total + higher (suc since) + total ≤ suc frame * period → end ≤ suc frame * period
  left_behind within early =
      let part = h.part in
      let done : ℕ = frame * total + higher (suc since) + total in
      let here = h.steady done (in_gap total part (omega arith) within) within in
      let few : total * releases period done ≤ total * suc frame = mul-le-mul_left total (releases_least period done (suc frame) task.period_some early) in
      let asks = task.asks done in
      elim (cases_lt done end) [
        | inr past ↦ omega arith
        | inl inside ↦ let left = ends.least done (omega arith) inside in absurd (omega arith)
      ]

  module _ (to : ℕ) (order : from ≤ to) (part : to < total) (reach : until ≤ frame * total + higher (suc since) + to) where
    pub until_soon : until < end
    until_soon =
        let rise = task.above.rising (suc since) end since_soon in
        let fits = at_end in
        omega arith

    -- the frame goes on behind this gap
    pub goes_on : (next : ℕ) → until < next → ((t : ℕ) → until < t → t ≤ next → higher t ≡ higher (suc until)) → IsGapAt higher period total end frame to until next
    goes_on next later steady = record {
      inside = h.inside;
      part = part;
      before = later;
      steady = steady;
      low = λ t early. elim (cases_lt since t) [
        | inr old ↦ let low = h.low t old in omega arith
        | inl inside ↦ let same = h.steady t inside early in omega arith
      ];
    }

-- ---- the same as one record

pub record GapFacts (higher served : ℕ → ℕ) (period total end frame from since until : ℕ) : Type 0 where
  pub start_within : frame * total + higher (suc since) + total ≤ end
  pub first : (cycle : ℕ) → from < cycle → cycle ≤ total → frame * total + higher (suc since) + cycle ≤ until → IsFirst served (frame * total + cycle) (frame * total + higher (suc since) + cycle)
  pub next : suc frame * period < frame * total + higher (suc since) + total → IsGapAt higher period total end (frame + 1) 0 since until
  pub behind : frame * total + higher (suc since) + total ≤ until → frame * total + higher (suc since) + total ≤ suc frame * period → end ≤ suc frame * period
  pub until_within : (to : ℕ) → from ≤ to → to < total → until ≤ frame * total + higher (suc since) + to → until < end
  pub asked_within : (to : ℕ) → from ≤ to → to < total → until ≤ frame * total + higher (suc since) + to → higher (suc until) ≤ end
  pub on : (to : ℕ) → from ≤ to → to < total → until ≤ frame * total + higher (suc since) + to → (next : ℕ) → until < next → ((t : ℕ) → until < t → t ≤ next → higher t ≡ higher (suc until)) →
      IsGapAt higher period total end frame to until next

pub gap_facts : (higher higher_done all all_done served : ℕ → ℕ) (period total : ℕ) (task : IsTask higher higher_done all all_done served period total) (end : ℕ) → IsEnd all end → (frame from since until : ℕ) →
    IsGapAt higher period total end frame from since until → GapFacts higher served period total end frame from since until
gap_facts higher higher_done all all_done served period total task end ends frame from since until h = record {
  start_within = start_soon higher higher_done all all_done served period total task end ends frame from since until h;
  first = cycle_first higher higher_done all all_done served period total task end ends frame from since until h;
  next = next_frame higher higher_done all all_done served period total task end ends frame from since until h;
  behind = left_behind higher higher_done all all_done served period total task end ends frame from since until h;
  until_within = until_soon higher higher_done all all_done served period total task end ends frame from since until h;
  asked_within = λ to order part reach.
      let soon = until_soon higher higher_done all all_done served period total task end ends frame from since until h to order part reach in
      let rise = task.above.rising (suc until) end soon in
      let fits = at_end higher higher_done all all_done served period total task end ends frame from since until h in
      omega arith;
  on = goes_on higher higher_done all all_done served period total task end ends frame from since until h;
}
