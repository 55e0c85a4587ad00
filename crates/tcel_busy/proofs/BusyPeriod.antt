-- The busy period from time 0 of one level of priority, and why it shows every response. In plain functions of the time.
use Rattle.std.proofs.Common.{◌≡◌, ℕ, zero, suc, ◌+◌, ◌-◌, ◌*◌, ◌<◌, ◌≤◌, arith, sym, ap, subst, inl, inr}
use Rattle.std.specs.Prelude.{◌⊎◌}
use Rattle.std.proofs.Math.Nat.{mul-le-mul_left}
use Rattle.std.proofs.lemmas.Bool.{cases_lt, cases_eq}
use Rattle.tcel_demand.proofs.Levels.{IsLevel, step, at_most, busy, last_done, since}
use Rattle.tcel_demand.specs.Workload.{releases}
use Rattle.tcel_demand.proofs.Releases.{releases_reach, releases_least, released_before}

-- a task below higher ones: what they have asked and done, and what is asked and done with the task's own frames
pub record IsTask (higher higher_done all all_done served : ℕ → ℕ) (period total : ℕ) : Type 0 where
  pub above : IsLevel higher higher_done
  pub level : IsLevel all all_done
  pub asks : (t : ℕ) → all t ≡ higher t + total * releases period t
  pub shares : (t : ℕ) → all_done t ≡ higher_done t + served t
  pub steps : (t : ℕ) → served t ≤ served (suc t)
  pub window : (start long : ℕ) → higher (start + long) ≤ higher start + higher long
  pub period_some : 0 < period
  pub total_some : 0 < total

-- the least positive time by which all that was asked before it can be done
pub record IsEnd (all : ℕ → ℕ) (end : ℕ) : Type 0 where
  pub some : 0 < end
  pub enough : all end ≤ end
  pub least : (t : ℕ) → 0 < t → t < end → t < all t

-- the least time that has room for these cycles beside what the higher tasks ask before it
pub record IsLeastTime (higher : ℕ → ℕ) (cycles time : ℕ) : Type 0 where
  pub room : cycles + higher time ≤ time
  pub least : (t : ℕ) → t < time → t < cycles + higher t

-- the first time at which so much is served
pub record IsFirst (served : ℕ → ℕ) (cycles time : ℕ) : Type 0 where
  pub there : cycles ≤ served time
  pub before : (t : ℕ) → t < time → served t < cycles

-- ---- they exist

-- the least positive time up to this one, if there is one
find_end : (all : ℕ → ℕ) (n : ℕ) → ((end : ℕ) × IsEnd all end × (end ≤ n)) ⊎ ((t : ℕ) → 0 < t → t ≤ n → t < all t)
find_end all zero = inr (λ t some most. absurd (omega arith))
find_end all (suc n) =
    elim (find_end all n) [
      | inl found ↦ let most = found.2 in inl (found.0, found.1, omega arith)
      | inr none ↦ elim (cases_lt (suc n) (all (suc n))) [
        | inr here ↦ inl (suc n, record { some = omega arith; enough = here; least = λ t some less. none t some (omega arith) }, omega arith)
        | inl left ↦ inr (λ t some most. elim (cases_eq t (suc n)) [ inl same ↦ subst (λ u. u < all u) (sym same) left | inr apart ↦ none t some (omega arith) ])
      ]
    ]

pub end_within : (all : ℕ → ℕ) (n : ℕ) → 0 < n → all n ≤ n → (end : ℕ) × IsEnd all end × (end ≤ n)
end_within all n some enough = elim (find_end all n) [ inl found ↦ found | inr none ↦ let left = none n some (omega arith) in absurd (omega arith) ]

find_time : (higher : ℕ → ℕ) (cycles n : ℕ) → ((time : ℕ) × IsLeastTime higher cycles time) ⊎ ((t : ℕ) → t ≤ n → t < cycles + higher t)
find_time higher cycles zero =
    elim (cases_lt 0 (cycles + higher 0)) [
      | inr here ↦ inl (0, record { room = here; least = λ t less. absurd (omega arith) })
      | inl left ↦ inr (λ t most. let first : t ≡ 0 = omega arith in subst (λ u. u < cycles + higher u) (sym first) left)
    ]
find_time higher cycles (suc n) =
    elim (find_time higher cycles n) [
      | inl found ↦ inl found
      | inr none ↦ elim (cases_lt (suc n) (cycles + higher (suc n))) [
        | inr here ↦ inl (suc n, record { room = here; least = λ t less. none t (omega arith) })
        | inl left ↦ inr (λ t most. elim (cases_eq t (suc n)) [ inl same ↦ subst (λ u. u < cycles + higher u) (sym same) left | inr apart ↦ none t (omega arith) ])
      ]
    ]

pub least_time : (higher : ℕ → ℕ) (cycles n : ℕ) → cycles + higher n ≤ n → (time : ℕ) × IsLeastTime higher cycles time
least_time higher cycles n enough = elim (find_time higher cycles n) [ inl found ↦ found | inr none ↦ let left = none n (omega arith) in absurd (omega arith) ]

module _ (higher higher_done all all_done served : ℕ → ℕ) (period total : ℕ) (task : IsTask higher higher_done all all_done served period total) where
  served_rises : (t more : ℕ) → served t ≤ served (t + more)
  served_rises t zero = let same : served (t + 0) ≡ served t = ap served (omega arith) in omega arith
  served_rises t (suc more) =
      let rec = served_rises t more in
      let one = task.steps (t + more) in
      let on : served (t + suc more) ≡ served (suc (t + more)) = ap served (omega arith) in
      omega arith

  served_mono : (t u : ℕ) → t ≤ u → served t ≤ served u
  served_mono t u h = let up = served_rises t (u - t) in let there : served (t + (u - t)) ≡ served u = ap served (omega arith) in omega arith

  -- a cycle of the task is done only where the higher tasks have nothing left
  served_last : (t : ℕ) → served t < served (suc t) → higher (suc t) ≤ higher_done (suc t)
  served_last t rises =
      elim (cases_lt (higher_done t) (higher (suc t))) [
        | inl left ↦
            let up = task.above.works t left in
            let one = step all all_done task.level t in
            let now = task.shares t in
            let then = task.shares (suc t) in
            absurd (omega (arith, one.1))
        | inr none ↦ let one = step higher higher_done task.above t in omega (arith, one.0)
      ]

  module _ (end : ℕ) (ends : IsEnd all end) where
    some_asked : 0 < all 1
    some_asked =
        let e = task.asks 1 in
        let one = released_before period 1 0 task.period_some (omega arith) in
        let own : total * 1 ≤ total * releases period 1 = mul-le-mul_left total one in
        let some = task.total_some in
        omega arith

    -- up to the end each tick does a cycle
    pub all_busy : (t : ℕ) → t ≤ end → all_done t ≡ t
    all_busy zero h = task.level.start
    all_busy (suc t) h =
        let rec = all_busy t (omega arith) in
        let more : t < all (suc t) = elim (cases_lt 0 t) [
          | inl some ↦ let left = ends.least t some (omega arith) in let up = task.level.rising t (suc t) (omega arith) in omega arith
          | inr none ↦ let first : t ≡ 0 = omega arith in let one : all (suc t) ≡ all 1 = ap (λ n. all (suc n)) first in let some = some_asked in omega arith
        ] in
        let e = task.level.works t (omega arith) in
        omega arith

    -- cycles of the frames of the busy period are served first at the least time that has room for them
    pub reached : (cycles time : ℕ) → cycles ≤ total * releases period end → IsLeastTime higher cycles time → IsFirst served cycles time × (time ≤ end)
    reached cycles time own least =
        let at_end = task.asks end in
        let fits = ends.enough in
        let soon : time ≤ end = elim (cases_lt end time) [ inl later ↦ let none = least.least end later in absurd (omega arith) | inr h ↦ h ] in
        let work = all_busy time soon in
        let share = task.shares time in
        let room = least.room in
        let most = task.above.within time in
        (record { there = omega arith; before = short cycles time least }, soon)
      where
        short : (cycles time : ℕ) → IsLeastTime higher cycles time → (t : ℕ) → t < time → served t < cycles
        short cycles time least zero h =
            let none = task.shares 0 in
            let start = task.level.start in
            let nothing = task.above.nothing in
            let left = least.least 0 h in
            omega arith
        short cycles time least (suc t) h =
            let rec = short cycles time least t (omega arith) in
            elim (cases_lt (served (suc t)) cycles) [
              | inl less ↦ less
              | inr there ↦
                  let free = served_last t (omega arith) in
                  let share = task.shares (suc t) in
                  let few = at_most all all_done task.level (suc t) in
                  let left = least.least (suc t) h in
                  absurd (omega arith)
            ]

    -- ---- the shift

    -- the last time up to a frame's release at which all is done, and how many frames of the task were released before it
    record IsStart (frame s before low : ℕ) : Type 0 where
      early : s ≤ frame * period
      finished : all s ≤ all_done s
      left : (u : ℕ) → s < u → u ≤ frame * period → all_done u < all u
      reach : s ≤ before * period
      own : all s ≡ higher s + total * before
      split : low + before ≡ frame

    start_of : (frame : ℕ) → (s before low : ℕ) × IsStart frame s before low
    start_of frame =
        let last = last_done all all_done task.level (frame * period) in
        let early : releases period last.0 ≤ frame = releases_least period last.0 frame task.period_some last.1 in (
          last.0,
          releases period last.0,
          frame - releases period last.0,
          record {
            early = last.1;
            finished = last.2;
            left = last.3;
            reach = releases_reach period last.0 task.period_some;
            own = task.asks last.0;
            split = omega arith;
          },
        )

    -- from there the frame stands in the busy period from 0
    low_within : (frame s before low : ℕ) → IsStart frame s before low → low * period < end
    low_within frame s before low h =
        elim (cases_lt (low * period) end) [
          | inl soon ↦ soon
          | inr past ↦
              let reach = h.reach in
              let both : (low + before) * period ≡ frame * period = ap (λ n. n * period) h.split in
              let inside : s + end ≤ frame * period = omega arith in
              let work = since all all_done task.level (frame * period) s end h.left inside in
              let some = ends.some in
              let left = h.left (s + end) (omega arith) inside in
              let asks = task.asks (s + end) in
              let own = h.own in
              let at_end = task.asks end in
              let above = task.window s end in
              let mine : total * releases period (s + end) ≤ total * (before + releases period end) = mul-le-mul_left total (releases_least period (s + end) (before + releases period end) task.period_some (let more = releases_reach period end task.period_some in omega arith)) in
              let fits = ends.enough in
              let done = h.finished in
              absurd (omega arith)
        ]

    module _ (frame prefix s before low response : ℕ) (some : 0 < prefix) (most : prefix ≤ total) (start : IsStart frame s before low)
        (room : low * total + prefix + higher (low * period + response) ≤ low * period + response) (short : served (frame * period + response) < frame * total + prefix) where
      -- the span of the low frame lies before the time by which the cycles are not served
      spans : s + (low * period + response) ≤ frame * period + response
      spans =
          let reach = start.reach in
          let both : (low + before) * period ≡ frame * period = ap (λ n. n * period) start.split in
          omega arith

      -- while they are not, the level has something to do
      still : (t : ℕ) → s ≤ t → t < s + (low * period + response) → all_done t < all (suc t)
      still t from to =
          elim (cases_lt t (frame * period)) [
            | inl soon ↦ let more = start.left (suc t) (omega arith) (omega arith) in let one = step all all_done task.level t in omega (arith, one.0)
            | inr later ↦
                let released = released_before period (suc t) frame task.period_some (omega arith) in
                let own : total * suc frame ≤ total * releases period (suc t) = mul-le-mul_left total released in
                let less = served_mono t (frame * period + response) (let inside = spans in omega arith) in
                let share = task.shares t in
                let within = task.above.within t in
                let rise = task.above.rising t (suc t) (omega arith) in
                let asks = task.asks (suc t) in
                omega arith
          ]

      no_later : ⊥
      no_later =
          let span : ℕ = low * period + response in
          let work = busy all all_done task.level s span still in
          let share = task.shares (s + span) in
          let within = task.above.within (s + span) in
          let above = task.window s span in
          let own = start.own in
          let finished = start.finished in
          let both : (low + before) * total ≡ frame * total = ap (λ n. n * total) start.split in
          let less = served_mono (s + span) (frame * period + response) spans in
          omega arith

    -- each frame has one of the busy period whose responses are no smaller
    pub shift : (frame prefix : ℕ) → 0 < prefix → prefix ≤ total →
        (low : ℕ) × (low ≤ frame) × (low * period < end)
        × ((response : ℕ) → low * total + prefix + higher (low * period + response) ≤ low * period + response → frame * total + prefix ≤ served (frame * period + response))
    shift frame prefix some most =
        let from = start_of frame in
        let h = from.3 in (
          from.2,
          let split = h.split in omega arith,
          low_within frame from.0 from.1 from.2 h,
          λ response room. elim (cases_lt (served (frame * period + response)) (frame * total + prefix)) [
            | inl short ↦ absurd (no_later frame prefix from.0 from.1 from.2 response some most h room short)
            | inr there ↦ there
          ],
        )

    -- each frame and prefix has one of the busy period that is reached no sooner after its release
    pub record IsShown (frame prefix low response : ℕ) : Type 0 where
      pub no_later : low ≤ frame
      pub within : low * period < end
      pub first : IsFirst served (low * total + prefix) (low * period + response)
      pub enough : frame * total + prefix ≤ served (frame * period + response)

    pub own_of : (low prefix : ℕ) → prefix ≤ total → low * period < end → low * total + prefix ≤ total * releases period end
    own_of low prefix most h =
        let released = released_before period end low task.period_some h in
        let own : total * suc low ≤ total * releases period end = mul-le-mul_left total released in
        omega arith

    pub at_end : (low prefix : ℕ) → prefix ≤ total → low * period < end → low * total + prefix + higher end ≤ end
    at_end low prefix most h =
        let own = own_of low prefix most h in
        let asks = task.asks end in
        let enough = ends.enough in
        omega arith

    -- no cycle of a frame is reached before its release
    after_release : (low prefix time : ℕ) → 0 < prefix → low * period < end → IsLeastTime higher (low * total + prefix) time → low * period ≤ time
    after_release low prefix time some h least =
        elim (cases_lt time (low * period)) [
          | inr later ↦ later
          | inl early ↦
              let few : total * releases period time ≤ total * low = mul-le-mul_left total (releases_least period time low task.period_some (omega arith)) in
              let asks = task.asks time in
              let room = least.room in
              let left = ends.least time (omega arith) (omega arith) in
              absurd (omega arith)
        ]

    pub shown : (frame prefix : ℕ) → 0 < prefix → prefix ≤ total → (low response : ℕ) × IsShown frame prefix low response
    shown frame prefix some most =
        let from = shift frame prefix some most in
        let low : ℕ = from.0 in
        let cycles : ℕ = low * total + prefix in
        let found = least_time higher cycles end (at_end low prefix most from.2) in
        let first = reached cycles found.0 (own_of low prefix most from.2) found.1 in
        let after = after_release low prefix found.0 some from.2 found.1 in
        let response : ℕ = found.0 - low * period in
        let when : found.0 ≡ low * period + response = omega arith in
        let room : cycles + higher (low * period + response) ≤ low * period + response = subst (λ t. cycles + higher t ≤ t) when found.1.room in
        (low, response, record { no_later = from.1; within = from.2; first = subst (IsFirst served cycles) when first.0; enough = from.3 response room })
