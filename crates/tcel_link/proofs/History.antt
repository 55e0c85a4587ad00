-- The frames of linked tasks, one after another.
use Rattle.std.proofs.Common.{◌≡◌, ℕ, zero, suc, ◌+◌, ◌-◌, ◌*◌, ◌==◌, ◌<◌, ◌≤◌, true, false, List, [], ◌∷◌, ◌++◌, length, refl, sym, ap, ◌∙◌, ⊎_elim, arith}
use Rattle.std.specs.Prelude.{nat_le}
use Rattle.std.proofs.lemmas.Bool.{cases_Bool, cond-false, cond-true, eq-eqb, eqb-true, eqb-false, ne_eqb}
use Rattle.std.proofs.lemmas.Bool.Decides.{nat_tests}
use Rattle.std.proofs.lemmas.List.{append-nil}
use Rattle.std.proofs.Math.Nat.{suc-mul}
use Rattle.tcel_core.specs.Language.{Task}
use Rattle.tcel_link.specs.declared.link.Link.{Link}
use Rattle.tcel_link.specs.Linked.{Ran, frame_start, frames_before, ran, sent, sent_by}
use Rattle.tcel_link.specs.Links.{task_at}
use Rattle.tcel_script.specs.Script.{Streams}

module _ (tasks : List Task) (links : List Link) (streams : Streams) (number : ℕ) where
  -- the frames of one task before a time, and the one that would be released at it
  abbrev pub before : ℕ → List Ran
  before time = frames_before tasks links streams time number

  abbrev pub at_time : ℕ → Ran
  at_time time = ran (task_at tasks number) (frame_start tasks links streams (frames_before tasks links streams time) time number)

  abbrev pub period : ℕ
  period = (task_at tasks number).period

  -- at its release a frame is one more
  pub released : (time : ℕ) → length (before time) * period ≡ time → before (suc time) ≡ at_time time ∷ before time
  released time h = cond-true (time == length (before time) * period) (at_time time ∷ before time) (before time) (eq-eqb time (length (before time) * period) (sym h))

  -- at another time there is none
  pub none_released : (time : ℕ) → (length (before time) * period ≡ time → ⊥) → before (suc time) ≡ before time
  none_released time h =
      cond-false (time == length (before time) * period) (at_time time ∷ before time) (before time) (ne_eqb time (length (before time) * period) (λ e. h (sym e)))

  -- up to the next release
  pub idle : (time more k there : ℕ) → there ≡ k + time → length (before time) * period ≡ time + more → k ≤ more → before there ≡ before time
  idle time more zero there is h within = ap before (omega (arith, is))
  idle time more (suc k) there is h within =
      let same = idle time more k (k + time) refl h (omega (arith, within)) in
      let on : there ≡ suc (k + time) = omega (arith, is) in
      ap before on ∙ none_released (k + time) (λ e. let count = ap (λ (fs : List Ran). length fs * period) same in omega (arith, within, h, e, count)) ∙ same

  -- a period on
  pub next_release : (time : ℕ) → 0 < period → length (before time) * period ≡ time → before (time + period) ≡ at_time time ∷ before time
  next_release time some h =
      let one = released time h in
      let many = suc-mul (length (before time)) period in
      let count : length (before (suc time)) * period ≡ suc time + (period - 1) = ap (λ (fs : List Ran). length fs * period) one ∙ omega (arith, h, some, many) in
      idle (suc time) (period - 1) (period - 1) (time + period) (omega (arith, some)) count (omega arith) ∙ one

  -- where the next release isn't before a time and less than a period behind it, all frames before the time are there
  pub all_before : (time k next : ℕ) → next ≡ k + time → k < period → length (before next) * period ≡ next → before next ≡ before time
  all_before time zero next is less h = ap before (omega (arith, is))
  all_before time (suc k) next is less h =
      let rest = all_before (suc time) k next (omega (arith, is)) (omega (arith, less)) h in
      ⊎_elim (λ (e : (time == length (before time) * period) ≡ true).
      let was = eqb-true time (length (before time) * period) e in
      let one = released time (sym was) in
      let many = suc-mul (length (before time)) period in
      let count = ap (λ (fs : List Ran). length fs * period) (rest ∙ one) in
      absurd (omega (arith, is, less, h, was, count, many)))
      (λ (e : (time == length (before time) * period) ≡ false). rest ∙ none_released time (λ same. eqb-false time (length (before time) * period) e (sym same))) (cases_Bool (time == length (before time) * period))

  -- no frame that is released at a time or later has its deadline by then
  pub late_sends : (output time k there : ℕ) → there ≡ k + time → 0 < (task_at tasks number).deadline →
      sent_by (task_at tasks number) output time (before there) ≡ sent_by (task_at tasks number) output time (before time)
  late_sends output time zero there is some = ap (λ t. sent_by (task_at tasks number) output time (before t)) (omega (arith, is))
  late_sends output time (suc k) there is some =
      let task = task_at tasks number in
      let on : there ≡ suc (k + time) = omega (arith, is) in
      let rest = late_sends output time k (k + time) refl some in
      ap (λ t. sent_by task output time (before t)) on
      ∙ ⊎_elim (λ (e : (k + time == length (before (k + time)) * period) ≡ true).
      let was = eqb-true (k + time) (length (before (k + time)) * period) e in
      let late : nat_le (length (before (k + time)) * period + task.deadline) time ≡ false = grind (arith, nat_tests) in
      let nothing = cond-false (nat_le (length (before (k + time)) * period + task.deadline) time) (sent output (at_time (k + time)).frame.events) [] late in
      ap (sent_by task output time) (released (k + time) (sym was)) ∙ ap (λ vs. sent_by task output time (before (k + time)) ++ vs) nothing ∙ append-nil (sent_by task output time (before (k + time))) ∙ rest)
      (λ (e : (k + time == length (before (k + time)) * period) ≡ false).
      ap (sent_by task output time) (none_released (k + time) (λ same. eqb-false (k + time) (length (before (k + time)) * period) e (sym same))) ∙ rest)
      (cases_Bool (k + time == length (before (k + time)) * period))
