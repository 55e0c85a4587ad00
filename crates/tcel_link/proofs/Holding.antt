-- What a link holds back: the sample at each time to come is that of all frames so far.
use Rattle.std.proofs.Common.{◌≡◌, ℕ, ◌+◌, ◌*◌, ◌≤◌, Bool, true, false, cond, ℤ, pos, List, [], ◌∷◌, ◌++◌, length, Option, Some, refl, sym, ap, ◌∙◌, subst, ⊎_elim, arith}
use Rattle.std.specs.Prelude.{nat_le, option_map, option_to_list}
use Rattle.std.specs.List.{AllByRecursion}
use Rattle.std.proofs.lemmas.Bool.{cases_Bool, cond-false, cond-true}
use Rattle.std.proofs.lemmas.Bool.Decides.{nat_tests}
use Rattle.std.proofs.lemmas.List.{append-nil}
use Rattle.tcel_core.specs.Language.{Task}
use Rattle.tcel_link.specs.declared.feed.Sent.{Sent}
use Rattle.tcel_link.specs.Feeds.{held_back, last_of, pending_at, sample_at}
use Rattle.tcel_link.specs.Linked.{Ran, last_or, sent, sent_by}

-- the values that are held back are due at these times at most
abbrev pub IsDueBy : ℕ → Sent → Type 0
IsDueBy time s = s.due ≤ time

-- from a time on the sample is that of the values which these frames of a task sent to an output; the next frame is released at a time
pub record Holds (now : ℕ) (task : Task) (output : ℕ) (frames : List Ran) (next : ℕ) (sample : ℤ) (pending : List Sent) : Type 0 where
  pub later : (t : ℕ) → now ≤ t → sample_at t sample pending ≡ last_or (pos 0) (sent_by task output t frames)
  pub due : AllByRecursion (IsDueBy (next + task.deadline)) pending

-- ---- on to a time

advanced_sample : (time t : ℕ) (sample : ℤ) (pending : List Sent) → time ≤ t → sample_at t (sample_at time sample pending) (pending_at time pending) ≡ sample_at t sample pending
advanced_sample time t sample [] h = refl
advanced_sample time t sample (s ∷ pending) h =
    ⊎_elim (λ (e : nat_le s.due time ≡ true).
    let later : nat_le s.due t ≡ true = grind (arith, nat_tests) in
    ap (λ b. sample_at t (cond b (sample_at time s.value pending) sample) (cond b (pending_at time pending) (s ∷ pending))) e ∙ advanced_sample time t s.value pending h
    ∙ sym (cond-true (nat_le s.due t) (sample_at t s.value pending) sample later))
    (λ (e : nat_le s.due time ≡ false). ap (λ b. sample_at t (cond b (sample_at time s.value pending) sample) (cond b (pending_at time pending) (s ∷ pending))) e) (cases_Bool (nat_le s.due time))

advanced_due : (P : Sent → Type 0) (time : ℕ) (pending : List Sent) → AllByRecursion P pending → AllByRecursion P (pending_at time pending)
advanced_due P time [] h = h
advanced_due P time (s ∷ pending) h = by_test (nat_le s.due time) (advanced_due P time pending h.1)
  where
    by_test : (b : Bool) → AllByRecursion P (pending_at time pending) → AllByRecursion P (cond b (pending_at time pending) (s ∷ pending))
    by_test true rest = rest
    by_test false rest = h

pub holds_advanced : (now time : ℕ) (task : Task) (output : ℕ) (frames : List Ran) (next : ℕ) (sample : ℤ) (pending : List Sent) → now ≤ time → Holds now task output frames next sample pending →
    Holds time task output frames next (sample_at time sample pending) (pending_at time pending)
holds_advanced now time task output frames next sample pending on h =
    record { later = λ t low. advanced_sample time t sample pending low ∙ h.later t (omega (arith, on, low)); due = advanced_due (IsDueBy (next + task.deadline)) time pending h.due }

pub holds_on : (now time : ℕ) (task : Task) (output : ℕ) (frames : List Ran) (next : ℕ) (sample : ℤ) (pending : List Sent) → now ≤ time → Holds now task output frames next sample pending → Holds time task output frames next sample pending
holds_on now time task output frames next sample pending on h = record { later = λ t low. h.later t (omega (arith, on, low)); due = h.due }

-- ---- one frame more

last_both : (other : ℤ) (xs ys : List ℤ) → last_or other (xs ++ ys) ≡ last_or (last_or other xs) ys
last_both other [] ys = refl
last_both other (x ∷ xs) ys = last_both x xs ys

-- the last of values is held back
last_of_some : (x : ℤ) (xs : List ℤ) → last_of (Some x) xs ≡ Some (last_or x xs)
last_of_some x [] = refl
last_of_some x (y ∷ xs) = last_of_some y xs

held_some : (due : ℕ) (x : ℤ) (xs : List ℤ) → held_back due (x ∷ xs) ≡ record { due = due; value = last_or x xs } ∷ []
held_some due x xs = ap (λ (o : Option ℤ). option_to_list (option_map (λ value. let s : Sent = record { due = due; value = value } in s) o)) (last_of_some x xs)

-- a value that is due last
sample_pushed : (t : ℕ) (sample : ℤ) (pending : List Sent) (last : Sent) → AllByRecursion (IsDueBy last.due) pending →
    sample_at t sample (pending ++ last ∷ []) ≡ cond (nat_le last.due t) last.value (sample_at t sample pending)
sample_pushed t sample [] last h = refl
sample_pushed t sample (s ∷ pending) last h =
    ⊎_elim (λ (e : nat_le s.due t ≡ true).
    ap (λ b. cond b (sample_at t s.value (pending ++ last ∷ [])) sample) e ∙ sample_pushed t s.value pending last h.1
    ∙ sym (ap (λ b. cond (nat_le last.due t) last.value (cond b (sample_at t s.value pending) sample)) e))
    (λ (e : nat_le s.due t ≡ false).
    let due = h.0 in
    let late : nat_le last.due t ≡ false = grind (arith, nat_tests) in
    ap (λ b. cond b (sample_at t s.value (pending ++ last ∷ [])) sample) e
    ∙ sym (cond-false (nat_le last.due t) last.value (cond (nat_le s.due t) (sample_at t s.value pending) sample) late ∙ ap (λ b. cond b (sample_at t s.value pending) sample) e))
    (cases_Bool (nat_le s.due t))

all_due_later : (a b : ℕ) (pending : List Sent) → a ≤ b → AllByRecursion (IsDueBy a) pending → AllByRecursion (IsDueBy b) pending
all_due_later a b [] le h = tt
all_due_later a b (s ∷ pending) le h = (omega (arith, le, h.0), all_due_later a b pending le h.1)

all_due_pushed : (P : Sent → Type 0) (pending : List Sent) (last : Sent) → AllByRecursion P pending → P last → AllByRecursion P (pending ++ last ∷ [])
all_due_pushed P [] last h one = (one, tt)
all_due_pushed P (s ∷ pending) last h one = (h.0, all_due_pushed P pending last h.1 one)

-- one frame more of the task
pub holds_pushed : (now : ℕ) (task : Task) (output : ℕ) (frames : List Ran) (next : ℕ) (sample : ℤ) (pending : List Sent) (frame : Ran) → length frames * task.period ≡ next → Holds now task output frames next sample pending →
    Holds now task output (frame ∷ frames) (next + task.period) sample (pending ++ held_back (next + task.deadline) (sent output frame.frame.events))
holds_pushed now task output frames next sample pending frame counted h = by_values (sent output frame.frame.events) refl
  where
    due : ℕ
    due = next + task.deadline

    sent_more : (t : ℕ) (values : List ℤ) → sent output frame.frame.events ≡ values → sent_by task output t (frame ∷ frames) ≡ sent_by task output t frames ++ cond (nat_le due t) values []
    sent_more t values e =
        ap (λ n. sent_by task output t frames ++ cond (nat_le (n + task.deadline) t) (sent output frame.frame.events) []) counted
        ∙ ap (λ vs. sent_by task output t frames ++ cond (nat_le due t) vs []) e

    none_more : (b : Bool) (xs : List ℤ) → xs ++ cond b [] [] ≡ xs
    none_more true xs = append-nil xs
    none_more false xs = append-nil xs

    some_more : (b : Bool) (xs : List ℤ) (x : ℤ) (ys : List ℤ) → last_or (pos 0) (xs ++ cond b (x ∷ ys) []) ≡ cond b (last_or x ys) (last_or (pos 0) xs)
    some_more true xs x ys = last_both (pos 0) xs (x ∷ ys)
    some_more false xs x ys = ap (last_or (pos 0)) (append-nil xs)

    by_values : (values : List ℤ) → sent output frame.frame.events ≡ values →
        Holds now task output (frame ∷ frames) (next + task.period) sample (pending ++ held_back due (sent output frame.frame.events))
    by_values [] e =
        let same : pending ++ held_back due (sent output frame.frame.events) ≡ pending = ap (λ vs. pending ++ held_back due vs) e ∙ append-nil pending in
        subst (λ p. Holds now task output (frame ∷ frames) (next + task.period) sample p) (sym same)
        (record {
          later = λ t low. h.later t low ∙ ap (last_or (pos 0)) (sym (sent_more t [] e ∙ none_more (nat_le due t) (sent_by task output t frames)));
          due = all_due_later due (next + task.period + task.deadline) pending (omega arith) h.due;
        })
    by_values (x ∷ xs) e =
        let last : Sent = record { due = due; value = last_or x xs } in
        let same : pending ++ held_back due (sent output frame.frame.events) ≡ pending ++ last ∷ [] = ap (λ vs. pending ++ held_back due vs) e ∙ ap (λ ss. pending ++ ss) (held_some due x xs) in
        subst (λ p. Holds now task output (frame ∷ frames) (next + task.period) sample p) (sym same)
        (record {
          later = λ t low. sample_pushed t sample pending last h.due ∙ ap (λ v. cond (nat_le due t) (last_or x xs) v) (h.later t low)
              ∙ sym (ap (last_or (pos 0)) (sent_more t (x ∷ xs) e) ∙ some_more (nat_le due t) (sent_by task output t frames) x xs);
          due = all_due_pushed (IsDueBy (next + task.period + task.deadline)) pending last (all_due_later due (next + task.period + task.deadline) pending (omega arith) h.due) (omega arith);
        })
