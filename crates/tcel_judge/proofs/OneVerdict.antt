-- There is at most one verdict.
use Rattle.std.proofs.Common.{◌≡◌, ℕ, ◌<◌, List, Option, Some, None, length, refl, sym, ap, ◌∙◌, ⊎_elim, subst}
use Rattle.std.specs.Prelude.{slice_get, ◌-◌}
use Rattle.std.proofs.lemmas.Bool.{cases_order, both_ways}
use Rattle.tcel_num.specs.Plan.{Plan}
use Rattle.tcel_num.specs.Schedule.{served}
use Rattle.tcel_core.specs.Promises.{Behavior, Promise, promises}
use Rattle.tcel_trace.specs.declared.trace_line.TraceLine.{TraceLine}
use Rattle.tcel_judge.specs.declared.verdict.Verdict.{Verdict}
use Rattle.tcel_judge.specs.declared.verdict.Verdict.TheVariants as verdicts
use Rattle.tcel_judge.specs.declared.verdict.Breach.{Breach}
use Rattle.tcel_judge.specs.declared.verdict.Breach.TheVariants as breaches
use Rattle.tcel_judge.specs.FirstBreach.{Judged, promise_at, is_due, due_of, breach_at, MissesNone, Misses, total_at, own_lines, IsWhole, Says, accepted, refused, missed}

same_some : {A : Type 0} (o : Option A) (a b : A) → o ≡ Some a → o ≡ Some b → a ≡ b
same_some o a b h k = let both : Some a ≡ Some b = sym h ∙ k in cc

none_some : {A : Type 0} (o : Option A) (a : A) → o ≡ None → o ≡ Some a → ⊥
none_some o a h k = let both : None ≡ Some a = sym h ∙ k in absurd cc

-- what misses nothing misses no entry
misses_some : (ticks total count from place : ℕ) (b : Behavior) (p : Promise) → MissesNone ticks total count b from
    → Misses ticks total count b from place p → ⊥
misses_some ticks total count from place b p none some = both_ways (is_due ticks total count p) (none place p some.behind some.there) some.due

-- the first that is missing stands at one place
one_place : (ticks total count from a b : ℕ) (does : Behavior) (p q : Promise) → Misses ticks total count does from a p
    → Misses ticks total count does from b q → a ≡ b
one_place ticks total count from a b does p q h k =
    ⊎_elim (λ (e : a ≡ b). e)
    (⊎_elim (λ (lt : a < b). absurd (both_ways (is_due ticks total count p) (k.passed a p h.behind lt h.there) h.due))
    (λ (lt : b < a). absurd (both_ways (is_due ticks total count q) (h.passed b q k.behind lt k.there) k.due)))
    (cases_order a b)

module _ (set : List Judged) (plans : List Plan) (ticks : ℕ) (lines : List TraceLine) where
  -- one line is the first with a breach
  one_breach : (a b : ℕ) (x y : Breach) → breach_at set lines a ≡ Some x → ((k : ℕ) → k < a → breach_at set lines k ≡ None)
      → breach_at set lines b ≡ Some y → ((k : ℕ) → k < b → breach_at set lines k ≡ None) → x ≡ y
  one_breach a b x y at passed also before =
      ⊎_elim (λ (e : a ≡ b). same_some (breach_at set lines b) x y (ap (breach_at set lines) (sym e) ∙ at) also)
      (⊎_elim (λ (lt : a < b). absurd (none_some (breach_at set lines a) x (before a lt) at))
      (λ (lt : b < a). absurd (none_some (breach_at set lines b) y (passed b lt) also)))
      (cases_order a b)

  abbrev MissesAt : ℕ → Judged → ℕ → Promise → Type 0
  MissesAt i j place p = Misses ticks (total_at plans i) (served plans ticks i) j.does (own_lines j.task.name lines) place p

  abbrev missing : ℕ → Judged → ℕ → Promise → Verdict
  missing i j place p = verdicts.No (breaches.Missing i p.frame (due_of (place - length (promises j.does p.frame)) p.what))

  -- of one task
  one_entry : (i a b : ℕ) (j : Judged) (p q : Promise) → MissesAt i j a p → MissesAt i j b q → missing i j a p ≡ missing i j b q
  one_entry i a b j p q h k =
      let places = one_place ticks (total_at plans i) (served plans ticks i) (own_lines j.task.name lines) a b j.does p q h k in
      let entries = same_some (promise_at j.does b) p q (ap (promise_at j.does) (sym places) ∙ h.there) k.there in
      ap (λ place. missing i j place p) places ∙ ap (λ entry. missing i j b entry) entries

  abbrev WholeBefore : ℕ → Type 0
  WholeBefore i = (k : ℕ) (g : Judged) → k < i → slice_get set k ≡ Some g → IsWhole set plans ticks lines k g

  one_task : (i h a b : ℕ) (j g : Judged) (p q : Promise) → slice_get set i ≡ Some j → slice_get set h ≡ Some g → WholeBefore i → WholeBefore h
      → MissesAt i j a p → MissesAt h g b q → missing i j a p ≡ missing h g b q
  one_task i h a b j g p q at also before earlier m n =
      ⊎_elim (λ (e : i ≡ h). of_same h e also n)
      (⊎_elim (λ (lt : i < h). absurd
      (misses_some ticks (total_at plans i) (served plans ticks i) (own_lines j.task.name lines) a j.does p (earlier i j lt at) m))
      (λ (lt : h < i). absurd (misses_some ticks (total_at plans h) (served plans ticks h) (own_lines g.task.name lines) b g.does q (before h g lt also) n)))
      (cases_order i h)
    where
      of_task : (f : Judged) → j ≡ f → MissesAt i f b q → missing i j a p ≡ missing i f b q
      of_task f e more = one_entry i a b j p q m (subst (λ t. MissesAt i t b q) (sym e) more) ∙ ap (λ t. missing i t b q) e

      of_same : (k : ℕ) → i ≡ k → slice_get set k ≡ Some g → MissesAt k g b q → missing i j a p ≡ missing k g b q
      of_same k e there more =
          subst (λ t. missing i j a p ≡ missing t g b q) e
          (of_task g (same_some (slice_get set i) j g at (ap (slice_get set) e ∙ there)) (subst (λ t. MissesAt t g b q) (sym e) more))

  pub said_once : (v w : Verdict) → Says set plans ticks lines v → Says set plans ticks lines w → v ≡ w
  said_once v w (accepted right whole) (accepted r o) = refl
  said_once v w (accepted right whole) (refused place b at passed) = absurd (none_some (breach_at set lines place) b (right place) at)
  said_once v w (accepted right whole) (missed i place j p r at before m) =
      absurd (misses_some ticks (total_at plans i) (served plans ticks i) (own_lines j.task.name lines) place j.does p (whole i j at) m)
  said_once v w (refused place b at passed) (accepted r o) = absurd (none_some (breach_at set lines place) b (r place) at)
  said_once v w (refused place b at passed) (refused q c also before) = ap verdicts.No (one_breach place q b c at passed also before)
  said_once v w (refused place b at passed) (missed i q j p r also before m) = absurd (none_some (breach_at set lines place) b (r place) at)
  said_once v w (missed i place j p right at before m) (accepted r o) =
      absurd (misses_some ticks (total_at plans i) (served plans ticks i) (own_lines j.task.name lines) place j.does p (o i j at) m)
  said_once v w (missed i place j p right at before m) (refused q c also passed) = absurd (none_some (breach_at set lines q) c (right q) also)
  said_once v w (missed i place j p right at before m) (missed h q g o r also earlier n) = one_task i h place q j g p o at also before earlier m n
