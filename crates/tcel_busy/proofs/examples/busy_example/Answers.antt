use Rattle.std.proofs.Common.{◌≡◌, ℕ, zero, suc, ◌+◌, ◌<◌, ◌≤◌, true, not, refl, ap, arith, lit<, take, inl, inr}
use Rattle.std.specs.Prelude.{nat_eq}
use Rattle.std.proofs.lemmas.Bool.{cases_lt, eq-eqb}
use Rattle.tcel_demand.specs.Examples.{two_plans}
use Rattle.tcel_demand.specs.Workload.{asked}
use Rattle.tcel_demand.proofs.Responses.{all_below, all_below_at}
use Rattle.tcel_busy.proofs.examples.busy_example.Goals as goal

-- where no number but 0 passes below a limit, one that passes reaches it
reaches : (f : ℕ → ℕ) (limit : ℕ) → all_below (λ n. not (nat_eq (suc n) (f (suc n)))) limit ≡ true → (time : ℕ) → 0 < time → time ≡ f time → suc limit ≤ time
reaches f limit none zero some e = absurd (omega arith)
reaches f limit none (suc n) some e =
    elim (cases_lt n limit) [
      | inr past ↦ omega arith
      | inl less ↦
          let fails = all_below_at (λ m. not (nat_eq (suc m) (f (suc m)))) limit n none less in
          let same = ap not (eq-eqb (suc n) (f (suc n)) e) in
          absurd cc
    ]

pub returns-clause-end : goal.returns-clause-end
returns-clause-end c = record { some = lit< tt; full = refl; least = λ time some e. reaches (asked (take 2 (two_plans 118))) 693 refl time some e }

pub returns-clause-not_sooner : goal.returns-clause-not_sooner
returns-clause-not_sooner c = λ h. let e = h.full in absurd (omega arith)

pub returns-clause-first_frame : goal.returns-clause-first_frame
returns-clause-first_frame c = record { fixed = refl; least = λ time e. reaches (λ t. 62 + asked (take 1 (two_plans 118)) t) 113 refl time (omega arith) e }

pub returns-clause-not_alone : goal.returns-clause-not_alone
returns-clause-not_alone c = λ h. let e = h.fixed in absurd (omega arith)
