-- Whether a link leads to an input.
use Rattle.std.proofs.Common.{◌≡◌, ◌==◌, ◌∙◌, sym, ℕ, true, false, ⊎_elim}
use Rattle.std.proofs.lemmas.Bool.{and_from, and_parts, cases_Bool, eq-eqb, eqb-true, true≢false}
use Rattle.tcel_link.specs.declared.link.Link.{Link}
use Rattle.tcel_link.specs.Links.{feeds}

pub led : (number input : ℕ) (link : Link) → feeds number input link ≡ true → (link.to ≡ number) × (link.input ≡ input)
led number input link h =
    let both = and_parts (link.to == number) (link.input == input) h in (eqb-true link.to number both.0, eqb-true link.input input both.1)

pub leads : (number input : ℕ) (link : Link) → link.to ≡ number → link.input ≡ input → feeds number input link ≡ true
leads number input link to is = and_from (link.to == number) (link.input == input) (eq-eqb link.to number to) (eq-eqb link.input input is)

pub not_led : (number input : ℕ) (link : Link) → feeds number input link ≡ false → ¬ ((link.to ≡ number) × (link.input ≡ input))
not_led number input link h = λ same. true≢false (sym (leads number input link same.0 same.1) ∙ h)

pub not_leads : (number input : ℕ) (link : Link) → ¬ ((link.to ≡ number) × (link.input ≡ input)) → feeds number input link ≡ false
not_leads number input link h = ⊎_elim (λ (e : feeds number input link ≡ true). absurd (h (led number input link e))) (λ (e : feeds number input link ≡ false). e) (cases_Bool (feeds number input link))
