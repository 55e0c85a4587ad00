-- Bytes say one thing.
use Rattle.std.proofs.Common.{◌≡◌, ◌≢◌, ℕ, pos, ◌⊎◌, List, [], ◌∷◌, ◌++◌, Result, Ok, Err, Ordering, Less, Equal, Greater, nat_cmp, refl, sym, ap, ◌∙◌, subst, arith, inl, inr}
use Rattle.std.specs.List.{AllByRecursion}
use Rattle.std.specs.Ordering.{ordering_reverse}
use Rattle.std.specs.Cmp.Lexicographic.{slice_cmp}
use Rattle.std.proofs.lemmas.Cmp.{nat_list_cmp_total}
use Rattle.std.proofs.lemmas.List.Elements.{recursion_from_All}
use Rattle.std.proofs.lemmas.Map.Lookups.{exact_bytes}
use Rattle.std.proofs.lemmas.Option.{same_Some, none-some}
use Rattle.toml.specs.Data.{Data, integer, Members}
use Rattle.tcel_target.specs.declared.costs.Costs.{Costs}
use Rattle.tcel_target.specs.declared.costs.CostKey.{CostKey}
use Rattle.tcel_target.specs.declared.costs.CostKey.TheVariants as keys
use Rattle.tcel_target.specs.declared.fail.TargetFail.{TargetFail}
use Rattle.tcel_target.specs.declared.fail.TargetFail.TheVariants as fails
use Rattle.tcel_target.specs.Costs.{cost_of, CostsInRange, IsCost}
use Rattle.tcel_target.proofs.Keys.{same_costs}
use Rattle.tcel_target.specs.Target.{Says, IsDocument, IsNoDocument, IsTarget, IsLeastStrange, HasNoStrange, HasCost, GivesCost, IsMissing, IsOutOfRange, EarlierHaveCosts}

-- ---- costs are in their ranges

pub gives_in_range : (top : Members) (key : CostKey) (n : ℕ) → GivesCost top key n → IsCost key n
gives_in_range top key n (inl h) = h.0
gives_in_range top key n (inr h) = subst (λ k. IsCost k n) (sym h.0) (subst (IsCost keys.Dispatch) (sym h.1) (omega arith, omega arith))

pub targets_in_range : (bytes : List ℕ) (costs : Costs) → IsTarget bytes costs → CostsInRange costs
targets_in_range bytes costs target = λ key. gives_in_range target.top key (cost_of costs key) (target.each key)

-- ---- one document

same_document : (bytes : List ℕ) (a b : Members) → IsDocument bytes a → IsDocument bytes b → a ≡ b
same_document bytes a b h g = same_Some a b (sym h.table ∙ g.table)

no_document : (bytes : List ℕ) (top : Members) → IsNoDocument bytes → IsDocument bytes top → ⊥
no_document bytes top none h = none-some top (sym (none h.text) ∙ h.table)

-- ---- one cost of a key

number_of : Data → ℕ → ℕ
number_of (integer (pos n)) other = n
number_of _ other = other

one_cost : (top : Members) (key : CostKey) (m n : ℕ) → GivesCost top key m → GivesCost top key n → m ≡ n
unfolding number_of
one_cost top key m n (inl h) (inl g) = ap (λ d. number_of d 0) (same_Some (integer (pos m)) (integer (pos n)) (sym h.1 ∙ g.1))
one_cost top key m n (inl h) (inr g) = absurd (none-some (integer (pos m)) (sym g.2 ∙ h.1))
one_cost top key m n (inr h) (inl g) = absurd (none-some (integer (pos n)) (sym h.2 ∙ g.1))
one_cost top key m n (inr h) (inr g) = h.1 ∙ sym g.1

not_missing : (top : Members) (key : CostKey) → HasCost top key → IsMissing top key → ⊥
not_missing top key (n, inl h) m = none-some (integer (pos n)) (sym m.1 ∙ h.1)
not_missing top key (n, inr h) m = m.0 h.0

not_out : (top : Members) (key : CostKey) → HasCost top key → IsOutOfRange top key → ⊥
not_out top key (n, inl h) out = out.2 n h.0 (same_Some out.0 (integer (pos n)) (sym out.1 ∙ h.1))
not_out top key (n, inr h) out = none-some out.0 (sym h.2 ∙ out.1)

not_both : (top : Members) (key : CostKey) → IsMissing top key → IsOutOfRange top key → ⊥
not_both top key m out = none-some out.0 (sym m.1 ∙ out.1)

-- ---- one first key without a cost

first_is_one : (P : CostKey → Type 0) (a b : List CostKey) (x y : CostKey) (c d : List CostKey) → a ++ x ∷ c ≡ b ++ y ∷ d → AllByRecursion P a → AllByRecursion P b → (P x → ⊥) → (P y → ⊥) → x ≡ y
first_is_one P [] [] x y c d e h g nx ny = cc
first_is_one P [] (k ∷ b) x y c d e h g nx ny = let same : x ≡ k = cc in absurd (nx (subst P (sym same) g.0))
first_is_one P (k ∷ a) [] x y c d e h g nx ny = let same : k ≡ y = cc in absurd (ny (subst P same h.0))
first_is_one P (k ∷ a) (l ∷ b) x y c d e h g nx ny =
    let rest : a ++ x ∷ c ≡ b ++ y ∷ d = cc in
    first_is_one P a b x y c d rest h.1 g.1 nx ny

one_first : (top : Members) (a b : CostKey) → EarlierHaveCosts top a → EarlierHaveCosts top b → (HasCost top a → ⊥) → (HasCost top b → ⊥) → a ≡ b
one_first top a b h g na nb =
    first_is_one (HasCost top) h.0 g.0 a b h.1 g.1 (sym h.2 ∙ g.2) (recursion_from_All (HasCost top) h.0 h.3) (recursion_from_All (HasCost top) g.0 g.3) na nb

one_least : (top : Members) (a b : List ℕ) → IsLeastStrange top a → IsLeastStrange top b → a ≡ b
one_least top a b h g = exact_bytes a b (tied (slice_cmp nat_cmp a b) (h.least b g.strange) (λ e. g.least a h.strange (nat_list_cmp_total.antisymm b a ∙ ap ordering_reverse e)))
  where
    tied : (o : Ordering) → o ≢ Greater → o ≢ Less → o ≡ Equal
    tied Less h g = absurd (g refl)
    tied Equal h g = refl
    tied Greater h g = absurd (h refl)

-- ---- the whole

-- a key without a cost, at which each key before it has one
record Lacks (top : Members) (key : CostKey) : Type 0 where
  none : HasCost top key → ⊥
  earlier : EarlierHaveCosts top key

-- what a document says
abbrev Decides : Members → Result Costs TargetFail → Type 0
Decides top (Ok costs) = HasNoStrange top × ((key : CostKey) → GivesCost top key (cost_of costs key))
Decides top (Err fails.NotToml) = ⊥
Decides top (Err (fails.Strange text)) = IsLeastStrange top text
Decides top (Err (fails.Missing key)) = HasNoStrange top × Lacks top key × IsMissing top key
Decides top (Err (fails.Range key)) = HasNoStrange top × Lacks top key × IsOutOfRange top key
Decides top (Err fails.NoMemory) = Unit {0}

decides : (bytes : List ℕ) (top : Members) → IsDocument bytes top → (r : Result Costs TargetFail) → Says bytes r → Decides top r
decides bytes top document (Ok costs) says =
    subst (λ t. Decides t (Ok costs)) (same_document bytes says.top top says.document document) (says.known, says.each)
decides bytes top document (Err fails.NotToml) says = no_document bytes top says document
decides bytes top document (Err (fails.Strange text)) says =
    subst (λ t. IsLeastStrange t text) (same_document bytes says.0 top says.1 document) says.2
decides bytes top document (Err (fails.Missing key)) says =
    let lacks : Lacks says.top key = record { none = λ has. not_missing says.top key has says.fault; earlier = says.earlier } in
    subst (λ t. Decides t (Err (fails.Missing key))) (same_document bytes says.top top says.document document) (says.known, lacks, says.fault)
decides bytes top document (Err (fails.Range key)) says =
    let lacks : Lacks says.top key = record { none = λ has. not_out says.top key has says.fault; earlier = says.earlier } in
    subst (λ t. Decides t (Err (fails.Range key))) (same_document bytes says.top top says.document document) (says.known, lacks, says.fault)
decides bytes top document (Err fails.NoMemory) says = tt

abbrev Same : Result Costs TargetFail → Result Costs TargetFail → Type 0
Same a b = (a ≡ b) ⊎ (a ≡ Err fails.NoMemory) ⊎ (b ≡ Err fails.NoMemory)

-- a document without strange keys has none that is least
none_least : (top : Members) (text : List ℕ) → HasNoStrange top → IsLeastStrange top text → ⊥
none_least top text known least = known text least.strange

one_lacks : (top : Members) (a b : CostKey) → Lacks top a → Lacks top b → a ≡ b
one_lacks top a b h g = one_first top a b h.earlier g.earlier h.none g.none

one_decided : (top : Members) (a b : Result Costs TargetFail) → Decides top a → Decides top b → Same a b
one_decided top (Err fails.NoMemory) b h g = inr (inl refl)
one_decided top a (Err fails.NoMemory) h g = inr (inr refl)
one_decided top (Err fails.NotToml) b h g = absurd h
one_decided top a (Err fails.NotToml) h g = absurd g
one_decided top (Ok c) (Ok d) h g = inl (ap Ok (same_costs c d (λ key. one_cost top key (cost_of c key) (cost_of d key) (h.1 key) (g.1 key))))
one_decided top (Ok c) (Err (fails.Strange t)) h g = absurd (none_least top t h.0 g)
one_decided top (Ok c) (Err (fails.Missing k)) h g = absurd (g.1.none (cost_of c k, h.1 k))
one_decided top (Ok c) (Err (fails.Range k)) h g = absurd (g.1.none (cost_of c k, h.1 k))
one_decided top (Err (fails.Strange t)) (Ok d) h g = absurd (none_least top t g.0 h)
one_decided top (Err (fails.Strange t)) (Err (fails.Strange u)) h g = inl (ap (λ x. Err (fails.Strange x)) (one_least top t u h g))
one_decided top (Err (fails.Strange t)) (Err (fails.Missing k)) h g = absurd (none_least top t g.0 h)
one_decided top (Err (fails.Strange t)) (Err (fails.Range k)) h g = absurd (none_least top t g.0 h)
one_decided top (Err (fails.Missing k)) (Ok d) h g = absurd (h.1.none (cost_of d k, g.1 k))
one_decided top (Err (fails.Missing k)) (Err (fails.Strange u)) h g = absurd (none_least top u h.0 g)
one_decided top (Err (fails.Missing k)) (Err (fails.Missing l)) h g = inl (ap (λ x. Err (fails.Missing x)) (one_lacks top k l h.1 g.1))
one_decided top (Err (fails.Missing k)) (Err (fails.Range l)) h g = absurd (not_both top l (subst (IsMissing top) (one_lacks top k l h.1 g.1) h.2) g.2)
one_decided top (Err (fails.Range k)) (Ok d) h g = absurd (h.1.none (cost_of d k, g.1 k))
one_decided top (Err (fails.Range k)) (Err (fails.Strange u)) h g = absurd (none_least top u h.0 g)
one_decided top (Err (fails.Range k)) (Err (fails.Missing l)) h g = absurd (not_both top l g.2 (subst (IsOutOfRange top) (one_lacks top k l h.1 g.1) h.2))
one_decided top (Err (fails.Range k)) (Err (fails.Range l)) h g = inl (ap (λ x. Err (fails.Range x)) (one_lacks top k l h.1 g.1))

-- bytes that are a document, or no document, or anything where memory ran out
document_of : (bytes : List ℕ) (r : Result Costs TargetFail) → Says bytes r → ((top : Members) × IsDocument bytes top) ⊎ (r ≡ Err fails.NotToml) ⊎ (r ≡ Err fails.NoMemory)
document_of bytes (Ok costs) says = inl (says.top, says.document)
document_of bytes (Err fails.NotToml) says = inr (inl refl)
document_of bytes (Err (fails.Strange text)) says = inl (says.0, says.1)
document_of bytes (Err (fails.Missing key)) says = inl (says.top, says.document)
document_of bytes (Err (fails.Range key)) says = inl (says.top, says.document)
document_of bytes (Err fails.NoMemory) says = inr (inr refl)

pub says_one : (bytes : List ℕ) (a b : Result Costs TargetFail) → Says bytes a → Says bytes b → Same a b
says_one bytes a b h g =
    elim (document_of bytes a h) [
      | inl document ↦ one_decided document.0 a b (decides bytes document.0 document.1 a h) (decides bytes document.0 document.1 b g)
      | inr (inr none) ↦ inr (inl none)
      | inr (inl first) ↦
          elim (document_of bytes b g) [
            | inl document ↦ absurd (subst (Decides document.0) first (decides bytes document.0 document.1 a h))
            | inr (inl second) ↦ inl (first ∙ sym second)
            | inr (inr none) ↦ inr (inr none)
          ]
    ]
