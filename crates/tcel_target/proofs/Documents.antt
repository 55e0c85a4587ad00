-- What some documents say.
use Rattle.std.proofs.Common.{◌≡◌, ◌≢◌, ℕ, zero, suc, pos, Bool, true, ◌&&◌, List, [], ◌∷◌, Result, Ok, Err, Greater, codes, nat_cmp, refl, sym, ap, ◌∙◌, arith, lit<, All, inl, inr}
use Rattle.std.specs.Prelude.{nat_lt}
use Rattle.std.specs.List.{list_all}
use Rattle.std.specs.Str.{IsAscii}
use Rattle.std.specs.Cmp.Lexicographic.{slice_cmp}
use Rattle.std.proofs.lemmas.Bool.{and_parts, false≢true, ltb-true}
use Rattle.std.proofs.lemmas.Str.{IsUtf8-from_ascii}
use Rattle.std.proofs.lemmas.List.Elements.{All-from_recursion}
use Rattle.toml.specs.Data.{integer, Members, no_members, member}
use Rattle.toml.proofs.OnLiterals.{toml_on_literals}
use Rattle.tcel_target.specs.declared.costs.Costs.{Costs}
use Rattle.tcel_target.specs.declared.costs.CostKey.{CostKey}
use Rattle.tcel_target.specs.declared.costs.CostKey.TheVariants as keys
use Rattle.tcel_target.specs.declared.fail.TargetFail.{TargetFail}
use Rattle.tcel_target.specs.declared.fail.TargetFail.TheVariants as fails
use Rattle.tcel_target.specs.Costs.{cost_of, unit_costs, IsCost}
use Rattle.tcel_target.specs.Examples.{dispatched, dispatched_text, unit_text}
use Rattle.tcel_target.specs.Target.{GivesCost, HasCost, HasNoStrange, IsDocument, IsStrange, Says}
use Rattle.tcel_target.specs.Reading.{is_listed}
use Rattle.tcel_target.proofs.Keys.{one_cycle, unlisted}
use Rattle.tcel_target.proofs.Members.{equal≢greater, less≢greater, strange_later, there_split}
use Rattle.tcel_target.proofs.Told.{says_one}

-- bytes below 128 are ASCII
are_ascii : (bytes : List ℕ) → list_all (λ b. nat_lt b 128) bytes ≡ true → IsAscii bytes
are_ascii [] h = λ i. lit< tt
are_ascii (b ∷ bytes) h =
    let both = and_parts (nat_lt b 128) (list_all (λ b. nat_lt b 128) bytes) h in
    elim [ zero ↦ ltb-true b 128 both.0 | suc i ↦ are_ascii bytes both.1 i ]

-- each key of the document is listed
all_listed : Members → Bool
all_listed no_members = true
all_listed (member key d rest) = is_listed key && all_listed rest

none_strange : (top : Members) → all_listed top ≡ true → HasNoStrange top
unfolding all_listed
none_strange no_members h = λ text s. false≢true s.there
none_strange (member key d rest) h =
    let both = and_parts (is_listed key) (all_listed rest) h in
    λ text s. none_strange rest both.1 text (strange_later key d rest both.0 text s)

abbrev one : List ℕ → Members → Members
one key rest = member key (integer (pos 1)) rest

-- the keys behind dispatch in the order of bytes, each with 1
abbrev behind_dispatch : Members
behind_dispatch =
    one (codes "divide") (one (codes "end") (one (codes "jump") (one (codes "load") (one (codes "load_at") (one (codes "loop") (one (codes "mark") (one (codes "multiply")
    (one (codes "receive") (one (codes "send") (one (codes "store") (one (codes "store_at") no_members)))))))))))

abbrev before_dispatch : Members → Members
before_dispatch rest = one (codes "arith") (one (codes "branch") (one (codes "const") rest))

abbrev unit_top : Members
unit_top = before_dispatch behind_dispatch

abbrev dispatched_top : Members
dispatched_top = before_dispatch (member (codes "dispatch") (integer (pos 7)) behind_dispatch)

unit_document : IsDocument unit_text unit_top
unfolding toml_on_literals
unit_document = record { text = IsUtf8-from_ascii unit_text (are_ascii unit_text refl); table = refl }

dispatched_document : IsDocument dispatched_text dispatched_top
unfolding toml_on_literals
dispatched_document = record { text = IsUtf8-from_ascii dispatched_text (are_ascii dispatched_text refl); table = refl }

unit_gives : (key : CostKey) → GivesCost unit_top key (cost_of unit_costs key)
unit_gives keys.Const = inl (one_cycle, refl)
unit_gives keys.Load = inl (one_cycle, refl)
unit_gives keys.Store = inl (one_cycle, refl)
unit_gives keys.LoadAt = inl (one_cycle, refl)
unit_gives keys.StoreAt = inl (one_cycle, refl)
unit_gives keys.Arith = inl (one_cycle, refl)
unit_gives keys.Multiply = inl (one_cycle, refl)
unit_gives keys.Divide = inl (one_cycle, refl)
unit_gives keys.Jump = inl (one_cycle, refl)
unit_gives keys.Branch = inl (one_cycle, refl)
unit_gives keys.Loop = inl (one_cycle, refl)
unit_gives keys.Receive = inl (one_cycle, refl)
unit_gives keys.Send = inl (one_cycle, refl)
unit_gives keys.Mark = inl (one_cycle, refl)
unit_gives keys.End = inl (one_cycle, refl)
unit_gives keys.Dispatch = inr (refl, refl, refl)

pub unit-says : Says unit_text (Ok unit_costs)
unfolding all_listed
unit-says = record { top = unit_top; document = unit_document; known = none_strange unit_top refl; each = unit_gives }

dispatched_gives : (key : CostKey) → GivesCost dispatched_top key (cost_of dispatched key)
dispatched_gives keys.Const = inl (one_cycle, refl)
dispatched_gives keys.Load = inl (one_cycle, refl)
dispatched_gives keys.Store = inl (one_cycle, refl)
dispatched_gives keys.LoadAt = inl (one_cycle, refl)
dispatched_gives keys.StoreAt = inl (one_cycle, refl)
dispatched_gives keys.Arith = inl (one_cycle, refl)
dispatched_gives keys.Multiply = inl (one_cycle, refl)
dispatched_gives keys.Divide = inl (one_cycle, refl)
dispatched_gives keys.Jump = inl (one_cycle, refl)
dispatched_gives keys.Branch = inl (one_cycle, refl)
dispatched_gives keys.Loop = inl (one_cycle, refl)
dispatched_gives keys.Receive = inl (one_cycle, refl)
dispatched_gives keys.Send = inl (one_cycle, refl)
dispatched_gives keys.Mark = inl (one_cycle, refl)
dispatched_gives keys.End = inl (one_cycle, refl)
dispatched_gives keys.Dispatch = inl ((omega arith, omega arith), refl)

pub dispatched-says : Says dispatched_text (Ok dispatched)
unfolding all_listed
dispatched-says = record { top = dispatched_top; document = dispatched_document; known = none_strange dispatched_top refl; each = dispatched_gives }

-- ---- faults

pub not_toml : Says (codes "const =") (Err fails.NotToml)
unfolding toml_on_literals
not_toml = λ utf8. refl

abbrev strange_text : List ℕ
strange_text = codes "b = 1\na = 1\nconst = 0\n"

abbrev strange_top : Members
strange_top = one (codes "a") (one (codes "b") (member (codes "const") (integer (pos 0)) no_members))

strange_document : IsDocument strange_text strange_top
unfolding toml_on_literals
strange_document = record { text = IsUtf8-from_ascii strange_text (are_ascii strange_text refl); table = refl }

-- a key of it is one of three
is_least : (other : List ℕ) → IsStrange strange_top other → slice_cmp nat_cmp (codes "a") other ≢ Greater
is_least other s greater =
    elim (there_split (codes "a") (integer (pos 1)) (one (codes "b") (member (codes "const") (integer (pos 0)) no_members)) other s.there) [
      | inl a ↦ equal≢greater (ap (slice_cmp nat_cmp (codes "a")) (sym a) ∙ greater)
      | inr more ↦
          elim (there_split (codes "b") (integer (pos 1)) (member (codes "const") (integer (pos 0)) no_members) other more) [
            | inl b ↦ less≢greater (ap (slice_cmp nat_cmp (codes "a")) (sym b) ∙ greater)
            | inr last ↦
                elim (there_split (codes "const") (integer (pos 0)) no_members other last) [
                  | inl c ↦ s.unlisted keys.Const c
                  | inr none ↦ false≢true none
                ]
          ]
    ]

pub strange : Says strange_text (Err (fails.Strange (codes "a")))
strange = (strange_top, strange_document, record { strange = record { there = refl; unlisted = unlisted (codes "a") refl }; least = is_least })

abbrev missing_text : List ℕ
missing_text = codes "load = 0\n"

abbrev load_top : Members
load_top = member (codes "load") (integer (pos 0)) no_members

missing_document : IsDocument missing_text load_top
unfolding toml_on_literals
missing_document = record { text = IsUtf8-from_ascii missing_text (are_ascii missing_text refl); table = refl }

nothing : (P : CostKey → Type 0) → All P []
nothing P = λ k d within. absurd (omega arith)

pub missing : Says missing_text (Err (fails.Missing keys.Const))
unfolding all_listed
missing = record {
  top = load_top;
  document = missing_document;
  known = none_strange load_top refl;
  fault = (λ e. absurd cc, refl);
  earlier = ([], _, refl, nothing (HasCost load_top));
}

abbrev range_text : List ℕ
range_text = codes "const = 1\nload = 0\n"

abbrev range_top : Members
range_top = one (codes "const") load_top

range_document : IsDocument range_text range_top
unfolding toml_on_literals
range_document = record { text = IsUtf8-from_ascii range_text (are_ascii range_text refl); table = refl }

zero_is_none : (n : ℕ) → IsCost keys.Load n → integer (pos 0) ≢ integer (pos n)
zero_is_none zero range e = absurd (omega (arith, range.0))
zero_is_none (suc n) range e = absurd cc

pub range : Says range_text (Err (fails.Range keys.Load))
unfolding all_listed
range = record {
  top = range_top;
  document = range_document;
  known = none_strange range_top refl;
  fault = (integer (pos 0), refl, zero_is_none);
  earlier = (keys.Const ∷ [], _, refl, All-from_recursion (HasCost range_top) (keys.Const ∷ []) ((1, inl (one_cycle, refl)), tt));
}

-- ---- what they don't say

pub no_dispatch : Says unit_text (Err (fails.Missing keys.Dispatch)) → ⊥
no_dispatch h = h.fault.0 refl

-- one answer and another
apart : (bytes : List ℕ) (a b : Result Costs TargetFail) → Says bytes a → Says bytes b → (a ≡ b → ⊥) → (a ≡ Err fails.NoMemory → ⊥) → (b ≡ Err fails.NoMemory → ⊥) → ⊥
apart bytes a b h g not na nb =
    elim (says_one bytes a b h g) [
      | inl same ↦ not same
      | inr (inl none) ↦ na none
      | inr (inr none) ↦ nb none
    ]

dispatch_in : Result Costs TargetFail → ℕ
dispatch_in (Ok costs) = costs.dispatch
dispatch_in (Err fail) = 0

pub other_costs : Says dispatched_text (Ok unit_costs) → ⊥
unfolding dispatch_in
other_costs h =
    apart dispatched_text (Ok dispatched) (Ok unit_costs) dispatched-says h (λ e. let same : 7 ≡ 0 = ap dispatch_in e in omega (arith, same)) (λ e. absurd cc) (λ e. absurd cc)

first_in : Result Costs TargetFail → ℕ
first_in (Err (fails.Strange (c ∷ cs))) = c
first_in _ = 0

pub other_strange : Says strange_text (Err (fails.Strange (codes "b"))) → ⊥
unfolding first_in
other_strange h =
    apart strange_text (Err (fails.Strange (codes "a"))) (Err (fails.Strange (codes "b"))) strange h (λ e. let same : 97 ≡ 98 = ap first_in e in omega (arith, same)) (λ e. absurd cc) (λ e. absurd cc)

pub later_fault : Says missing_text (Err (fails.Range keys.Load)) → ⊥
later_fault h = apart missing_text (Err (fails.Missing keys.Const)) (Err (fails.Range keys.Load)) missing h (λ e. absurd cc) (λ e. absurd cc) (λ e. absurd cc)
