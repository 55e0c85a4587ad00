-- The number of a declared name is that of its variable, or within those of its ports.
use Rattle.std.proofs.Common.{◌≡◌, ℕ, suc, ◌+◌, ◌<◌, Bool, true, false, cond, List, [], ◌∷◌, length, map, filter, filter_map, Option, Some, None, ◌⊎◌, inl, inr, ⊎_elim, refl, sym, ap, ◌∙◌, subst, arith, slice_get}
use Rattle.std.specs.List.{position_or_len, cons_option}
use Rattle.tcel_core.specs.declared.var.Var.{Var}
use Rattle.tcel_core.specs.Frames.{is_state}
use Rattle.tcel_core.specs.Sound.{is_local}
use Rattle.tcel_core.specs.Typing as core
use Rattle.tcel_core.specs.Typing.{IsScalar, IsArray}
use Rattle.tcel_tree.specs.declared.task.Decl.{Decl}
use Rattle.tcel_tree.specs.declared.task.DeclKind.{DeclKind}
use Rattle.tcel_tree.specs.declared.task.DeclKind.TheVariants.{Input, Output, Int, Bool as bools, Array}
use Rattle.tcel_check.specs.Checked.{var_of, declared_var, vars_of, names_of_kind, number_of, numbered, keep_of}
use Rattle.tcel_check.specs.Rows.{same_decl}
use Rattle.tcel_check.specs.Types.{same_name, kind_of, scalar_type, is_array, named}
use Rattle.tcel_check.proofs.Lists.{In, in_left, in_right, in_either, in_filter, of_filter, in_filter_map, of_filter_map, From, Unlike, only_one}
use Rattle.tcel_check.proofs.SameNames.{name_equal, name_sym, name_self}

-- the declaration that tells of a name
pub record Told (ds : List Decl) (x : List ℕ) (kind : DeclKind) : Type 0 where
  pub decl : Decl
  pub member : In decl ds
  pub name : decl.name ≡ x
  pub is : decl.kind ≡ kind

pub told : (ds : List Decl) (x : List ℕ) (kind : DeclKind) → kind_of ds x ≡ Some kind → Told ds x kind
told [] x kind h = absurd_none h
  where
    absurd_none : None ≡ Some kind → Told [] x kind
    absurd_none h = cc
told (d ∷ ds) x kind h = by_same (same_name d.name x) refl h (told ds x kind)
  where
    by_same : (b : Bool) → same_name d.name x ≡ b → cond b (Some d.kind) (kind_of ds x) ≡ Some kind → (kind_of ds x ≡ Some kind → Told ds x kind) → Told (d ∷ ds) x kind
    by_same true same is rest = record { decl = d; member = inl refl; name = name_equal d.name x same; is = cc }
    by_same false same is rest =
        let t = rest is in record { decl = t.decl; member = inr t.member; name = t.name; is = t.is }

var_name : (x : List ℕ) (kind : DeclKind) (v : Var) → var_of x kind ≡ Some v → v.name ≡ Some x
var_name x Input v h = cc
var_name x Output v h = cc
var_name x (Int state first) v h = ap (λ (o : Option Var). name_in o) (sym h)
  where
    name_in : Option Var → Option (List ℕ)
    name_in None = None
    name_in (Some w) = w.name
var_name x (bools state first) v h = ap (λ (o : Option Var). name_in o) (sym h)
  where
    name_in : Option Var → Option (List ℕ)
    name_in None = None
    name_in (Some w) = w.name
var_name x (Array state size) v h = ap (λ (o : Option Var). name_in o) (sym h)
  where
    name_in : Option Var → Option (List ℕ)
    name_in None = None
    name_in (Some w) = w.name

-- its name
pub record Named (v : Var) : Type 0 where
  pub text : List ℕ
  pub is : v.name ≡ Some text

abbrev text_of : Var → Option (List ℕ)
text_of v = v.name

abbrev is_same : List ℕ → Option (List ℕ) → Bool
is_same x None = false
is_same x (Some y) = same_name x y

-- a variable with a name stands at the place of this name
var_at : (x : List ℕ) (v : Var) (vs : List Var) → In v vs → v.name ≡ Some x → ((w : Var) → In w vs → Named w) →
    ((w : Var) → In w vs → w.name ≡ Some x → w ≡ v) → slice_get vs (position_or_len (same_name x) (filter_map text_of vs)) ≡ Some v
var_at x v [] h is called only = elim h [ ]
var_at x v (w ∷ ws) h is called only =
    subst (λ (ns : List (List ℕ)). slice_get (w ∷ ws) (position_or_len (same_name x) ns) ≡ Some v) (sym (ap (λ o. cons_option o (filter_map text_of ws)) (called w (inl refl)).is))
    (by_same (called w (inl refl)).text (called w (inl refl)).is (same_name x (called w (inl refl)).text) refl h
    (λ there. var_at x v ws there is (λ u member. called u (inr member)) (λ u member same. only u (inr member) same)))
  where
    step : (ns : List (List ℕ)) → 1 + position_or_len (same_name x) ns ≡ suc (position_or_len (same_name x) ns)
    step ns = omega arith

    by_same : (text : List ℕ) → w.name ≡ Some text → (b : Bool) → same_name x text ≡ b → In v (w ∷ ws) →
        (In v ws → slice_get ws (position_or_len (same_name x) (filter_map text_of ws)) ≡ Some v) →
        slice_get (w ∷ ws) (position_or_len (same_name x) (text ∷ filter_map text_of ws)) ≡ Some v
    by_same text own true same there rest = rw same (ap Some (only w (inl refl) (own ∙ ap Some (sym (name_equal x text same)))))
    by_same text own false same (inl first) rest =
        let equal : Some text ≡ Some x = sym own ∙ ap text_of first ∙ is in
        let like : same_name x text ≡ true = ap (is_same x) equal ∙ name_self x in cc
    by_same text own false same (inr later) rest = rw (same, step (filter_map text_of ws)) (rest later)

kept_somewhere : (state : Bool) → (is_state (keep_of state) ≡ true) ⊎ (is_local (keep_of state) ≡ true)
kept_somewhere true = inl refl
kept_somewhere false = inr refl

abbrev Kept : Option Var → Type 0
Kept None = Unit {0}
Kept (Some v) = (is_state v.keep ≡ true) ⊎ (is_local v.keep ≡ true)

var_kept : (x : List ℕ) (kind : DeclKind) (v : Var) → var_of x kind ≡ Some v → (is_state v.keep ≡ true) ⊎ (is_local v.keep ≡ true)
var_kept x Input v h = cc
var_kept x Output v h = cc
var_kept x (Int state first) v h = subst (λ (o : Option Var). Kept o) h (kept_somewhere state)
var_kept x (bools state first) v h = subst (λ (o : Option Var). Kept o) h (kept_somewhere state)
var_kept x (Array state size) v h = subst (λ (o : Option Var). Kept o) h (kept_somewhere state)

module _ (ds : List Decl) (unlike : Unlike same_decl ds) where
  abbrev all_vars : List Var
  all_vars = filter_map declared_var ds

  var_in : (d : Decl) (v : Var) → In d ds → declared_var d ≡ Some v → In v (vars_of ds)
  var_in d v there is =
      let member : In v all_vars = in_filter_map declared_var d v ds there is in
      ⊎_elim (λ state. in_left v _ _ (in_filter (λ (w : Var). is_state w.keep) v all_vars member state))
      (λ local. in_right v (filter (λ (w : Var). is_state w.keep) all_vars) _ (in_filter (λ (w : Var). is_local w.keep) v all_vars member local))
      (var_kept d.name d.kind v is)

  pub var_from : (v : Var) → In v (vars_of ds) → From declared_var v ds
  var_from v there =
      of_filter_map declared_var v ds
      (⊎_elim (of_filter (λ (w : Var). is_state w.keep) v all_vars) (of_filter (λ (w : Var). is_local w.keep) v all_vars)
      (in_either v (filter (λ (w : Var). is_state w.keep) all_vars) (filter (λ (w : Var). is_local w.keep) all_vars) there))

  -- a declared variable stands at the number of its name
  var_found : (d : Decl) (v : Var) → In d ds → declared_var d ≡ Some v → slice_get (vars_of ds) (number_of (numbered ds).vars d.name) ≡ Some v
  var_found d v there is =
      var_at d.name v (vars_of ds) (var_in d v there is) (var_name d.name d.kind v is)
      (λ w member. let from = var_from w member in record { text = from.source.name; is = var_name from.source.name from.source.kind w from.is })
      (λ w member called.
      let from = var_from w member in
      let same : Some from.source.name ≡ Some d.name = sym (var_name from.source.name from.source.kind w from.is) ∙ called in
      let like : same_decl from.source d ≡ true = name_sym from.source.name d.name ∙ ap (is_same d.name) same ∙ name_self d.name in
      let one : from.source ≡ d = only_one same_decl (λ a b. name_sym a.name b.name) from.source d ds unlike from.member there like in
      some_equal (sym from.is ∙ ap declared_var one ∙ is))
    where
      some_equal : {v w : Var} → Some w ≡ Some v → w ≡ v
      some_equal h = cc

  module _ (x : List ℕ) (kind : DeclKind) (known : kind_of ds x ≡ Some kind) where
    t : Told ds x kind
    t = told ds x kind known

    found : (v : Var) → var_of x kind ≡ Some v → slice_get (vars_of ds) (number_of (numbered ds).vars x) ≡ Some v
    found v is = subst (λ (y : List ℕ). slice_get (vars_of ds) (number_of (numbered ds).vars y) ≡ Some v) t.name
        (var_found t.decl v t.member (ap (λ (y : List ℕ). var_of y t.decl.kind) t.name ∙ ap (var_of x) t.is ∙ is))

    pub scalar_found : (type : core.ValueType) → scalar_type kind ≡ Some (named type) → IsScalar (vars_of ds) (number_of (numbered ds).vars x) type
    scalar_found type is = by_kind kind type is found
      where
        by_kind : (k : DeclKind) (type : core.ValueType) → scalar_type k ≡ Some (named type) →
            ((v : Var) → var_of x k ≡ Some v → slice_get (vars_of ds) (number_of (numbered ds).vars x) ≡ Some v) →
            IsScalar (vars_of ds) (number_of (numbered ds).vars x) type
        by_kind Input type is at = cc
        by_kind Output type is at = cc
        by_kind (Int state first) core.int is at = (_, at _ refl, refl)
        by_kind (Int state first) core.bool is at = cc
        by_kind (bools state first) core.int is at = cc
        by_kind (bools state first) core.bool is at = (_, at _ refl, refl)
        by_kind (Array state size) type is at = cc

    pub array_found : is_array kind ≡ true → IsArray (vars_of ds) (number_of (numbered ds).vars x)
    array_found is = by_kind kind is found
      where
        by_kind : (k : DeclKind) → is_array k ≡ true → ((v : Var) → var_of x k ≡ Some v → slice_get (vars_of ds) (number_of (numbered ds).vars x) ≡ Some v) →
            IsArray (vars_of ds) (number_of (numbered ds).vars x)
        by_kind Input is at = cc
        by_kind Output is at = cc
        by_kind (Int state first) is at = cc
        by_kind (bools state first) is at = cc
        by_kind (Array state size) is at = (_, at _ refl, refl)

-- a name of a list is within it
within : (names : List (List ℕ)) (y : List ℕ) → In y names → number_of names y < length names
within [] y there = elim there [ ]
within (n ∷ names) y there = by_same (same_name y n) refl there (within names y)
  where
    by_same : (b : Bool) → same_name y n ≡ b → In y (n ∷ names) → (In y names → number_of names y < length names) → number_of (n ∷ names) y < length (n ∷ names)
    by_same true same h rest = rw same (omega arith)
    by_same false same (inl first) rest = let like : same_name y n ≡ true = ap (same_name y) first ∙ name_self y in cc
    by_same false same (inr later) rest = let less = rest later in rw same (omega arith)

name_in : (d : Decl) (ds : List Decl) → In d ds → In d.name (map (λ (e : Decl). e.name) ds)
name_in d [] h = elim h [ ]
name_in d (e ∷ ds) (inl h) = inl (ap (λ (x : Decl). x.name) h)
name_in d (e ∷ ds) (inr h) = inr (name_in d ds h)

-- a port is among those of its kind
pub port_found : (test : DeclKind → Bool) (ds : List Decl) (x : List ℕ) (kind : DeclKind) → kind_of ds x ≡ Some kind → test kind ≡ true →
    number_of (names_of_kind test ds) x < length (names_of_kind test ds)
port_found test ds x kind known is =
    let t = told ds x kind known in
    let there = name_in t.decl (filter (λ (d : Decl). test d.kind) ds) (in_filter (λ (d : Decl). test d.kind) t.decl ds t.member (ap test t.is ∙ is)) in
    within (names_of_kind test ds) x (subst (λ (y : List ℕ). In y (names_of_kind test ds)) t.name there)
