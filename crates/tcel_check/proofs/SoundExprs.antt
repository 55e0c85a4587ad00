-- Expressions without faults have the types that are wanted of them.
use Rattle.std.proofs.Common.{◌≡◌, ℕ, ◌+◌, ℤ, pos, Bool, true, false, List, ◌∷◌, ◌++◌, length, Option, Some, None, ◌⊎◌, inl, inr, refl, ap, ◌∙◌, arith, length-append}
use Rattle.std.specs.Prelude.{flat_map, FitsSigned}
use Rattle.std.specs.Int.{w64}
use Rattle.std.specs.List.{AllByRecursion}
use Rattle.std.proofs.lemmas.Grind.{flat_map-append}
use Rattle.tcel_num.specs.declared.at.At.{At}
use Rattle.tcel_num.specs.Arithmetic.{truth as truth_number}
use Rattle.tcel_core.specs.Typing as core
use Rattle.tcel_core.specs.Typing.{HasType, operand_type, result_type}
use Rattle.tcel_core.specs.Limits as limits
use Rattle.tcel_tree.specs.declared.task.Decl.{Decl}
use Rattle.tcel_tree.specs.Language.{Expr, number, truth, variable, element, unary, binary}
use Rattle.tcel_check.specs.declared.purpose.Purpose.TheVariants.{Scalar, Element}
use Rattle.tcel_check.specs.declared.value_type.ValueType.{ValueType}
use Rattle.tcel_check.specs.Answers.{HaveOperands, operators}
use Rattle.tcel_check.specs.Checked.{Numbered, core_expr, numbered, vars_of}
use Rattle.tcel_check.specs.Rows.{has_type, node_places, same_decl}
use Rattle.tcel_check.specs.Sights.{Sight, node, literal, value, expr_sights}
use Rattle.tcel_check.specs.Types.{kind_of, is_wanted, named, scalar_type}
use Rattle.tcel_check.proofs.Clean.{IsClean, clean_value, clean_literal, clean_name, same_type}
use Rattle.tcel_check.proofs.Lists.{Unlike, all_left, all_right}
use Rattle.tcel_check.proofs.NumberedNames.{scalar_found, array_found}

pub truth_fits : (b : Bool) → (truth_number b ≡ pos 0) ⊎ (truth_number b ≡ pos 1)
truth_fits true = inr refl
truth_fits false = inl refl

pub scalar_wanted : (given : Option ValueType) (type : core.ValueType) → has_type given (Some (named type)) ≡ true → given ≡ Some (named type)
scalar_wanted None type h = cc
scalar_wanted (Some ValueType.Int) core.int h = refl
scalar_wanted (Some ValueType.Int) core.bool h = cc
scalar_wanted (Some ValueType.Bool) core.int h = cc
scalar_wanted (Some ValueType.Bool) core.bool h = refl

-- a sight without a fault, where these are the declarations
abbrev pub Clean : List Decl → Sight → Type 0
Clean ds = IsClean (kind_of ds)

module _ (ds : List Decl) (unlike : Unlike same_decl ds) where
  literal_fits : (at : At) (n : ℤ) (wanted : Option ValueType) → Clean ds (literal at n wanted) → FitsSigned w64 n
  literal_fits at n wanted h = h.1

  number_typed : (n : ℤ) (type : core.ValueType) → FitsSigned w64 n → is_wanted ValueType.Int (Some (named type)) ≡ true → core.IsNumberOf type n
  number_typed n core.int fits h = fits
  number_typed n core.bool fits h = cc

  truth_typed : (b : Bool) (type : core.ValueType) → is_wanted ValueType.Bool (Some (named type)) ≡ true → core.IsNumberOf type (truth_number b)
  truth_typed b core.int h = cc
  truth_typed b core.bool h = truth_fits b

  pub expr_typed : (e : Expr) (type : core.ValueType) → AllByRecursion (Clean ds) (expr_sights e (Some (named type))) → HaveOperands e →
      HasType (vars_of ds) (core_expr e (numbered ds)) type
  expr_typed (number at n) type h operands = number_typed n type (literal_fits at n (Some (named type)) h.1.0) (clean_literal (kind_of ds) at n (Some (named type)) h.1.0)
  expr_typed (truth at b) type h operands = truth_typed b type (clean_value (kind_of ds) at ValueType.Bool (Some (named type)) h.1.0)
  expr_typed (variable at x) type h operands =
      let right = clean_name (kind_of ds) at x (Scalar (Some (named type))) h.1.0 in
      scalar_found ds unlike x right.kind right.known type (scalar_wanted (scalar_type right.kind) type right.typed)
  expr_typed (element at x i) type h operands =
      let right = clean_name (kind_of ds) at x Element h.1.0 in (
        same_type core.int type (clean_value (kind_of ds) at ValueType.Int (Some (named type)) h.1.1.0),
        array_found ds unlike x right.kind right.known right.typed,
        expr_typed i core.int h.1.1.1 operands,
      )
  expr_typed (unary at op e) type h operands = (
    operands.0,
    same_type (result_type op) type (clean_value (kind_of ds) at (named (result_type op)) (Some (named type)) h.1.0),
    expr_typed e (operand_type op) h.1.1 operands.1,
  )
  expr_typed (binary at op a b) type h operands =
      let front = expr_sights a (Some (named (operand_type op))) in
      let back = node at ∷ value at (named (result_type op)) (Some (named type)) ∷ expr_sights b (Some (named (operand_type op))) in
      let rest = all_right (Clean ds) front back h in (
        operands.0,
        same_type (result_type op) type (clean_value (kind_of ds) at (named (result_type op)) (Some (named type)) rest.1.0),
        expr_typed a (operand_type op) (all_left (Clean ds) front back h) operands.1,
        expr_typed b (operand_type op) rest.1.1 operands.2,
      )

-- each node of an expression is a node of the core expression
abbrev pub node_count : List Sight → ℕ
node_count ss = length (flat_map node_places ss)

pub count_append : (xs ys : List Sight) → node_count (xs ++ ys) ≡ node_count xs + node_count ys
count_append xs ys = ap length (flat_map-append node_places xs ys) ∙ length-append (flat_map node_places xs) (flat_map node_places ys)

pub expr_nodes : (e : Expr) (wanted : Option ValueType) (names : Numbered) → limits.expr_nodes (core_expr e names) ≡ node_count (expr_sights e wanted)
expr_nodes (number at n) wanted names = refl
expr_nodes (truth at b) wanted names = refl
expr_nodes (variable at x) wanted names = refl
expr_nodes (element at x i) wanted names = let rest = expr_nodes i (Some ValueType.Int) names in omega arith
expr_nodes (unary at op e) wanted names = let rest = expr_nodes e (Some (named (operand_type op))) names in omega arith
expr_nodes (binary at op a b) wanted names =
    let left = expr_nodes a (Some (named (operand_type op))) names in
    let right = expr_nodes b (Some (named (operand_type op))) names in
    let all = count_append (expr_sights a (Some (named (operand_type op)))) (node at ∷ value at (named (result_type op)) wanted ∷ expr_sights b (Some (named (operand_type op)))) in
    omega arith

pub operators_kept : (e : Expr) (names : Numbered) → limits.operators (core_expr e names) ≡ operators e
operators_kept (number at n) names = refl
operators_kept (truth at b) names = refl
operators_kept (variable at x) names = refl
operators_kept (element at x i) names = operators_kept i names
operators_kept (unary at op e) names = ap (λ n. 1 + n) (operators_kept e names)
operators_kept (binary at op a b) names = rw (operators_kept a names, operators_kept b names) refl
