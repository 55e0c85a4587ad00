-- Expressions over the words of the variables, beside words that stand behind those.
use Rattle.std.proofs.Common.{◌≡◌, ℕ, zero, suc, ◌+◌, ◌≤◌, ℤ, pos, List, [], ◌∷◌, ◌++◌, length, refl, ap, ◌∙◌, arith}
use Rattle.std.proofs.lemmas.List.{get_or_append_left}
use Rattle.tcel_num.specs.Arithmetic.{unary_value, binary_value}
use Rattle.tcel_num.proofs.Words.{element_front}
use Rattle.tcel_core.specs.declared.var.Var.{Var}
use Rattle.tcel_core.specs.Cells.{all_words, place, width, element_at}
use Rattle.tcel_core.specs.Language.{Expr, number, variable, element, unary, binary}
use Rattle.tcel_core.specs.Meaning.{value}
use Rattle.tcel_core.specs.Scope.{IsInScope}

-- an array's words are among all words
pub array_within : (vars : List Var) (v : ℕ) → place vars v + width vars v ≤ all_words vars
array_within [] zero = omega arith
array_within [] (suc v) = omega arith
array_within (x ∷ vars) zero = omega arith
array_within (x ∷ vars) (suc v) = let rest = array_within vars v in omega arith

-- words behind those of the variables don't change a value
pub value_front : (e : Expr) (vars : List Var) (cells others : List ℤ) → IsInScope vars e → length cells ≡ all_words vars → value e vars (cells ++ others) ≡ value e vars cells
value_front (number n) vars cells others scope long = refl
value_front (variable v) vars cells others scope long = get_or_append_left cells others (pos 0) (place vars v) (omega arith)
value_front (element v i) vars cells others scope long =
    let within = array_within vars v in
    ap (element_at vars (cells ++ others) v) (value_front i vars cells others scope long)
    ∙ element_front cells others (place vars v) (width vars v) (value i vars cells) (omega arith)
value_front (unary op e) vars cells others scope long = ap (unary_value op) (value_front e vars cells others scope long)
value_front (binary op a b) vars cells others scope long =
    ap (λ x. binary_value op x (value b vars (cells ++ others))) (value_front a vars cells others scope.0 long)
    ∙ ap (binary_value op (value a vars cells)) (value_front b vars cells others scope.1 long)
