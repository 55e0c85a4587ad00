-- Bodies on which the rules of slicing are worked out.
use Rattle.std.specs.Prelude.{ℕ, pos, Bool, ◌==◌, List, [], ◌∷◌, ◌++◌, map, filter, flat_map, Some, None, codes}
use Rattle.std.specs.List.{list_any}
use Rattle.tcel_num.specs.declared.op.Op.TheVariants.{Greater, Less}
use Rattle.tcel_core.specs.declared.var.Keep.{Keep}
use Rattle.tcel_core.specs.declared.var.Var.{Var}
use Rattle.tcel_core.specs.declared.var.VarKind.{VarKind}
use Rattle.tcel_core.specs.Examples.{array_var, int_var, one, plus, window}
use Rattle.tcel_core.specs.Kept.{Use, by_item, by_test, reaches, stands_around}
use Rattle.tcel_core.specs.Kinds.{Slicing, is_live}
use Rattle.tcel_core.specs.Language.{number, variable, element, binary, Block, done, next, item, choice, timed, assign, assign_at, receive, send, for_loop, copy, Task}
use Rattle.tcel_core.specs.Numbering.{numbers_from}

-- whether the number is one of these
abbrev pub is_one_of : List ℕ → ℕ → Bool
is_one_of ns n = list_any (λ m. m == n) ns

-- a part's variable, without a name
abbrev pub added_var : VarKind → Var
added_var kind = record { name = None; kind = kind; keep = Keep.Temp; first = pos 0 }

-- ---- an `if` of which a branch is left for the rest

-- states n and y and a local x
abbrev pub branch_vars : List Var
branch_vars = int_var (codes "n") Keep.State ∷ int_var (codes "y") Keep.State ∷ int_var (codes "x") Keep.Local ∷ []

-- receive x from s; if x > 0 { y := x; send y to o; } else { y := 5; n := n + y; } y := 7; send y to o;
abbrev pub branch_body : Block
branch_body =
    next (item 0 (receive 2 0))
    (next
    (choice 0 (binary Greater (variable 2) (number (pos 0)))
    (next (item 1 (assign 1 (variable 2))) (next (item 2 (send (variable 1) 0)) done))
    (next (item 3 (assign 1 (number (pos 5)))) (next (item 4 (assign 0 (plus 0 (variable 1)))) done)))
    (next (item 5 (assign 1 (number (pos 7)))) (next (item 6 (send (variable 1) 0)) done)))

-- with all items but 3 and 4 kept
abbrev pub branch : Slicing
branch = record { vars = branch_vars; body = branch_body; kept = is_one_of (0 ∷ 1 ∷ 2 ∷ 5 ∷ 6 ∷ []) }

-- the task of this body
abbrev pub branch_task : Task
branch_task =
    record {
      name = codes "t";
      priority = 1;
      period = 30;
      deadline = 30;
      vars = branch_vars;
      inputs = codes "s" ∷ [];
      outputs = codes "o" ∷ [];
      body = branch_body;
    }

-- items 0 to 6 and test 0
abbrev pub branch_users : List Use
branch_users = map by_item (numbers_from 0 7) ++ (by_test 0 ∷ [])

-- who reaches whom for which variable
abbrev pub reaching : Block → List ℕ → List Use → List ℕ → List (ℕ × Use × ℕ)
reaching body items users vars =
    flat_map (λ from. flat_map (λ user. map (λ v. (from, user, v)) (filter (λ v. reaches body from user v) vars)) users) items

-- around which items a test stands
abbrev pub standing_around : Block → ℕ → List ℕ → List ℕ
standing_around body test items = filter (λ n. stands_around body n test) items

-- each item with the variables for which it is live
abbrev pub live : Slicing → List ℕ → List ℕ → List (ℕ × List ℕ)
live s items vars = map (λ n. (n, filter (is_live s n) vars)) items

-- its first part, over n, y, x, y's copy 3, what is saved behind item 5, and the test's truth:
-- receive x from s; t := x > 0; if t { y' := x; send y' to o; } y' := 7; saved := y'; send y' to o;
abbrev pub branch_first : Block
branch_first =
    next (item 0 (receive 2 0))
    (next (item 0 (assign 5 (binary Greater (variable 2) (number (pos 0)))))
    (next (choice 0 (variable 5) (next (item 1 (assign 3 (variable 2))) (next (item 2 (send (variable 3) 0)) done)) done)
    (next (item 5 (assign 3 (number (pos 7)))) (next (item 0 (copy 3 4)) (next (item 6 (send (variable 3) 0)) done)))))

-- if t { } else { y := 5; n := n + y; } y := saved;
abbrev pub branch_rest : Block
branch_rest =
    next
    (choice 0 (variable 5) done (next (item 3 (assign 1 (number (pos 5)))) (next (item 4 (assign 0 (plus 0 (variable 1)))) done)))
    (next (item 0 (copy 4 1)) done)

-- ---- a value that the rest reads before the first part changes it

-- a state n and x, kept so
abbrev pub step_vars : Keep → List Var
step_vars keep = int_var (codes "n") Keep.State ∷ int_var (codes "x") keep ∷ []

-- receive x from s; n := n + x; x := x + 1; send x to o;
abbrev pub step_body : Block
step_body =
    next (item 0 (receive 1 0))
    (next (item 1 (assign 0 (plus 0 (variable 1)))) (next (item 2 (assign 1 (plus 1 one))) (next (item 3 (send (variable 1) 0)) done)))

-- with all items but 1 kept
abbrev pub step : Keep → Slicing
step keep = record { vars = step_vars keep; body = step_body; kept = is_one_of (0 ∷ 2 ∷ 3 ∷ []) }

-- receive x' from s; saved := x'; x' := x' + 1; send x' to o;
abbrev pub step_first : Block
step_first =
    next (item 0 (receive 2 0))
    (next (item 0 (copy 2 3)) (next (item 2 (assign 2 (plus 2 one))) (next (item 3 (send (variable 2) 0)) done)))

-- x := saved; n := n + x;
abbrev pub step_rest : Block
step_rest = next (item 0 (copy 3 1)) (next (item 1 (assign 0 (plus 0 (variable 1)))) done)

-- ---- an array that is fetched, a loop and a block

-- an array state a of 2, states n and m, locals i and k
abbrev pub mixed_vars : List Var
mixed_vars =
    array_var (codes "a") Keep.State 2 ∷ int_var (codes "n") Keep.State ∷ int_var (codes "m") Keep.State
    ∷ int_var (codes "i") Keep.Local ∷ int_var (codes "k") Keep.Local ∷ []

-- m := a[0]; do start after 3 finish within 9 { a[1] := n; if k < 1 { m := 2; } send a[1] to o; } for i < 3 { n := n + 1; }
abbrev pub mixed_body : Block
mixed_body =
    next (item 0 (assign 2 (element 0 (number (pos 0)))))
    (next
    (timed 1 (window (Some 3) None (Some 9))
    (next (item 1 (assign_at 0 one (variable 1)))
    (next (choice 0 (binary Less (variable 4) one) (next (item 2 (assign 2 (number (pos 2)))) done) done)
    (next (item 3 (send (element 0 one) 0)) done))))
    (next (item 4 (for_loop 3 3 (next (item 0 (assign 1 (plus 1 one))) done))) done))

-- with items 1 and 3 kept
abbrev pub mixed : Slicing
mixed = record { vars = mixed_vars; body = mixed_body; kept = is_one_of (1 ∷ 3 ∷ []) }

-- over the variables, a's copy 5 and what is saved behind item 1:
-- a' := a; do start after 3 finish within 9 { a'[1] := n; saved := a'; send a'[1] to o; }
abbrev pub mixed_first : Block
mixed_first =
    next (item 0 (copy 0 5))
    (next
    (timed 1 (window (Some 3) None (Some 9))
    (next (item 1 (assign_at 5 one (variable 1)))
    (next (item 0 (copy 5 6)) (next (item 3 (send (element 5 one) 0)) done))))
    done)

-- m := a[0]; a := saved; if k < 1 { m := 2; } for i < 3 { n := n + 1; }
abbrev pub mixed_rest : Block
mixed_rest =
    next (item 0 (assign 2 (element 0 (number (pos 0)))))
    (next (item 0 (copy 6 0))
    (next (choice 0 (binary Less (variable 4) one) (next (item 2 (assign 2 (number (pos 2)))) done) done)
    (next (item 4 (for_loop 3 3 (next (item 0 (assign 1 (plus 1 one))) done))) done)))
