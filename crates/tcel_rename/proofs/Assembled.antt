-- The parts that the code puts together.
use Rattle.std.proofs.Common.{◌≡◌, ℕ, ◌+◌, ◌≤◌, Bool, true, false, cond, List, [], ◌∷◌, ◌++◌, map, length, refl, sym, ap, ◌∙◌, arith}
use Rattle.std.specs.Prelude.{filter}
use Rattle.std.proofs.lemmas.Bool.{cond-true}
use Rattle.tcel_core.specs.declared.body.CoreStmt.{CoreStmt}
use Rattle.tcel_core.specs.declared.var.Var.{Var}
use Rattle.tcel_core.specs.Contents.{loops, stmt_loops, act_loops}
use Rattle.tcel_core.specs.Kinds.{Slicing, is_fetched, is_kind_3}
use Rattle.tcel_core.specs.Language.{Block, done, next, joined, Stmt, item, choice, timed, Act, assign, assign_at, receive, send, for_loop, while_loop, copy}
use Rattle.tcel_core.specs.Limits.{nodes, stmt_nodes, act_nodes}
use Rattle.tcel_core.specs.Numbering.{numbers_from}
use Rattle.tcel_core.specs.Parts.{copies, copy_of, number_of, inside_number, fetches, first_of_block, rest_of_block, all_variables, TaskParts, parts_of}
use Rattle.tcel_core.specs.Paths.{Point}
use Rattle.tcel_parts.proofs.Hits.{and_both}
use Rattle.tcel_rename.specs.declared.numbers.Numbers.{Numbers}
use Rattle.tcel_rename.specs.declared.sets.Sets.{Sets}
use Rattle.tcel_rename.specs.Halves.{stmts_of, Adds, AreHalves, AreWithin, IsPlan}
use Rattle.tcel_rename.specs.Renaming.{number_in}
use Rattle.tcel_rename.proofs.Growing.{adds_as, adds_then, below_more, paired, stmts-append}

abbrev parts : Block → Block → List Var → ℕ → TaskParts
parts a b vars words = record { first = a; rest = b; vars = vars; words = words }

module _ (s : Slicing) (sets : Sets) (numbers : Numbers) (plan : IsPlan s sets numbers) where
  abbrev fetch : ℕ → ℕ × ℕ
  fetch v = (v, number_of s (copy_of v))

  kind_of_fetched : (v : ℕ) → is_fetched s v ≡ true → is_kind_3 s v ≡ true
  kind_of_fetched v h = (and_both _ _ h).0

  copied_number : (v : ℕ) → is_kind_3 s v ≡ true → inside_number s v ≡ number_of s (copy_of v)
  copied_number v h = cond-true _ _ _ h

  pub fetch_more : (v place : ℕ) (so : Bool) (x y z : List CoreStmt) → so ≡ is_fetched s v → place ≡ number_in numbers.inside v →
      Adds x y (copies (map fetch (filter (is_fetched s) (numbers_from 0 v)))) → Adds y z (copies (cond so ((v, place) ∷ []) [])) → Adds x z (copies (map fetch (filter (is_fetched s) (numbers_from 0 (v + 1)))))
  fetch_more v place so x y z e f g h =
      adds_as x z (joined (copies (map fetch (filter (is_fetched s) (numbers_from 0 v)))) (copies (cond (is_fetched s v) (fetch v ∷ []) []))) _ (sym (below_more (is_fetched s) fetch v))
      (adds_then x y z (copies (map fetch (filter (is_fetched s) (numbers_from 0 v)))) (copies (cond (is_fetched s v) (fetch v ∷ []) []))
      g (adds_as y z (copies (cond so ((v, place) ∷ []) [])) _ (ap (λ b. copies (cond b ((v, place) ∷ []) [])) e ∙ same_pair (is_fetched s v) refl) h))
    where
      same_pair : (b : Bool) → is_fetched s v ≡ b → copies (cond b ((v, place) ∷ []) []) ≡ copies (cond b ((v, number_of s (copy_of v)) ∷ []) [])
      same_pair true i =
          ap (λ (r : ℕ × ℕ). copies (r ∷ []))
          (paired v v place (number_of s (copy_of v)) refl (f ∙ (plan.numbers.inside v ∙ copied_number v (kind_of_fetched v i))))
      same_pair false i = refl

  pub fetches_all : (v : ℕ) (stmts : List CoreStmt) → v ≡ length numbers.inside → Adds [] stmts (copies (map fetch (filter (is_fetched s) (numbers_from 0 v)))) → stmts_of stmts ≡ fetches s
  fetches_all v stmts end h = h.added ∙ ap (λ n. copies (map fetch (filter (is_fetched s) (numbers_from 0 n)))) (end ∙ plan.numbers.count)

  pub all_parts : (fetched first rest : List CoreStmt) (vars : List Var) (words : ℕ) → stmts_of fetched ≡ fetches s → AreHalves s s.body first rest →
      vars ≡ all_variables s → words ≡ (parts_of s).words → parts (stmts_of (fetched ++ first)) (stmts_of rest) vars words ≡ parts_of s
  all_parts fetched first rest vars words g h i j =
      ap (λ x. parts x (stmts_of rest) vars words) (stmts-append fetched first ∙ (ap (λ x. joined x (stmts_of first)) g ∙ ap (joined (fetches s)) h.first_is))
      ∙ (ap (λ x. parts (joined (fetches s) (first_of_block s s.body)) x vars words) h.rest_is
      ∙ (ap (λ x. parts (joined (fetches s) (first_of_block s s.body)) (rest_of_block s s.body) x words) i ∙ ap (λ x. parts (joined (fetches s) (first_of_block s s.body)) (rest_of_block s s.body) (all_variables s) x) j))

-- ---- loops

mutual
  pub few_loops : (b : Block) → loops b ≤ nodes b
  few_loops done = omega arith
  few_loops (next t rest) = let a = few_stmt_loops t in let b = few_loops rest in omega arith

  few_stmt_loops : (t : Stmt) → stmt_loops t ≤ stmt_nodes t
  few_stmt_loops (item n act) = let a = few_act_loops act in omega arith
  few_stmt_loops (choice n test held other) = let a = few_loops held in let b = few_loops other in omega arith
  few_stmt_loops (timed n window body) = let a = few_loops body in omega arith

  few_act_loops : (act : Act) → act_loops act ≤ 1 + act_nodes act
  few_act_loops (assign v e) = omega arith
  few_act_loops (assign_at v i e) = omega arith
  few_act_loops (receive v port) = omega arith
  few_act_loops (send e port) = omega arith
  few_act_loops (for_loop v n body) = let a = few_loops body in omega arith
  few_act_loops (while_loop test n body) = let a = few_loops body in omega arith
  few_act_loops (copy from to) = omega arith

pub within_all : (ps : List Point) → AreWithin ps ps
within_all ps = record { passed = λ such e. e }
