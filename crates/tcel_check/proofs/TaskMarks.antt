-- The marks of a task, from those of its parts.
use Rattle.std.proofs.Common.{◌≡◌, ℕ, List, ◌++◌, Option, sym, append_assoc}
use Rattle.std.proofs.Math.Path.{fun_ext}
use Rattle.std.specs.Prelude.{flat_map}
use Rattle.tcel_tree.specs.declared.task.DeclKind.{DeclKind}
use Rattle.tcel_tree.specs.Language.{Task}
use Rattle.tcel_check.specs.declared.mark.Mark.{Mark}
use Rattle.tcel_check.specs.declared.walk.Walk.{Walk}
use Rattle.tcel_check.specs.Least.{Adds}
use Rattle.tcel_check.specs.Rows.{many_names, many_words, many_nodes, many_windows, twice_names, task_marks, task_sights, sight_marks}
use Rattle.tcel_check.specs.Sights.{head_sights, block_sights}
use Rattle.tcel_check.specs.Types.{kind_of}
use Rattle.tcel_check.specs.Walks.{Saw}
use Rattle.tcel_check.proofs.Counting.{saw_all}
use Rattle.tcel_check.proofs.Firsts.{Same, same_self, same_of, same_then, same_append, same_swap, adds_then, adds_same}
use Rattle.tcel_check.proofs.Walking.{saw_then}

same_forward : (a b c : List Mark) → Same (a ++ (b ++ c)) (b ++ (a ++ c))
same_forward a b c =
    same_then (same_of (sym (append_assoc a b c))) (same_then (same_append (same_swap a b) (same_self c)) (same_of (append_assoc b a c)))

module _ (t : Task) (kind : List ℕ → Option DeclKind) (known : (name : List ℕ) → kind name ≡ kind_of t.decls name) where
  declared_so : kind ≡ kind_of t.decls
  declared_so = fun_ext known

  pub saw_task : {a b c : Walk} → Saw kind a b (head_sights t) → Saw kind b c (block_sights t.body kind 0) → Saw (kind_of t.decls) a c (task_sights t)
  saw_task p q = rw declared_so at (saw_then p q)

  pub task_adds : {a b c d : Option Mark} {w : Walk} → Adds a b (many_names t) → Adds b c (many_words t) → Adds c d (twice_names t) →
      Saw (kind_of t.decls) (record { nodes = 4001; windows = 32; least = d }) w (task_sights t) → Adds a w.least (task_marks t)
  task_adds {d = d} names words twice saw =
      let walked : Adds d _ _ = saw_all (kind_of t.decls) d (task_sights t) in
      let others = flat_map (sight_marks (kind_of t.decls)) (task_sights t) in
      adds_then names (adds_then words
      (adds_same
      (same_then (same_forward (twice_names t) (many_nodes t) (many_windows t ++ others))
      (same_append (same_self (many_nodes t)) (same_forward (twice_names t) (many_windows t) others)))
      (adds_then twice (rw (← saw.state) at walked))))
