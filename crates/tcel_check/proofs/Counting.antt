-- What a walk keeps is the first of all marks of the sights that it saw.
use Rattle.std.proofs.Common.{◌≡◌, ℕ, zero, suc, ◌-◌, false, List, [], ◌∷◌, ◌++◌, Option, refl, sym, ap, arith, append_assoc, ◌==◌}
use Rattle.std.specs.Prelude.{flat_map}
use Rattle.std.specs.List.{fold}
use Rattle.std.proofs.lemmas.Bool.Decides.{nat_tests}
use Rattle.std.proofs.lemmas.List.{append-nil}
use Rattle.tcel_num.specs.declared.at.At.{At}
use Rattle.tcel_tree.specs.declared.task.DeclKind.{DeclKind}
use Rattle.tcel_check.specs.declared.fail.LimitKind.{LimitKind}
use Rattle.tcel_check.specs.declared.fail.LimitKind.TheVariants.{Nodes, Windows}
use Rattle.tcel_check.specs.declared.mark.Mark.{Mark}
use Rattle.tcel_check.specs.declared.walk.Walk.{Walk}
use Rattle.tcel_check.specs.Least.{Adds}
use Rattle.tcel_check.specs.Rows.{past, node_places, window_places, sight_marks}
use Rattle.tcel_check.specs.Sights.{Sight, node, literal, value, name, window, loop, bound}
use Rattle.tcel_check.specs.Walks.{behind, counted, last, nodes_behind, windows_behind}
use Rattle.tcel_check.proofs.Firsts.{Same, same_self, same_of, same_then, same_append, same_middle, adds_all, adds_then, adds_none, adds_same}

-- where the last of so many may come
abbrev past_left : LimitKind → ℕ → List At → List Mark
past_left kind zero places = []
past_left kind (suc n) places = past kind n places

past_left_none : (kind : LimitKind) (left : ℕ) → past_left kind left [] ≡ []
past_left_none kind zero = refl
past_left_none kind (suc n) = refl

past_left_more : (kind : LimitKind) (left : ℕ) (at : At) (places : List At) → last kind left at ++ past_left kind (left - 1) places ≡ past_left kind left (at ∷ places)
past_left_more kind zero at places = refl
past_left_more kind (suc zero) at places = refl
past_left_more kind (suc (suc n)) at places =
    let more : (suc (suc n) == 1) ≡ false = grind (arith, nat_tests) in
    let less : suc (suc n) - 1 ≡ suc n = omega arith in
    rw (more, less) refl

abbrev node_part : ℕ → Sight → List Mark
node_part left (node at) = last Nodes left at
node_part left _ = []

abbrev window_part : ℕ → Sight → List Mark
window_part left (window at loops) = last Windows left at
window_part left _ = []

counted_parts : (w : Walk) (s : Sight) → counted w s ≡ node_part w.nodes s ++ window_part w.windows s
counted_parts w (node at) = sym (append-nil (last Nodes w.nodes at))
counted_parts w (literal at n wanted) = refl
counted_parts w (value at given wanted) = refl
counted_parts w (name at x purpose) = refl
counted_parts w (window at loops) = refl
counted_parts w (loop at loops) = refl
counted_parts w (bound n most) = refl

node_step : (left : ℕ) (s : Sight) (places : List At) → node_part left s ++ past_left Nodes (nodes_behind left s) places ≡ past_left Nodes left (node_places s ++ places)
node_step left (node at) places = past_left_more Nodes left at places
node_step left (literal at n wanted) places = refl
node_step left (value at given wanted) places = refl
node_step left (name at x purpose) places = refl
node_step left (window at loops) places = refl
node_step left (loop at loops) places = refl
node_step left (bound n most) places = refl

window_step : (left : ℕ) (s : Sight) (places : List At) → window_part left s ++ past_left Windows (windows_behind left s) places ≡ past_left Windows left (window_places s ++ places)
window_step left (node at) places = refl
window_step left (literal at n wanted) places = refl
window_step left (value at given wanted) places = refl
window_step left (name at x purpose) places = refl
window_step left (window at loops) places = past_left_more Windows left at places
window_step left (loop at loops) places = refl
window_step left (bound n most) places = refl

module _ (kind : List ℕ → Option DeclKind) where
  abbrev walk_marks : Walk → List Sight → List Mark
  walk_marks w [] = []
  walk_marks w (s ∷ ss) = (counted w s ++ sight_marks kind s) ++ walk_marks (behind kind w s) ss

  walk_adds : (ss : List Sight) (w : Walk) → Adds w.least ((fold (behind kind) w ss).least) (walk_marks w ss)
  walk_adds [] w = adds_none w.least
  walk_adds (s ∷ ss) w = adds_then (adds_all w.least (counted w s ++ sight_marks kind s)) (walk_adds ss (behind kind w s))

  abbrev rows : ℕ → ℕ → List Sight → List Mark
  rows nodes windows ss =
      past_left Nodes nodes (flat_map node_places ss)
      ++ (past_left Windows windows (flat_map window_places ss) ++ flat_map (sight_marks kind) ss)

  sorted : (a b c p q r : List Mark) → Same (((a ++ b) ++ c) ++ (p ++ (q ++ r))) ((a ++ p) ++ ((b ++ q) ++ (c ++ r)))
  sorted a b c p q r =
      same_then (same_of (ap (λ xs. xs ++ (p ++ (q ++ r))) (append_assoc a b c)))
      (same_then (same_middle a (b ++ c) p (q ++ r)) (same_append (same_self (a ++ p)) (same_middle b c q r)))

  walk_same : (ss : List Sight) (w : Walk) → Same (walk_marks w ss) (rows w.nodes w.windows ss)
  walk_same [] w = same_of (rw (past_left_none Nodes w.nodes, past_left_none Windows w.windows) refl)
  walk_same (s ∷ ss) w =
      let next = behind kind w s in
      same_then (same_append (same_of (ap (λ xs. xs ++ sight_marks kind s) (counted_parts w s))) (walk_same ss next))
      (same_then
      (sorted (node_part w.nodes s) (window_part w.windows s) (sight_marks kind s)
      (past_left Nodes next.nodes (flat_map node_places ss)) (past_left Windows next.windows (flat_map window_places ss)) (flat_map (sight_marks kind) ss))
      (same_append (same_of (node_step w.nodes s (flat_map node_places ss)))
      (same_append (same_of (window_step w.windows s (flat_map window_places ss))) (same_self (sight_marks kind s ++ flat_map (sight_marks kind) ss)))))

  -- from no sight on, at the limits of a task
  pub saw_all : (least : Option Mark) (ss : List Sight) →
      Adds least ((fold (behind kind) (record { nodes = 4001; windows = 32; least = least }) ss).least)
      (past Nodes 4000 (flat_map node_places ss) ++ (past Windows 31 (flat_map window_places ss) ++ flat_map (sight_marks kind) ss))
  saw_all least ss =
      let w : Walk = record { nodes = 4001; windows = 32; least = least } in
      adds_same (walk_same ss w) (walk_adds ss w)
