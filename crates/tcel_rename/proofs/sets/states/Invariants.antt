use Rattle.std.proofs.Common.{◌≡◌, ℕ, ◌<◌, ◌≤◌, false}
use Rattle.tcel_core.specs.Kinds.{is_state_variable}
use Rattle.tcel_core.specs.Rows.{stands_in}
use Rattle.tcel_rename.proofs.sets.states.Given as goal

abbrev pub invariant-loop-i : goal.invariant-loop-i
invariant-loop-i l =
    record {
      before : (v : ℕ) → v < 256 → v < l.i → stands_in l.row v ≡ is_state_variable l.vars v;
      behind : (v : ℕ) → v < 256 → l.i ≤ v → stands_in l.row v ≡ false;
    }
