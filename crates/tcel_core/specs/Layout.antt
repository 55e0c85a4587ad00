-- Where the words of variables begin, as numbers that are looked up.
use Rattle.std.specs.Prelude.{◌≡◌, ℕ, ◌≤◌, List, length, slice_index}
use Rattle.tcel_core.specs.declared.layout.Layout.TheInside.{Inside}
use Rattle.tcel_core.specs.declared.var.Var.{Var}
use Rattle.tcel_core.specs.Cells.{place}

abbrev pub variables_of : Inside → List Var
variables_of a = a.vars.now

pub record IsLaidOut (a : Inside) : Type 0 where
  pub few : length a.vars.now ≤ 256
  pub size : length a.places ≡ 257
  pub each : (v : ℕ) → v ≤ 256 → slice_index a.places v ≡ place a.vars.now v
