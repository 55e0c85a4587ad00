-- How many loops stand in front of the items of a source, as numbers that are looked up.
use Rattle.std.specs.Prelude.{◌≡◌, ℕ, ◌+◌, List, [], ◌∷◌}
use Rattle.tcel_core.specs.declared.body.Body.{Body}
use Rattle.tcel_core.specs.Contents.{Looped, item_loops, loops}
use Rattle.tcel_core.specs.Numbering.{IsNumbered}
use Rattle.tcel_core.specs.Plain.{plain_body}
use Rattle.tcel_gen.specs.declared.firsts.Firsts.TheInside.{Inside}

-- how many loops stand in front of each item, where so many stand in front of all
abbrev pub fronts : ℕ → List Looped → List ℕ
fronts before [] = []
fronts before (i ∷ items) = before ∷ fronts (before + i.loops) items

abbrev pub source_of : Inside → Body
source_of a = a.source.now

-- by the numbers of the items, which are in order, and behind them the loops of all
pub record AreFirsts (a : Inside) : Type 0 where
  pub numbered : IsNumbered (plain_body a.source.now)
  pub fronts : a.fronts ≡ fronts 0 (item_loops (plain_body a.source.now))
  pub all : a.all ≡ loops (plain_body a.source.now)
