-- How far the puts of a sink reach: the greatest sum, over the puts so far, of the bytes taken before a put and the length of its piece.
use Rattle.std.specs.Prelude.{◌≡◌, ℕ, ◌+◌, ◌≤◌, max, List, [], ◌∷◌, ◌++◌, length, Option, Some, None, IfSome}
use Rattle.std.proofs.Common.{arith, length-append, ap}
use Rattle.tcel_io.specs.Taken.{Takes}
use Rattle.tcel_io.specs.Told.{StaysTold}

-- the reach after a put of this piece, where so many bytes had been taken
abbrev pub reach_after : List ℕ → ℕ → ℕ → ℕ
reach_after [] taken reach = reach
reach_after (byte ∷ bytes) taken reach = max reach (taken + length (byte ∷ bytes))

-- a put of this piece, from the bytes taken before it, gives this reach
pub record Reaches (piece : List ℕ) (taken : Option (List ℕ)) (old new : Option ℕ) : Type 0 where
  pub told : IfSome taken (λ bytes. StaysTold (λ before after. after ≡ reach_after piece (length bytes) before) old new)

-- a call, from the bytes taken at its start, reached no further than this text
pub record ReachesWithin (text : List ℕ) (taken : Option (List ℕ)) (old new : Option ℕ) : Type 0 where
  pub told : IfSome taken (λ bytes. StaysTold (λ before after. after ≤ max before (length bytes + length text)) old new)

-- nothing put reaches no further
pub ReachesWithin-none : (taken : Option (List ℕ)) (reach : Option ℕ) → ReachesWithin [] taken reach reach
ReachesWithin-none None reach = record { told = tt }
ReachesWithin-none (Some taken) None = record { told = tt }
ReachesWithin-none (Some taken) (Some reach) = record { told = omega arith }

reach_after-le : (piece : List ℕ) (taken reach : ℕ) → reach_after piece taken reach ≤ max reach (taken + length piece)
reach_after-le [] taken reach = omega arith
reach_after-le (byte ∷ bytes) taken reach = omega arith

-- a put reaches no further than its piece
pub ReachesWithin-put : (piece : List ℕ) (taken : Option (List ℕ)) (old new : Option ℕ) → Reaches piece taken old new → ReachesWithin piece taken old new
ReachesWithin-put piece None old new reached = record { told = tt }
ReachesWithin-put piece (Some taken) None new reached = record { told = tt }
ReachesWithin-put piece (Some taken) (Some x) None reached = absurd reached.told
ReachesWithin-put piece (Some taken) (Some x) (Some y) reached = record { told = omega (arith, reached.told, reach_after-le piece (length taken) x) }

-- a text and then another reach no further than the two together
pub ReachesWithin-append : (first second : List ℕ) (start middle : Option (List ℕ)) (old between new : Option ℕ)
    → Takes first start middle → ReachesWithin first start old between → ReachesWithin second middle between new → ReachesWithin (first ++ second) start old new
ReachesWithin-append first second None middle old between new taken before after = record { told = tt }
ReachesWithin-append first second (Some x) None old between new taken before after = absurd taken
ReachesWithin-append first second (Some x) (Some y) None between new taken before after = record { told = tt }
ReachesWithin-append first second (Some x) (Some y) (Some r) None new taken before after = absurd before.told
ReachesWithin-append first second (Some x) (Some y) (Some r) (Some s) None taken before after = absurd after.told
ReachesWithin-append first second (Some x) (Some y) (Some r) (Some s) (Some t) taken before after =
    record { told = omega (arith, before.told, after.told, ap length taken, length-append x first, length-append first second) }

-- what lies within a text lies within a longer one
pub ReachesWithin-more : (text more : List ℕ) (taken : Option (List ℕ)) (old new : Option ℕ) → ReachesWithin text taken old new → ReachesWithin (text ++ more) taken old new
ReachesWithin-more text more None old new within = record { told = tt }
ReachesWithin-more text more (Some taken) None new within = record { told = tt }
ReachesWithin-more text more (Some taken) (Some x) None within = absurd within.told
ReachesWithin-more text more (Some taken) (Some x) (Some y) within = record { told = omega (arith, within.told, length-append text more) }
