-- Pieces that are put one after another, up to the first fault.
use Rattle.std.specs.Prelude.{◌≡◌, ◌⊎◌, ℕ, ◌+◌, List, [], ◌∷◌, ◌++◌, length}
use Rattle.std.specs.List.{concat}
use Rattle.std.proofs.Common.{◌∙◌, refl, sym, subst, inl, inr, arith}
use Rattle.tcel_io.specs.Count.{PutsAtMost, PutsAtMost-append, PutsAtMost-more, PutsAtMost-none, PutsAtMost-put, Rose}
use Rattle.tcel_io.specs.Reach.{ReachesWithin, ReachesWithin-append, ReachesWithin-more, ReachesWithin-none, ReachesWithin-put}
use Rattle.tcel_io.specs.Seen.{IsCutOff, IsTaken, Seen}
use Rattle.tcel_io.specs.Taken.{Takes, Takes-none, Takes-append, TakesPrefix, TakesPrefix-all, TakesPrefix-append, TakesPrefix-more}

-- the pieces were put in turn, each by one put, and all were taken
abbrev pub AreTaken : List (List ℕ) → Seen → Seen → Type 0
AreTaken [] old new = new ≡ old
AreTaken (piece ∷ pieces) old new = (middle : Seen) × IsTaken piece old middle × AreTaken pieces middle new

-- they were put in turn up to the first fault, behind which nothing was put
abbrev pub AreCutOff : List (List ℕ) → Seen → Seen → Type 0
AreCutOff [] old new = ⊥
AreCutOff (piece ∷ pieces) old new = IsCutOff piece old new ⊎ ((middle : Seen) × IsTaken piece old middle × AreCutOff pieces middle new)

-- they were put in turn, up to the first fault if there was one
abbrev pub ArePut : List (List ℕ) → Seen → Seen → Type 0
ArePut pieces old new = AreTaken pieces old new ⊎ AreCutOff pieces old new

-- all of them together were taken
pub AreTaken-whole : (pieces : List (List ℕ)) (old new : Seen) → AreTaken pieces old new → Takes (concat pieces) old.taken new.taken
AreTaken-whole [] old new same = subst (λ (s : Seen). Takes [] old.taken s.taken) (sym same) (Takes-none old.taken)
AreTaken-whole (piece ∷ pieces) old new (middle, one, rest) =
    Takes-append piece (concat pieces) old.taken middle.taken new.taken one.whole (AreTaken-whole pieces middle new rest)

-- a prefix of them was taken
pub AreCutOff-prefix : (pieces : List (List ℕ)) (old new : Seen) → AreCutOff pieces old new → TakesPrefix (concat pieces) old.taken new.taken
AreCutOff-prefix [] old new none = absurd none
AreCutOff-prefix (piece ∷ pieces) old new (inl cut) = TakesPrefix-more piece (concat pieces) old.taken new.taken cut.part
AreCutOff-prefix (piece ∷ pieces) old new (inr (middle, one, rest)) =
    TakesPrefix-append piece (concat pieces) old.taken middle.taken new.taken one.whole (AreCutOff-prefix pieces middle new rest)

-- and a fault came
pub AreCutOff-fault : (pieces : List (List ℕ)) (old new : Seen) → AreCutOff pieces old new → Rose old.faults new.faults
AreCutOff-fault [] old new none = absurd none
AreCutOff-fault (piece ∷ pieces) old new (inl cut) = cut.fault
AreCutOff-fault (piece ∷ pieces) old new (inr (middle, one, rest)) = subst (λ n. Rose n new.faults) one.faults (AreCutOff-fault pieces middle new rest)

-- pieces that were taken, and then others
pub AreTaken-append : (first second : List (List ℕ)) (old middle new : Seen) → AreTaken first old middle → AreTaken second middle new → AreTaken (first ++ second) old new
AreTaken-append [] second old middle new same behind = subst (λ (s : Seen). AreTaken second s new) same behind
AreTaken-append (piece ∷ first) second old middle new (next, one, rest) behind = (next, one, AreTaken-append first second next middle new rest behind)

pub AreCutOff-append : (first second : List (List ℕ)) (old middle new : Seen) → AreTaken first old middle → AreCutOff second middle new → AreCutOff (first ++ second) old new
AreCutOff-append [] second old middle new same behind = subst (λ (s : Seen). AreCutOff second s new) same behind
AreCutOff-append (piece ∷ first) second old middle new (next, one, rest) behind = inr (next, one, AreCutOff-append first second next middle new rest behind)

-- behind a fault it doesn't matter what would have come
pub AreCutOff-more : (pieces more : List (List ℕ)) (old new : Seen) → AreCutOff pieces old new → AreCutOff (pieces ++ more) old new
AreCutOff-more [] more old new none = absurd none
AreCutOff-more (piece ∷ pieces) more old new (inl cut) = inl cut
AreCutOff-more (piece ∷ pieces) more old new (inr (middle, one, rest)) = inr (middle, one, AreCutOff-more pieces more middle new rest)

-- where no fault came, all were taken
pub ArePut-whole : (pieces : List (List ℕ)) (old new : Seen) → ArePut pieces old new → Rose old.faults new.faults ⊎ Takes (concat pieces) old.taken new.taken
ArePut-whole pieces old new (inl all) = inr (AreTaken-whole pieces old new all)
ArePut-whole pieces old new (inr cut) = inl (AreCutOff-fault pieces old new cut)

-- and in any case a prefix
pub ArePut-prefix : (pieces : List (List ℕ)) (old new : Seen) → ArePut pieces old new → TakesPrefix (concat pieces) old.taken new.taken
ArePut-prefix pieces old new (inl all) = TakesPrefix-all (concat pieces) old.taken new.taken (AreTaken-whole pieces old new all)
ArePut-prefix pieces old new (inr cut) = AreCutOff-prefix pieces old new cut

-- they reach no further than all of them together
pub AreTaken-reach : (pieces : List (List ℕ)) (old new : Seen) → AreTaken pieces old new → ReachesWithin (concat pieces) old.taken old.reach new.reach
AreTaken-reach [] old new same = subst (λ (s : Seen). ReachesWithin [] old.taken old.reach s.reach) (sym same) (ReachesWithin-none old.taken old.reach)
AreTaken-reach (piece ∷ pieces) old new (middle, one, rest) =
    ReachesWithin-append piece (concat pieces) old.taken middle.taken old.reach middle.reach new.reach one.whole
    (ReachesWithin-put piece old.taken old.reach middle.reach one.reach) (AreTaken-reach pieces middle new rest)

pub AreCutOff-reach : (pieces : List (List ℕ)) (old new : Seen) → AreCutOff pieces old new → ReachesWithin (concat pieces) old.taken old.reach new.reach
AreCutOff-reach [] old new none = absurd none
AreCutOff-reach (piece ∷ pieces) old new (inl cut) =
    ReachesWithin-more piece (concat pieces) old.taken old.reach new.reach (ReachesWithin-put piece old.taken old.reach new.reach cut.reach)
AreCutOff-reach (piece ∷ pieces) old new (inr (middle, one, rest)) =
    ReachesWithin-append piece (concat pieces) old.taken middle.taken old.reach middle.reach new.reach one.whole
    (ReachesWithin-put piece old.taken old.reach middle.reach one.reach) (AreCutOff-reach pieces middle new rest)

-- and each is one put at most
pub AreTaken-puts : (pieces : List (List ℕ)) (old new : Seen) → AreTaken pieces old new → PutsAtMost (length pieces) old.puts new.puts
AreTaken-puts [] old new same = subst (λ (s : Seen). PutsAtMost 0 old.puts s.puts) (sym same) (PutsAtMost-none old.puts)
AreTaken-puts (piece ∷ pieces) old new (middle, one, rest) =
    PutsAtMost-more (1 + length pieces) (length (piece ∷ pieces)) old.puts new.puts (omega arith)
    (PutsAtMost-append 1 (length pieces) old.puts middle.puts new.puts (PutsAtMost-put piece old.puts middle.puts one.counted) (AreTaken-puts pieces middle new rest))

pub AreCutOff-puts : (pieces : List (List ℕ)) (old new : Seen) → AreCutOff pieces old new → PutsAtMost (length pieces) old.puts new.puts
AreCutOff-puts [] old new none = absurd none
AreCutOff-puts (piece ∷ pieces) old new (inl cut) =
    PutsAtMost-more 1 (length (piece ∷ pieces)) old.puts new.puts (omega arith) (PutsAtMost-put piece old.puts new.puts cut.counted)
AreCutOff-puts (piece ∷ pieces) old new (inr (middle, one, rest)) =
    PutsAtMost-more (1 + length pieces) (length (piece ∷ pieces)) old.puts new.puts (omega arith)
    (PutsAtMost-append 1 (length pieces) old.puts middle.puts new.puts (PutsAtMost-put piece old.puts middle.puts one.counted) (AreCutOff-puts pieces middle new rest))

-- without a fault the count of faults stays
pub AreTaken-faults : (pieces : List (List ℕ)) (old new : Seen) → AreTaken pieces old new → new.faults ≡ old.faults
AreTaken-faults [] old new same = subst (λ (s : Seen). s.faults ≡ old.faults) (sym same) refl
AreTaken-faults (piece ∷ pieces) old new (middle, one, rest) = AreTaken-faults pieces middle new rest ∙ one.faults

pub ArePut-reach : (pieces : List (List ℕ)) (old new : Seen) → ArePut pieces old new → ReachesWithin (concat pieces) old.taken old.reach new.reach
ArePut-reach pieces old new (inl all) = AreTaken-reach pieces old new all
ArePut-reach pieces old new (inr cut) = AreCutOff-reach pieces old new cut

pub ArePut-puts : (pieces : List (List ℕ)) (old new : Seen) → ArePut pieces old new → PutsAtMost (length pieces) old.puts new.puts
ArePut-puts pieces old new (inl all) = AreTaken-puts pieces old new all
ArePut-puts pieces old new (inr cut) = AreCutOff-puts pieces old new cut
