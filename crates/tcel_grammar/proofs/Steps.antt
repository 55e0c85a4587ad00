-- One step of the machine, by what its first symbol does.
use Rattle.std.proofs.lemmas.Bool.{true≢false}
use Rattle.std.proofs.Common.{◌≡◌, ◌++◌, Bool, true, false, List, [], ◌∷◌, refl, sym, ap, ◌∙◌}
use Rattle.tcel_token.specs.Terminal.{Terminal}
use Rattle.tcel_grammar.specs.declared.deep.Deep.{Deep}
use Rattle.tcel_grammar.specs.Machine.{Symbol, Move, reads, skips, stops, first, at_end, behind_operand, Counts, within_limits, too_deep, enter, stopped, deep, run}

module _ (c : Counts) (x : Symbol) (k : List Symbol) where
  -- a token is read
  pub run_reads : (t : Terminal) (ts : List Terminal) (j : List Symbol) (d : Counts) → first x (t ∷ ts) ≡ reads j → enter c t.kind ≡ within_limits d →
      run c (x ∷ k) (t ∷ ts) ≡ run d (j ++ k) ts
  unfolding run
  run_reads t ts j d e h = rw (e, h) refl

  -- a token is too deep
  pub run_deep : (t : Terminal) (ts : List Terminal) (j : List Symbol) (what : Deep) → first x (t ∷ ts) ≡ reads j → enter c t.kind ≡ too_deep what →
      run c (x ∷ k) (t ∷ ts) ≡ deep what (t ∷ ts)
  unfolding run
  run_deep t ts j what e h = rw (e, h) refl

  -- nothing goes on
  pub run_stops : (ts : List Terminal) → first x ts ≡ stops → run c (x ∷ k) ts ≡ stopped ts
  unfolding run
  run_stops [] e = rw e refl
  run_stops (t ∷ ts) e = rw e refl

  -- the symbol is passed over
  pub run_skips : (ts : List Terminal) → first x ts ≡ skips → run c (x ∷ k) ts ≡ run c k ts
  unfolding run
  run_skips [] e = rw e refl
  run_skips (t ∷ ts) e = rw e refl

  -- another symbol that does the same
  pub run_same : (y : Symbol) (ts : List Terminal) → first x ts ≡ first y ts → run c (x ∷ k) ts ≡ run c (y ∷ k) ts
  unfolding run
  run_same y [] e = rw e refl
  run_same y (t ∷ ts) e = rw e refl

-- nothing is read at the end
pub no_reads : (x : Symbol) (j : List Symbol) → ¬ (at_end x ≡ reads j)
no_reads x j e = absurd (true≢false (sym (ap is_reading e) ∙ never x))
  where
    is_reading : Move → Bool
    is_reading (reads i) = true
    is_reading _ = false

    never : (x : Symbol) → is_reading (at_end x) ≡ false
    never (behind_operand below c) = refl
    never _ = refl
