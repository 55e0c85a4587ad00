-- The dues of events.
use Rattle.std.proofs.Common.{◌≡◌, ℕ, ◌+◌, ◌≤◌, false, Bool, List, [], ◌∷◌, ◌++◌, length, refl, ap, arith}
use Rattle.std.specs.Prelude.{max, unwrap_or}
use Rattle.tcel_core.specs.Language.{Window}
use Rattle.tcel_core.specs.Outcome.{Occurrence, enclosed}
use Rattle.tcel_core.specs.Promises.{what_of}
use Rattle.tcel_core.specs.Windows.{earliest}
use Rattle.tcel_code.proofs.Ahead.{Due}

-- the due is of this event: by this count or later, and no earlier than the release, a time before and the blocks around the event ask
pub record Suits (release floor count : ℕ) (e : Occurrence) (due : Due) : Type 0 where
  pub shows : due.promise.what ≡ what_of e.kind e.port e.value
  pub soon : count ≤ due.by
  pub early : due.promise.earliest ≤ max floor (release + earliest e.around)

abbrev pub AllSuit : ℕ → ℕ → List ℕ → List Occurrence → List Due → Type 0
AllSuit release floor [] [] [] = Unit {0}
AllSuit release floor (c ∷ cs) (e ∷ es) (d ∷ ds) = Suits release floor c e d × AllSuit release floor cs es ds
AllSuit release floor _ _ _ = ⊥

-- the dues of some events and then of others
pub record Split (release floor : ℕ) (cs cs' : List ℕ) (a b : List Occurrence) (dues : List Due) : Type 0 where
  pub front : List Due
  pub back : List Due
  pub joined : dues ≡ front ++ back
  pub one : AllSuit release floor cs a front
  pub two : AllSuit release floor cs' b back

pub suit_split : (release floor : ℕ) (cs cs' : List ℕ) (a b : List Occurrence) (dues : List Due) → length cs ≡ length a → AllSuit release floor (cs ++ cs') (a ++ b) dues → Split release floor cs cs' a b dues
suit_split release floor [] cs' [] b dues h suit = record { front = []; back = dues; joined = refl; one = tt; two = suit }
suit_split release floor [] cs' (e ∷ a) b dues h suit = absurd (omega arith)
suit_split release floor (c ∷ cs) cs' [] b dues h suit = absurd (omega arith)
suit_split release floor (c ∷ cs) cs' (e ∷ a) b [] h suit = absurd suit
suit_split release floor (c ∷ cs) cs' (e ∷ a) b (d ∷ dues) h suit =
    let rest = suit_split release floor cs cs' a b dues (omega arith) suit.1 in
    record { front = d ∷ rest.front; back = rest.back; joined = ap (λ l. d ∷ l) rest.joined; one = (suit.0, rest.one); two = rest.two }

pub no_dues : (release floor : ℕ) (counts : List ℕ) (dues : List Due) → AllSuit release floor counts [] dues → dues ≡ []
no_dues release floor [] [] suit = refl
no_dues release floor [] (d ∷ dues) suit = absurd suit
no_dues release floor (c ∷ counts) dues suit = absurd suit

-- a due of an event in a `do` block is one of the event inside it, no earlier than the block asks
pub suit_inside : (release floor id : ℕ) (window : Window) (leads : Bool) (counts : List ℕ) (events : List Occurrence) (dues : List Due) →
    AllSuit release floor counts (enclosed id window leads events) dues → AllSuit release (max floor (release + unwrap_or window.after 0)) counts events dues
suit_inside release floor id window leads [] [] [] suit = tt
suit_inside release floor id window leads [] [] (d ∷ dues) suit = absurd suit
suit_inside release floor id window leads [] (e ∷ events) dues suit = absurd suit
suit_inside release floor id window leads (c ∷ counts) [] dues suit = absurd suit
suit_inside release floor id window leads (c ∷ counts) (e ∷ events) [] suit = absurd suit
suit_inside release floor id window leads (c ∷ counts) (e ∷ events) (d ∷ dues) suit =
    let early = suit.0.early in (
      record { shows = suit.0.shows; soon = suit.0.soon; early = omega arith },
      suit_inside release floor id window false counts events dues suit.1,
    )

-- the due of one event
pub one_due : (release floor count : ℕ) (e : Occurrence) (dues : List Due) → AllSuit release floor (count ∷ []) (e ∷ []) dues → (P : List Due → Type 0) →
    ((due : Due) → Suits release floor count e due → P (due ∷ [])) → P dues
one_due release floor count e [] suit P then' = absurd suit
one_due release floor count e (d ∷ []) suit P then' = then' d suit.0
one_due release floor count e (d ∷ (d' ∷ ds)) suit P then' = absurd suit.1
