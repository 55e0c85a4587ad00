-- The bytes that a sink has taken.
use Rattle.std.specs.Prelude.{◌≡◌, ℕ, List, [], ◌++◌, Option, Some, None}
use Rattle.std.proofs.Common.{sym, ap, ◌∙◌, append_assoc, append-nil}
use Rattle.tcel_io.specs.Told.{StaysTold}

-- a text is a front and what follows it
abbrev pub BeginsWith : List ℕ → List ℕ → Type 0
BeginsWith text front = (back : List ℕ) × (text ≡ front ++ back)

-- the sink took the whole text
abbrev pub Takes : List ℕ → Option (List ℕ) → Option (List ℕ) → Type 0
Takes text = StaysTold (λ old new. new ≡ old ++ text)

-- the sink took a prefix of the text, maybe nothing and maybe all of it
pub record TakesPrefix (text : List ℕ) (old new : Option (List ℕ)) : Type 0 where
  pub told : StaysTold (λ old new. (front : List ℕ) × BeginsWith text front × (new ≡ old ++ front)) old new

-- nothing put takes the empty text
pub Takes-none : (taken : Option (List ℕ)) → Takes [] taken taken
Takes-none None = tt
Takes-none (Some bytes) = sym (append-nil bytes)

-- a text and then another make one text
pub Takes-append : (first second : List ℕ) (start middle end : Option (List ℕ)) → Takes first start middle → Takes second middle end → Takes (first ++ second) start end
Takes-append first second None middle end before after = tt
Takes-append first second (Some x) None end before after = absurd before
Takes-append first second (Some x) (Some y) None before after = absurd after
Takes-append first second (Some x) (Some y) (Some z) before after = after ∙ ap (λ bytes. bytes ++ second) before ∙ append_assoc x first second

-- the same where the second was taken in part
pub TakesPrefix-append : (first second : List ℕ) (start middle end : Option (List ℕ)) → Takes first start middle → TakesPrefix second middle end → TakesPrefix (first ++ second) start end
TakesPrefix-append first second None middle end before after = record { told = tt }
TakesPrefix-append first second (Some x) None end before after = absurd before
TakesPrefix-append first second (Some x) (Some y) None before after = absurd after.told
TakesPrefix-append first second (Some x) (Some y) (Some z) before after =
    let front = after.told.0 in
    let back = after.told.1.0 in
    record {
      told = (
        first ++ front,
        (back, ap (λ bytes. first ++ bytes) after.told.1.1 ∙ sym (append_assoc first front back)),
        after.told.2 ∙ ap (λ bytes. bytes ++ front) before ∙ append_assoc x first front,
      );
    }

-- a prefix of a text is one of a longer text
pub TakesPrefix-more : (text more : List ℕ) (start end : Option (List ℕ)) → TakesPrefix text start end → TakesPrefix (text ++ more) start end
TakesPrefix-more text more None end taken = record { told = tt }
TakesPrefix-more text more (Some x) None taken = absurd taken.told
TakesPrefix-more text more (Some x) (Some y) taken =
    let front = taken.told.0 in
    let back = taken.told.1.0 in
    record { told = (front, (back ++ more, ap (λ bytes. bytes ++ more) taken.told.1.1 ∙ append_assoc front back more), taken.told.2) }

-- the whole text is a prefix of it
pub TakesPrefix-all : (text : List ℕ) (start end : Option (List ℕ)) → Takes text start end → TakesPrefix text start end
TakesPrefix-all text None end taken = record { told = tt }
TakesPrefix-all text (Some x) None taken = absurd taken
TakesPrefix-all text (Some x) (Some y) taken = record { told = (text, ([], sym (append-nil text)), taken) }
