use Rattle.std.proofs.Common.{[], ◌∷◌, refl}
use Rattle.std.specs.Prelude.{codes}
use Rattle.tcel_token.specs.declared.sign.Sign.{Sign}
use Rattle.tcel_token.specs.Pieces.{blank, comment, word, number, sign}
use Rattle.tcel_token.specs.Examples.{letters}
use Rattle.tcel_token.proofs.examples.token_examples.Goals as goal

pub returns-clause-lines : goal.returns-clause-lines
returns-clause-lines c = record {
  pieces =
      word (codes "a") ∷ sign Sign.LessOrEqual ∷ word (codes "b") ∷ comment (codes "< 1") ∷ blank 10 ∷ blank 9
      ∷ sign Sign.Minus ∷ number (codes "07") ∷ blank 32 ∷ number (codes "12") ∷ word (codes "or") ∷ [];
  begins = record { whole = refl; pieces = refl };
  list = refl;
  end = refl;
}

pub returns-clause-empty : goal.returns-clause-empty
returns-clause-empty c = record { pieces = []; begins = record { whole = refl; pieces = refl }; list = refl; end = refl }

pub returns-clause-last_comment : goal.returns-clause-last_comment
returns-clause-last_comment c =
    record { pieces = word (codes "x") ∷ comment [] ∷ []; begins = record { whole = refl; pieces = refl }; list = refl; end = refl }

pub returns-clause-longest_name : goal.returns-clause-longest_name
returns-clause-longest_name c =
    record { pieces = word (letters 32) ∷ []; begins = record { whole = refl; pieces = refl }; list = refl; end = refl }

pub returns-clause-too_long : goal.returns-clause-too_long
returns-clause-too_long c = record { pieces = []; rest = letters 33; begins = record { whole = refl; pieces = refl }; here = refl }

pub returns-clause-greatest : goal.returns-clause-greatest
returns-clause-greatest c =
    record { pieces = number (codes "9223372036854775807") ∷ []; begins = record { whole = refl; pieces = refl }; list = refl; end = refl }

pub returns-clause-too_large : goal.returns-clause-too_large
returns-clause-too_large c =
    record {
      pieces = number (codes "0") ∷ blank 32 ∷ [];
      rest = codes "9223372036854775808 @";
      begins = record { whole = refl; pieces = refl };
      here = refl;
    }

pub returns-clause-bad_byte : goal.returns-clause-bad_byte
returns-clause-bad_byte c =
    record {
      pieces = blank 10 ∷ blank 13 ∷ word (codes "a") ∷ blank 32 ∷ [];
      rest = codes ": b";
      begins = record { whole = refl; pieces = refl };
      here = refl;
    }

pub returns-clause-not_alone : goal.returns-clause-not_alone
returns-clause-not_alone c = record { pieces = []; rest = codes "!"; begins = record { whole = refl; pieces = refl }; here = refl }
