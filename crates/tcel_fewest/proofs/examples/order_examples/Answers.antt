use Rattle.std.proofs.Common.{refl, lit<, inl, inr, arith}
use Rattle.tcel_fewest.proofs.SetLemmas.{decided}
use Rattle.tcel_fewest.specs.Sets.{size_of}
use Rattle.tcel_fewest.proofs.examples.order_examples.Goals as goal

pub returns : goal.returns
unfolding size_of
returns c =
    record {
      by_size = inl (lit< tt);
      not_by_number = λ h. decided 3 3 4 2 1 refl refl (λ less. omega arith) (λ same less. omega arith) h;
      by_number = inr (refl, lit< tt);
      not_back = λ h. decided 3 2 1 1 1 refl refl (λ less. omega arith) (λ same less. omega arith) h;
      not_itself = λ h. decided 3 5 5 2 2 refl refl (λ less. omega arith) (λ same less. omega arith) h;
    }
