-- Parts of the worked examples of what is missing.
use Rattle.std.proofs.Common.{zero, suc, [], ◌∷◌, Some, refl, arith, pos}
use Rattle.std.specs.Int.{int_wrap}
use Rattle.tcel_num.specs.Entry.{receive}
use Rattle.tcel_core.specs.Examples.{counter, counter_streams, counter_plans}
use Rattle.tcel_core.specs.Promises.{Promise, behavior_of, end_promise}
use Rattle.tcel_judge.specs.declared.verdict.Verdict.TheVariants.{No}
use Rattle.tcel_judge.specs.declared.verdict.Breach.TheVariants.{Missing, Overdue}
use Rattle.tcel_judge.specs.declared.verdict.Due.TheVariants as dues
use Rattle.tcel_judge.specs.FirstBreach.{Judged, AreRight, Misses, missed, refused}
use Rattle.tcel_judge.specs.Examples.{counting, unended, receives, SaysCounting}

abbrev counter_judged : Judged
counter_judged = record { task = counter; does = behavior_of counter counter_streams }

unended_right : AreRight counting counter_plans 10 unended
unended_right zero = refl
unended_right (suc zero) = refl
unended_right (suc (suc zero)) = refl
unended_right (suc (suc (suc place))) = refl

abbrev counted_end : Promise
counted_end = end_promise 0 (pos 1 ∷ [])

end_misses : Misses 10 9 9 counter_judged.does 3 3 counted_end
unfolding int_wrap
end_misses = record { behind = omega arith; there = refl; due = refl; passed = λ k q far near is. absurd (omega (arith, far, near)) }

pub end_missing : SaysCounting unended (No (Missing 0 0 dues.End))
end_missing = missed 0 3 counter_judged counted_end unended_right refl (λ k g lt is. absurd (omega (arith, lt))) end_misses

abbrev first_event : Promise
first_event = record { frame = 0; what = receive 0 (pos 5); earliest = 0; latest = Some 10 }

event_misses : Misses 10 9 9 counter_judged.does 0 0 first_event
event_misses = record { behind = omega arith; there = refl; due = refl; passed = λ k q far near is. absurd (omega (arith, far, near)) }

pub event_missing : SaysCounting [] (No (Missing 0 0 (dues.Event 0)))
event_missing = missed 0 0 counter_judged first_event (λ place. refl) refl (λ k g lt is. absurd (omega (arith, lt))) event_misses

pub line_first : SaysCounting (receives 11 ∷ []) (No (Overdue 1))
line_first = refused 0 (Overdue 1) refl (λ k lt. absurd (omega (arith, lt)))
