use Rattle.std.proofs.Common.{rules, refl, arith}
use Rattle.tcel_core.specs.Typing.{int}
use Rattle.tcel_core.proofs.soundness.sound_examples.Goals as goal

pub returns-clause-sound : goal.returns-clause-sound
returns-clause-sound c =
    record {
      name = record { word = refl; short = omega arith; free = refl };
      priority = record { some = omega arith; most = omega arith };
      period = record { some = omega arith; most = omega arith };
      deadline = record { some = omega arith; most = omega arith };
      declarations =
          record {
            variables = search rules;
            order = refl;
            words = omega arith;
            names = search rules;
            distinct = search rules;
            most = omega arith;
          };
      body =
          record {
            typed = (
              ((_, refl, refl), omega arith),
              (
                (
                  (refl, refl, (_, refl, refl), search rules),
                  ((int, (_, refl, refl), (_, refl, refl)), (((_, refl, refl), omega arith), tt)),
                  ((int, (_, refl, refl), search rules), ((int, (_, refl, refl), (refl, refl, (_, refl, refl), (_, refl, refl))), tt)),
                ),
                ((int, (_, refl, refl), search rules), (((_, refl, refl), omega arith), tt)),
              ),
            );
            bounded = search rules;
            untimed = search rules;
            depth = omega arith;
            nodes = omega arith;
            windows = omega arith;
            numbered = record { items = refl; ifs = refl; blocks = refl; loops = search rules };
          };
    }

pub returns-clause-compared : goal.returns-clause-compared
returns-clause-compared c = (refl, refl, (refl, (_, refl, refl), (_, refl, refl)), search rules)
