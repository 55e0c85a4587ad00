use Rattle.std.proofs.Common.{◌≡◌, [], ◌∷◌, length, map}
use Rattle.tcel_grammar.specs.Machine.{program, more_tasks}
use Rattle.tcel_tree.specs.Plain.{plain_task}
use Rattle.tcel_parse.specs.Reading.{left, reach}
use Rattle.tcel_parse.proofs.Lists.{AreTasks}
use Rattle.tcel_parse.proofs.parser.Parser.program.Given as goal

abbrev pub invariant-tasks : goal.invariant-tasks
invariant-tasks l = record {
  tree : AreTasks (left l.fn.self) (map plain_task l.tasks) (left l.self);
  run : reach program l.fn.self ≡ reach (more_tasks ∷ []) l.self;
}

abbrev pub decreases-tasks : goal.decreases-tasks
decreases-tasks l = length l.self.rest.now
