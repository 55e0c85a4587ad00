use Rattle.tcel_driver.proofs.ChoiceExamples.{chosen_example, not_dear, not_whole, overload_example}
use Rattle.tcel_driver.proofs.examples.choice_examples.Goals as goal

pub returns : goal.returns
returns c = record { chosen = chosen_example; not_whole = not_whole; overload = overload_example; not_dear = not_dear }
