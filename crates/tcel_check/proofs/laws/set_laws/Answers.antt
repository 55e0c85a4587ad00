use Rattle.tcel_check.proofs.SoundSets.{sound_sets}
use Rattle.tcel_check.proofs.InScope.{tasks_in_scope, words_are_few}
use Rattle.tcel_check.proofs.laws.set_laws.Goals as goal

pub returns : goal.returns
returns c = record { sound = sound_sets; in_scope = tasks_in_scope; stack = words_are_few }
