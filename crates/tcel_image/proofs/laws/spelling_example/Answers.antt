use Rattle.std.proofs.Common.{refl}
use Rattle.tcel_image.specs.Spelling.{number}
use Rattle.tcel_image.specs.Reading.{reading, image_at, magic_at, costs_at, dispatch_at, task_at, states_at, states_from, state_at, code_at, line_at, instr_at, const_at, operands_at, names_at, name_at, text_at, many_at, value_at, byte_at, number_at}
use Rattle.tcel_image.proofs.laws.spelling_example.Goals as goal

pub returns-clause-spelled : goal.returns-clause-spelled
unfolding number
returns-clause-spelled c = refl

pub returns-clause-read : goal.returns-clause-read
unfolding reading image_at magic_at costs_at dispatch_at task_at states_at states_from state_at code_at line_at instr_at const_at operands_at names_at name_at text_at many_at value_at byte_at number_at
returns-clause-read c = refl

pub returns-clause-dispatched_read : goal.returns-clause-dispatched_read
unfolding reading image_at magic_at costs_at dispatch_at task_at states_at states_from state_at code_at line_at instr_at const_at operands_at names_at name_at text_at many_at value_at byte_at number_at
returns-clause-dispatched_read c = refl

pub returns-clause-no_dispatch : goal.returns-clause-no_dispatch
unfolding reading image_at magic_at costs_at dispatch_at task_at states_at states_from state_at code_at line_at instr_at const_at operands_at names_at name_at text_at many_at value_at byte_at number_at
returns-clause-no_dispatch c = refl

pub returns-clause-second_version : goal.returns-clause-second_version
unfolding reading image_at magic_at costs_at dispatch_at task_at states_at states_from state_at code_at line_at instr_at const_at operands_at names_at name_at text_at many_at value_at byte_at number_at
returns-clause-second_version c = refl

pub returns-clause-dispatched : goal.returns-clause-dispatched
unfolding number
returns-clause-dispatched c = refl
