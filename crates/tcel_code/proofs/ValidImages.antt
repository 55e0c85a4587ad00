-- The image of a set is valid, where the parts of its tasks fit and their names differ.
use Rattle.std.proofs.Common.{◌≡◌, ◌+◌, List, [], ◌∷◌, ◌++◌, length, map, refl, ap, ◌∙◌, arith}
use Rattle.std.specs.List.{AllByRecursion}
use Rattle.tcel_core.specs.Contents.{loops}
use Rattle.tcel_image.specs.declared.image.Instr.TheVariants.{Mark, End}
use Rattle.tcel_image.specs.Validity.{has_twice}
use Rattle.tcel_image.proofs.FitLines.{Leads, IsFit, IsFitTask, fit-append, name_of, valid_image}
use Rattle.tcel_cost.specs.Forms.{Form}
use Rattle.tcel_code.specs.Code.{at, block_code}
use Rattle.tcel_code.specs.Compilable.{IsCompilable, ImagesAreValid, WholeTasksAreCompilable}
use Rattle.tcel_code.specs.Counters.{counters_of}
use Rattle.tcel_code.specs.Layout.{form_task, layout}
use Rattle.tcel_code.proofs.Counters.{own_counters, part_counters}
use Rattle.tcel_code.proofs.ExprRuns.{Stands, stands_all, stands_back, stands_front}
use Rattle.tcel_code.proofs.FitCode.{block_code_fits, line_fits, moved}

-- the lines of the whole code
pub form_fits : (form : Form) → IsCompilable form → IsFitTask (form_task form)
form_fits form h =
    let image = form_task form in
    let code = image.code in
    let source = form.task.body in
    let vars = form.parts.vars in
    let counters = counters_of source vars in
    let first = block_code form.parts.first vars 0 counters in
    let rest_at = length first + 1 in
    let rest = block_code form.parts.rest vars rest_at counters in
    let mark = at 0 Mark in
    let end = at 0 End in
    let stands : Stands code 0 code = stands_all code [] in
    let behind = stands_back code 0 first (mark ++ (rest ++ end)) stands in
    let last = stands_back code (0 + length first + 1) rest end behind.1 in
    let end_at = 0 + length first + 1 + length rest in
    let ends : Leads code 0 end_at = record { line = record { instr = End; depth = 0 }; there = last.0; deep = refl } in
    let ended : IsFit image end_at (record { instr = End; depth = 0 }) =
    record { nexts = tt; cells = tt; port = tt; enough = omega arith; low = omega arith; empty = λ e. refl } in
    let rest_fit = block_code_fits image vars (loops source) (omega arith) form.parts.rest h.rest h.rest_within rest_at counters (part_counters source form.parts.rest vars h.rest_counters) in
    let rested = (moved image rest_at (0 + length first + 1) 0 0 rest (omega arith) rest_fit).fit (stands_front code (0 + length first + 1) rest end behind.1) ends in
    let marked = (line_fits image (0 + length first) 0 0 Mark (omega arith) (omega arith) (omega arith) tt tt refl (λ next. (next, tt))).fit (behind.0, tt) rested.0 in
    let first_fit = block_code_fits image vars (loops source) (omega arith) form.parts.first h.first h.first_within 0 counters (part_counters source form.parts.first vars h.first_counters) in
    let held = first_fit.fit (stands_front code 0 first (mark ++ (rest ++ end)) stands) marked.0 in
    record {
      period = h.period;
      names = h.names;
      first = held.0;
      lines = fit-append image 0 first (mark ++ (rest ++ end)) held.1 (marked.1.0, fit-append image (0 + length first + 1) rest end rested.1 (ended, tt));
    }

all_fit : (forms : List Form) → AllByRecursion IsCompilable forms → AllByRecursion IsFitTask (map form_task forms)
all_fit [] h = tt
all_fit (form ∷ forms) h = (form_fits form h.0, all_fit forms h.1)

names_kept : (forms : List Form) → map name_of (map form_task forms) ≡ map (λ (form : Form). form.task.name) forms
names_kept [] = refl
names_kept (form ∷ forms) = ap (λ names. form.task.name ∷ names) (names_kept forms)

pub images_valid : ImagesAreValid
images_valid = λ forms costs names h. valid_image (layout forms costs) (ap has_twice (names_kept forms) ∙ names) (all_fit forms h)

pub whole_compilable : WholeTasksAreCompilable
whole_compilable = λ task fits within period names.
    record {
      first = fits;
      rest = tt;
      first_within = within;
      rest_within = tt;
      first_counters = own_counters task.body;
      rest_counters = tt;
      period = period;
      names = names;
    }
