-- The forms of a checked set: their code means their tasks, and their image is valid, in range and short.
use Rattle.std.proofs.Common.{◌≡◌, ℕ, zero, suc, ◌+◌, ◌<◌, ◌≤◌, Bool, true, false, cond, ℤ, pos, List, [], ◌∷◌, length, map, refl, sym, subst, arith}
use Rattle.std.specs.Prelude.{FitsSigned, filter, nat_le}
use Rattle.std.specs.Int.{w64}
use Rattle.std.specs.List.{AllByRecursion, AllZip}
use Rattle.std.proofs.lemmas.Bool.{true≢false}
use Rattle.std.proofs.lemmas.List.{length-map, length-replicate}
use Rattle.std.proofs.lemmas.List.Elements.{All-from_recursion, All-replicate, recursion_from_All}
use Rattle.tcel_num.specs.Name.{IsName}
use Rattle.tcel_core.specs.declared.var.Keep.{Keep}
use Rattle.tcel_core.specs.declared.var.Var.{Var}
use Rattle.tcel_core.specs.declared.var.VarKind.{VarKind}
use Rattle.tcel_core.specs.Cells.{all_words, width, words_of}
use Rattle.tcel_core.specs.Contents.{act_loops, loops, stmt_loops}
use Rattle.tcel_core.specs.Frames.{first_words, is_state, state_words}
use Rattle.tcel_core.specs.Language.{Block, done, next, Stmt, item, choice, timed, Act, assign, assign_at, receive, send, for_loop, while_loop, copy, Task}
use Rattle.tcel_core.specs.Limits.{act_nodes, nodes, stmt_nodes}
use Rattle.tcel_core.specs.Numbering.{item_numbers}
use Rattle.tcel_core.specs.Parts.{AreOwnParts, TaskParts, parts_of, slicing_of}
use Rattle.tcel_core.specs.Scope.{LoopsAreUntimed}
use Rattle.tcel_core.specs.Sound.{IsDeclared, IsFirstValue, IsKind, IsSoundTask}
use Rattle.tcel_core.specs.Typing.{bool}
use Rattle.tcel_core.proofs.StateWords.{states_within}
use Rattle.tcel_image.specs.Spelling.{IsLength, NamesInRange, StateInRange, StatesInRange}
use Rattle.tcel_parts.specs.Fitting.{PartsAreInScope}
use Rattle.tcel_parts.proofs.Distinct.{AreDistinct, numbers_distinct}
use Rattle.tcel_parts.proofs.FittingParts.{own_parts_fit}
use Rattle.tcel_cost.specs.Forms.{Form, form_of, forms_of, whole_form, whole_parts}
use Rattle.tcel_code.specs.Compilable.{IsCompilable}
use Rattle.tcel_code.specs.Counters.{counters_of}
use Rattle.tcel_code.specs.Layout.{kind_of, state_of, states_of}
use Rattle.tcel_code.specs.PartsFit.{PartsFit, PartsMean}
use Rattle.tcel_code.specs.Spellable.{IsSpellable}
use Rattle.tcel_code.proofs.Counters.{own_counters}
use Rattle.tcel_code.proofs.SliceForms.{slices_mean}
use Rattle.tcel_code.proofs.StateWords.{states_words}
use Rattle.tcel_gen.specs.Generated.{FormsAreReady, IsShort}
use Rattle.tcel_gen.proofs.CodeLengths.{block_small, fewer, frame_short, parts_small}
use Rattle.tcel_gen.specs.Sizes.{size}
use Rattle.tcel_gen.proofs.PartsReady.{IsPart, body_sits, first_part_is, part_done, rest_is}
use Rattle.tcel_gen.proofs.Sits.{number_fits}
use Rattle.tcel_gen.proofs.TaskNames.{HasNames, name_of, names_of}

-- ---- variables

kind_length : (kind : VarKind) → IsKind kind → IsLength (words_of kind)
kind_length VarKind.Int h = (omega arith, omega arith)
kind_length VarKind.Bool h = (omega arith, omega arith)
kind_length (VarKind.Array n) h = (h.some, h.most)

declared_sized : (vars : List Var) → AllByRecursion IsDeclared vars → (v : ℕ) → v < length vars → IsLength (width vars v)
declared_sized [] h v less = absurd (omega arith)
declared_sized (x ∷ vars) h zero less =
    let own = kind_length x.kind (h.0).kind in
    let some = own.0 in
    let most = own.1 in
    (omega arith, omega arith)
declared_sized (x ∷ vars) h (suc v) less = declared_sized vars h.1 v (omega arith)

-- a state is in the ranges of its fields
state_in_range : (name : List ℕ) (kind : VarKind) (keep : Keep) (first : ℤ) → IsName name → IsKind kind → IsFirstValue kind keep first → is_state keep ≡ true →
    StateInRange (record { name = name; kind = kind_of kind; words = words_of kind; first = first_words kind first })
state_in_range name VarKind.Int Keep.State first is k f e =
    record { name = is; words = (omega arith, omega arith); first = refl; values = All-from_recursion (FitsSigned w64) (first ∷ []) (f, tt) }
state_in_range name VarKind.Bool Keep.State first is k f e =
    record { name = is; words = (omega arith, omega arith); first = refl; values = All-from_recursion (FitsSigned w64) (first ∷ []) (number_fits bool first f, tt) }
state_in_range name (VarKind.Array n) Keep.State first is k f e =
    record {
      name = is;
      words = (k.some, k.most);
      first = length-replicate n (pos 0);
      values = All-replicate (FitsSigned w64) n (pos 0) (record { sfits = omega arith });
    }
state_in_range name kind Keep.Local first is k f e = absurd (true≢false (sym e))
state_in_range name kind Keep.Temp first is k f e = absurd (true≢false (sym e))

all_states : (vars : List Var) → AllByRecursion IsDeclared vars → AllByRecursion IsName (map name_of vars) → AllByRecursion StateInRange (states_of vars)
all_states [] h g = tt
all_states (v ∷ vars) h g = chosen (is_state v.keep) refl (all_states vars h.1 g.1)
  where
    chosen : (b : Bool) → is_state v.keep ≡ b → AllByRecursion StateInRange (states_of vars) →
        AllByRecursion StateInRange (map state_of (cond b (v ∷ filter (λ (w : Var). is_state w.keep) vars) (filter (λ (w : Var). is_state w.keep) vars)))
    chosen true e later = (state_in_range (name_of v) v.kind v.keep v.first g.0 (h.0).kind (h.0).first e, later)
    chosen false e later = later

-- ---- a body

mutual
  few_loops : (b : Block) → loops b ≤ nodes b
  few_loops done = omega arith
  few_loops (next t rest) = omega (arith, stmt_few_loops t, few_loops rest)

  stmt_few_loops : (t : Stmt) → stmt_loops t ≤ stmt_nodes t
  stmt_few_loops (item id act) = act_few_loops act
  stmt_few_loops (choice id test held other) = omega (arith, few_loops held, few_loops other)
  stmt_few_loops (timed id window body) = omega (arith, few_loops body)

  act_few_loops : (act : Act) → act_loops act ≤ 1 + act_nodes act
  act_few_loops (assign v e) = omega arith
  act_few_loops (assign_at v i e) = omega arith
  act_few_loops (receive v port) = omega arith
  act_few_loops (send e port) = omega arith
  act_few_loops (for_loop v n body) = omega (arith, few_loops body)
  act_few_loops (while_loop test n body) = omega (arith, few_loops body)
  act_few_loops (copy from to) = omega arith

-- ---- a form

pub record IsReady (form : Form) : Type 0 where
  pub fit : PartsFit form
  pub compilable : IsCompilable form
  pub spellable : IsSpellable form
  pub short : IsShort form

-- what is to be known of the parts of a task, be they its own or its body and nothing
record IsHalved (task : Task) (parts : TaskParts) : Type 0 where
  states : state_words parts.vars ≡ state_words task.vars
  first : IsPart task.body parts.vars (length task.inputs) (length task.outputs) parts.first
  rest : IsPart task.body parts.vars (length task.inputs) (length task.outputs) parts.rest
  untimed : LoopsAreUntimed parts.first
  mean : PartsMean task parts
  cells : all_words parts.vars + loops task.body ≤ 65536
  lines : size parts.first + size parts.rest + 2 ≤ 36300

module _ (task : Task) (sound : IsSoundTask task) where
  abbrev names : HasNames task
  names = names_of task sound.declarations

  declared : AllByRecursion IsDeclared task.vars
  declared = recursion_from_All IsDeclared task.vars sound.declarations.variables

  sized : (v : ℕ) → v < length task.vars → IsLength (width task.vars v)
  sized = declared_sized task.vars declared

  ports_in_range : (ports : List (List ℕ)) → AllByRecursion IsName ports → length ports ≤ 256 → NamesInRange ports
  ports_in_range ports all few = record { count = few; each = All-from_recursion IsName ports all }

  states_in_range : StatesInRange (states_of task.vars)
  states_in_range =
      let few = names.few in
      let words = sound.declarations.words in
      record {
        count = omega (arith, length-map (filter (λ (v : Var). is_state v.keep) task.vars) state_of, fewer (λ (v : Var). is_state v.keep) task.vars);
        each = All-from_recursion StateInRange (states_of task.vars) (all_states task.vars declared names.variables);
        words = omega (arith, states_words task.vars, states_within task.vars);
      }

  ready : (sliced : Bool) (parts : TaskParts) → IsHalved task parts → IsReady (record { task = task; sliced = sliced; parts = parts })
  ready sliced parts h =
      let few = names.few in
      let some = sound.period.some in
      let most = sound.period.most in
      let lines = h.lines in
      let short = frame_short parts.first parts.rest parts.vars (counters_of task.body parts.vars) in
      record {
        fit =
            record {
              period = omega arith;
              states = h.states;
              first = h.first.sits.fits;
              rest = h.rest.sits.fits;
              untimed = h.untimed;
              first_counters = h.first.counters;
              rest_counters = h.rest.counters;
              mean = h.mean;
            };
        compilable =
            record {
              first = h.first.sits.fits;
              rest = h.rest.sits.fits;
              first_within = h.first.sits.within;
              rest_within = h.rest.sits.within;
              first_counters = h.first.counters;
              rest_counters = h.rest.counters;
              period = (some, omega arith);
              names = names.once;
            };
        spellable =
            record {
              name = sound.name;
              inputs = ports_in_range task.inputs names.inputs (omega arith);
              outputs = ports_in_range task.outputs names.outputs (omega arith);
              states = states_in_range;
              words = h.states;
              cells = h.cells;
              lines = omega arith;
              first = h.first.sits.numbers;
              rest = h.rest.sits.numbers;
            };
        short = omega arith;
      }

  -- its body, and nothing
  pub whole_ready : IsReady (whole_form task)
  whole_ready =
      let body = task.body in
      let words = sound.declarations.words in
      let few = sound.body.nodes in
      ready false (whole_parts task)
      (record {
        states = refl;
        first =
            record {
              sits = body_sits body task.vars (length task.inputs) (length task.outputs) sized body sound.body.typed sound.body.bounded;
              counters = own_counters body;
            };
        rest = part_done body task.vars (length task.inputs) (length task.outputs);
        untimed = sound.body.untimed;
        mean = λ state inputs long. record { events = refl; silent = refl; inputs = refl; states = refl };
        cells = omega (arith, few_loops body);
        lines = omega (arith, block_small body);
      })

  own_halved : (kept : ℕ → Bool) (parts : TaskParts) → PartsAreInScope task parts → parts ≡ parts_of (slicing_of task kept) → parts.words ≤ 65536 → PartsMean task parts → IsHalved task parts
  own_halved kept parts scope is few mean =
      subst (IsHalved task) (sym is) (of_slicing (subst (PartsAreInScope task) is scope) (subst (λ (p : TaskParts). p.words ≤ 65536) is few) (subst (PartsMean task) is mean))
    where
      of_slicing : PartsAreInScope task (parts_of (slicing_of task kept)) → (parts_of (slicing_of task kept)).words ≤ 65536 → PartsMean task (parts_of (slicing_of task kept)) →
          IsHalved task (parts_of (slicing_of task kept))
      of_slicing fits cells means =
          let s = slicing_of task kept in
          let body = task.body in
          let ins = length task.inputs in
          let outs = length task.outputs in
          let distinct = subst AreDistinct (sym sound.body.numbered.items) (numbers_distinct 0 (length (item_numbers body))) in
          let nodes = sound.body.nodes in
          let vars = names.few in
          record {
            states = fits.states;
            first = first_part_is s ins outs sized sound.body.typed sound.body.bounded (own_counters body);
            rest = rest_is s ins outs sized body (λ p there. there) sound.body.typed sound.body.bounded (own_counters body);
            untimed = fits.loops;
            mean = means;
            cells = cells;
            lines = omega (arith, parts_small s distinct);
          }

  pub own_ready : (parts : TaskParts) → AreOwnParts task parts → IsReady (record { task = task; sliced = true; parts = parts })
  own_ready parts own =
      ready true parts
      (own_halved own.kept parts (own_parts_fit task parts sound own) own.are own.few (subst (PartsMean task) (sym own.are) (slices_mean task own.kept sound own.least)))

-- ---- a set

one_ready : (task : Task) (sliced : Bool) (parts : TaskParts) → IsSoundTask task → AreOwnParts task parts → IsReady (form_of task sliced parts)
one_ready task true parts sound own = own_ready task sound parts own
one_ready task false parts sound own = whole_ready task sound

pub all_ready : (sliced : ℕ) (tasks : List Task) (parts : List TaskParts) → AllByRecursion IsSoundTask tasks → AllZip AreOwnParts tasks parts → AllByRecursion IsReady (forms_of sliced tasks parts)
all_ready sliced [] parts sound own = tt
all_ready sliced (task ∷ tasks) [] sound own = absurd own
all_ready sliced (task ∷ tasks) (p ∷ parts) sound own = (one_ready task (nat_le (length (task ∷ tasks)) sliced) p sound.0 own.0, all_ready sliced tasks parts sound.1 own.1)

weaker : (P Q : Form → Type 0) → ((form : Form) → P form → Q form) → (forms : List Form) → AllByRecursion P forms → AllByRecursion Q forms
weaker P Q up [] h = tt
weaker P Q up (form ∷ forms) h = (up form h.0, weaker P Q up forms h.1)

pub all_short : (forms : List Form) → AllByRecursion IsReady forms → AllByRecursion IsShort forms
all_short = weaker IsReady IsShort (λ form h. h.short)

pub forms_ready : FormsAreReady
forms_ready = λ sliced tasks parts sound own.
    let forms = forms_of sliced tasks parts in
    let all = all_ready sliced tasks parts (recursion_from_All IsSoundTask tasks sound.each) own in
    record {
      fit = All-from_recursion PartsFit forms (weaker IsReady PartsFit (λ form h. h.fit) forms all);
      compilable = weaker IsReady IsCompilable (λ form h. h.compilable) forms all;
      spellable = weaker IsReady IsSpellable (λ form h. h.spellable) forms all;
    }
