-- How many bytes an image has whose tasks have few lines.
use Rattle.std.proofs.Common.{◌≡◌, ℕ, ℤ, ◌+◌, ◌*◌, ◌≤◌, List, [], ◌∷◌, ◌++◌, length, length-append, All, refl, arith}
use Rattle.std.specs.Prelude.{◌==◌, Bool, true, false, if◌then◌else◌, sum_by}
use Rattle.std.specs.List.{AllByRecursion, flat_map}
use Rattle.std.specs.Int.{cast_unsigned, w16, w32, w64}
use Rattle.std.proofs.lemmas.List.Concat.{length-flat_map}
use Rattle.std.proofs.lemmas.List.Elements.{All-from_recursion, All-head, All-tail, All-weaker, recursion_from_All}
use Rattle.std.proofs.lemmas.List.Sums.{sum_by-cons, sum_by-le}
use Rattle.tcel_num.specs.Name.{IsName}
use Rattle.tcel_target.specs.Costs.{cost_of, instruction_keys}
use Rattle.tcel_target.specs.declared.costs.CostKey.{CostKey}
use Rattle.tcel_target.specs.declared.costs.Costs.{Costs}
use Rattle.tcel_image.specs.Spelling.{NamesInRange, StateInRange, StatesInRange, TaskInRange, code, costs, dispatch, flag, kind_number, line, magic, name, names, number, operands, spelling, state, state_words, states, task, three, value, version}
use Rattle.tcel_image.specs.declared.image.Image.{Image}
use Rattle.tcel_image.specs.declared.image.ImageState.{ImageState}
use Rattle.tcel_image.specs.declared.image.ImageTask.{ImageTask}
use Rattle.tcel_image.specs.declared.image.Instr.{Instr}
use Rattle.tcel_image.specs.declared.image.Instr.TheVariants as instrs
use Rattle.tcel_image.specs.declared.image.Line.{Line}

-- ---- numbers

two_bytes : (n : ℕ) → length (number w16 n) ≡ 2
unfolding number
two_bytes n = refl

four_bytes : (n : ℕ) → length (number w32 n) ≡ 4
unfolding number
four_bytes n = refl

eight_bytes : (n : ℕ) → length (number w64 n) ≡ 8
unfolding number
eight_bytes n = refl

-- ---- lists of texts

flat_most : {X : Type 0} (f : X → List ℕ) (most : ℕ) (xs : List X) → All (λ x. length (f x) ≤ most) xs → length (flat_map f xs) ≤ length xs * most
flat_most f most xs each = omega (arith, length-flat_map f xs, sum_by-le (λ x. length (f x)) most xs each)

-- where each is as long
flat_each : {X : Type 0} (f : X → List ℕ) (size : ℕ) → ((x : X) → length (f x) ≡ size) → (xs : List X) → sum_by (λ x. length (f x)) xs ≡ length xs * size
flat_each f size each [] = omega arith
flat_each f size each (x ∷ xs) = omega (arith, sum_by-cons (λ y. length (f y)) x xs, each x, flat_each f size each xs)

-- ---- names

name_most : (n : List ℕ) → IsName n → length (name n) ≤ 33
name_most n is = omega (arith, is.short)

names_most : (ns : List (List ℕ)) → NamesInRange ns → length (names ns) ≤ 8450
names_most ns h =
    let all = flat_most name 33 ns (All-weaker IsName (λ n. length (name n) ≤ 33) name_most ns h.each) in
    omega (arith, h.count, all, two_bytes (length ns), length-append (number w16 (length ns)) (flat_map name ns))

-- ---- states

values_length : (vs : List ℤ) → length (flat_map value vs) ≡ length vs * 8
values_length vs = omega (arith, length-flat_map value vs, flat_each value 8 (λ z. eight_bytes (cast_unsigned w64 z)) vs)

state_most : (s : ImageState) → StateInRange s → length (state s) ≤ 38 + s.words * 8
state_most s h =
    let front = name s.name in
    let kind = kind_number s.kind ∷ [] in
    let words = number w32 s.words in
    let first = flat_map value s.first in
    omega (
      arith,
      name_most s.name h.name,
      four_bytes s.words,
      values_length s.first,
      h.first,
      length-append front kind,
      length-append (front ++ kind) words,
      length-append (front ++ kind ++ words) first,
    )

states_flat : (ss : List ImageState) → All StateInRange ss → sum_by (λ s. length (state s)) ss ≤ length ss * 38 + state_words ss * 8
states_flat [] each = omega arith
states_flat (s ∷ ss) each =
    omega (
      arith,
      sum_by-cons (λ (t : ImageState). length (state t)) s ss,
      sum_by-cons (λ (t : ImageState). t.words) s ss,
      state_most s (All-head StateInRange s ss each),
      states_flat ss (All-tail StateInRange s ss each),
    )

states_most : (ss : List ImageState) → StatesInRange ss → length (states ss) ≤ 42498
states_most ss h =
    omega (arith, h.count, h.words, states_flat ss h.each, length-flat_map state ss, two_bytes (length ss), length-append (number w16 (length ss)) (flat_map state ss))

-- ---- code

three_length : (a b c : ℕ) → length (three a b c) ≡ 12
three_length a b c =
    omega (arith, four_bytes a, four_bytes b, four_bytes c, length-append (number w32 a) (number w32 b), length-append (number w32 a ++ number w32 b) (number w32 c))

operands_length : (i : Instr) → length (operands i) ≡ 12
operands_length (instrs.Const v) = omega (arith, eight_bytes (cast_unsigned w64 v), four_bytes 0, length-append (value v) (number w32 0))
operands_length _ = three_length _ _ _

line_length : (l : Line) → length (line l) ≡ 16
line_length l = omega (arith, two_bytes l.depth, operands_length l.instr, length-append (number w16 l.depth) (operands l.instr))

code_length : (lines : List Line) → length (code lines) ≡ 4 + length lines * 16
code_length lines =
    omega (arith, flat_each line 16 line_length lines, length-flat_map line lines, four_bytes (length lines), length-append (number w32 (length lines)) (flat_map line lines))

-- ---- the whole

-- a task in range that has few lines
record IsFewLines (most : ℕ) (t : ImageTask) : Type 0 where
  ranges : TaskInRange t
  lines : length t.code ≤ most

task_most : (t : ImageTask) → IsFewLines 36300 t → length (task t) ≤ 640248
task_most t few =
    let h = few.ranges in
    let lines = few.lines in
    let a = name t.name in
    let b = a ++ number w32 t.period in
    let c = b ++ flag t.sliced ∷ [] in
    let d = c ++ names t.inputs in
    let e = d ++ names t.outputs in
    let f = e ++ states t.states in
    let g = f ++ number w32 t.cells in
    omega (
      arith,
      name_most t.name h.name,
      four_bytes t.period,
      names_most t.inputs h.inputs,
      names_most t.outputs h.outputs,
      states_most t.states h.states,
      four_bytes t.cells,
      code_length t.code,
      length-append a (number w32 t.period),
      length-append b (flag t.sliced ∷ []),
      length-append c (names t.inputs),
      length-append d (names t.outputs),
      length-append e (states t.states),
      length-append f (number w32 t.cells),
      length-append g (code t.code),
    )

choice : (b : Bool) (bytes : List ℕ) → length bytes ≡ 4 → length (if b then [] else bytes) ≤ 4
choice true bytes h = omega arith
choice false bytes h = omega (arith, h)

dispatch_most : (ticks : ℕ) → length (dispatch ticks) ≤ 4
dispatch_most ticks = choice (ticks == 0) (number w32 ticks) (four_bytes ticks)

costs_most : (c : Costs) → length (costs c) ≤ 64
costs_most c =
    let each = λ (key : CostKey). number w32 (cost_of c key) in
    omega (arith, dispatch_most c.dispatch, length-flat_map each instruction_keys, flat_each each 4 (λ key. four_bytes (cost_of c key)) instruction_keys, length-append (flat_map each instruction_keys) (dispatch c.dispatch))

few_lines : (ts : List ImageTask) → All TaskInRange ts → AllByRecursion (λ t. length t.code ≤ 36300) ts → All (λ t. length (task t) ≤ 640248) ts
few_lines ts ranges lines =
    All-from_recursion (λ t. length (task t) ≤ 640248) ts (each ts (recursion_from_All TaskInRange ts ranges) lines)
  where
    each : (us : List ImageTask) → AllByRecursion TaskInRange us → AllByRecursion (λ t. length t.code ≤ 36300) us → AllByRecursion (λ t. length (task t) ≤ 640248) us
    each [] h g = tt
    each (u ∷ us) h g = (task_most u (record { ranges = h.0; lines = g.0 }), each us h.1 g.1)

-- such an image can be loaded
pub image_most : (i : Image) → All TaskInRange i.tasks → length i.tasks ≤ 16 → AllByRecursion (λ (t : ImageTask). length t.code ≤ 36300) i.tasks → length (spelling i) ≤ 16777216
image_most i ranges count few =
    let a = number w32 (version i.costs.dispatch) in
    let b = number w32 (length i.tasks) in
    let all = flat_most task 640248 i.tasks (few_lines i.tasks ranges few) in
    omega (
      arith,
      all,
      count,
      costs_most i.costs,
      four_bytes (version i.costs.dispatch),
      four_bytes (length i.tasks),
      length-append magic a,
      length-append (magic ++ a) b,
      length-append (magic ++ a ++ b) (costs i.costs),
      length-append (magic ++ a ++ b ++ costs i.costs) (flat_map task i.tasks),
    )
