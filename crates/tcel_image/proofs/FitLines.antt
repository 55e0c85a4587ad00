-- Lines that are fit at their places, and images that are valid because all their lines are.
use Rattle.std.proofs.Common.{◌≡◌, ℕ, zero, suc, ◌+◌, ◌<◌, ◌≤◌, Bool, true, false, not, ◌&&◌, ◌||◌, ◌==◌, List, [], ◌∷◌, ◌++◌, length, map, take, Option, Some, refl, sym, ap, ◌∙◌, subst, arith, inl, inr}
use Rattle.std.specs.List.{AllByRecursion, list_any, slice_get}
use Rattle.std.specs.Int.{IsInRange}
use Rattle.std.specs.Option.{option_map, option_map_or}
use Rattle.std.specs.Prelude.{nat_lt}
use Rattle.std.proofs.lemmas.Bool.{and_right, and_left, eq-eqb, eqb-true, le-ltb, lt-leb, ne_eqb, or_from, or_parts}
use Rattle.std.proofs.lemmas.Cmp.{nat_list_eq_equiv}
use Rattle.std.proofs.lemmas.Option.{none-some, same_Some, slice_get_cases, slice_get-map, slice_get_within}
use Rattle.tcel_image.specs.declared.flaw.Flaw.{Flaw}
use Rattle.tcel_image.specs.declared.flaw.FlawKind.{FlawKind}
use Rattle.tcel_image.specs.declared.flaw.FlawKind.TheVariants.{BadPeriod, SameName, JumpOut, BadCell, BadPort, BadDepth, FallsOff}
use Rattle.tcel_image.specs.declared.image.Image.{Image}
use Rattle.tcel_image.specs.declared.image.ImageTask.{ImageTask}
use Rattle.tcel_image.specs.declared.image.Instr.{Instr}
use Rattle.tcel_image.specs.declared.image.Instr.TheVariants.{Jump, Branch, Loop, Receive, Send, End}
use Rattle.tcel_image.specs.declared.image.Line.{Line}
use Rattle.tcel_image.specs.Instructions.{Range, ranges, next_places, pops, depth_after}
use Rattle.tcel_image.specs.Validity.{IsValid, falls_off, has_bad_port, has_flaw, has_other_depth, has_twice, is_end, jumps_out, line_has, own_names, same_name, task_has}

-- a line of this depth is at a place of the code
pub record Leads (code : List Line) (depth place : ℕ) : Type 0 where
  pub line : Line
  pub there : slice_get code place ≡ Some line
  pub deep : line.depth ≡ depth

-- the port is one of the task's
abbrev pub PortIsThere : ImageTask → Instr → Type 0
PortIsThere task (Receive port cell) = port < length task.inputs
PortIsThere task (Send port) = port < length task.outputs
PortIsThere task _ = Unit {0}

-- a line without a flaw: it leads to lines of its depth, and its cells and port are there
pub record IsFit (task : ImageTask) (place : ℕ) (line : Line) : Type 0 where
  pub nexts : AllByRecursion (Leads task.code (depth_after line)) (next_places place line.instr)
  pub cells : AllByRecursion (λ (range : Range). range.from + range.length ≤ task.cells) (ranges line.instr)
  pub port : PortIsThere task line.instr
  pub enough : pops line.instr ≤ line.depth
  pub low : depth_after line ≤ 128
  pub empty : is_end line.instr ≡ true → line.depth ≡ 0

-- lines that are fit from a place on
abbrev pub AreFit : ImageTask → ℕ → List Line → Type 0
AreFit task place [] = Unit {0}
AreFit task place (line ∷ lines) = IsFit task place line × AreFit task (place + 1) lines

-- a task without a flaw of its own
pub record IsFitTask (task : ImageTask) : Type 0 where
  pub period : IsInRange 1 1000000000 task.period
  pub names : has_twice (own_names task) ≡ false
  pub first : Leads task.code 0 0
  pub lines : AreFit task 0 task.code

pub fit-append : (task : ImageTask) (place : ℕ) (a b : List Line) → AreFit task place a → AreFit task (place + length a) b → AreFit task place (a ++ b)
fit-append task place [] b one two = let e : place + 0 ≡ place = omega arith in subst (λ n. AreFit task n b) e two
fit-append task place (line ∷ a) b one two =
    let e : place + length (line ∷ a) ≡ place + 1 + length a = omega arith in
    (one.0, fit-append task (place + 1) a b one.1 (subst (λ n. AreFit task n b) e two))

-- ---- a fit line has no flaw

leads_within : (code : List Line) (depth place : ℕ) → Leads code depth place → place < length code
leads_within code depth place h = slice_get_within code place h.line h.there

no_jump : (task : ImageTask) (depth place : ℕ) (instr : Instr) → AllByRecursion (Leads task.code depth) (next_places place instr) → jumps_out task instr ≡ false
no_jump task depth place (Jump target) h = or_from _ _ (lt-leb _ _ (leads_within task.code depth target h.0)) refl
no_jump task depth place (Branch target) h = or_from _ _ (lt-leb _ _ (leads_within task.code depth target h.0)) refl
no_jump task depth place (Loop cell turns target) h = or_from _ _ (lt-leb _ _ (leads_within task.code depth target h.0)) refl
no_jump task depth place _ h = refl

no_cell : (cells : ℕ) (all : List Range) → AllByRecursion (λ (range : Range). range.from + range.length ≤ cells) all → list_any (λ (range : Range). nat_lt cells (range.from + range.length)) all ≡ false
no_cell cells [] h = refl
no_cell cells (range ∷ all) h = or_from _ _ (le-ltb _ _ h.0) (no_cell cells all h.1)

no_port : (task : ImageTask) (instr : Instr) → PortIsThere task instr → has_bad_port task instr ≡ false
no_port task (Receive port cell) h = lt-leb _ _ h
no_port task (Send port) h = lt-leb _ _ h
no_port task _ h = refl

no_other : (task : ImageTask) (depth : ℕ) (places : List ℕ) → AllByRecursion (Leads task.code depth) places → list_any (has_other_depth task depth) places ≡ false
no_other task depth [] h = refl
no_other task depth (place ∷ places) h =
    let here = h.0 in
    let is : has_other_depth task depth place ≡ false =
    ap (λ found. option_map_or (λ (line : Line). not (line.depth == depth)) found false) here.there ∙ ap not (eq-eqb _ _ here.deep) in
    or_from _ _ is (no_other task depth places h.1)

neither : (a b c : Bool) → (a ≡ true → c ≡ false) → (b ≡ true → c ≡ false) → ((a || b) && c) ≡ false
neither true b c one two = one refl
neither false true c one two = two refl
neither false false c one two = refl

differ : (a b : ℕ) → a < b → (a == b) ≡ false
differ a b h = ne_eqb a b (λ (e : a ≡ b). omega arith)

no_fall : (task : ImageTask) (depth place : ℕ) (instr : Instr) → AllByRecursion (Leads task.code depth) (next_places place instr) → falls_off task place instr ≡ false
no_fall task depth place (Jump target) h = and_right _ _ refl
no_fall task depth place End h = and_right _ _ refl
no_fall task depth place (Branch target) h = and_left _ _ (differ _ _ (leads_within task.code depth (place + 1) h.1.0))
no_fall task depth place (Loop cell turns target) h = and_left _ _ (differ _ _ (leads_within task.code depth (place + 1) h.1.0))
no_fall task depth place _ h = and_left _ _ (differ _ _ (leads_within task.code depth (place + 1) h.0))

line_clear : (task : ImageTask) (kind : FlawKind) (place : ℕ) (line : Line) → IsFit task place line → (place ≡ 0 → line.depth ≡ 0) → line_has task kind place line ≡ false
line_clear task BadPeriod place line fit first = refl
line_clear task SameName place line fit first = refl
line_clear task JumpOut place line fit first = no_jump task (depth_after line) place line.instr fit.nexts
line_clear task BadCell place line fit first = no_cell task.cells (ranges line.instr) fit.cells
line_clear task BadPort place line fit first = no_port task line.instr fit.port
line_clear task BadDepth place line fit first =
    let start = neither (place == 0) (is_end line.instr) (not (line.depth == 0)) (λ e. ap not (eq-eqb _ _ (first (eqb-true _ _ e)))) (λ e. ap not (eq-eqb _ _ (fit.empty e))) in
    or_from _ _ (or_from _ _ (or_from _ _ (le-ltb _ _ fit.enough) (le-ltb _ _ fit.low)) (no_other task (depth_after line) (next_places place line.instr) fit.nexts)) start
line_clear task FallsOff place line fit first = no_fall task (depth_after line) place line.instr fit.nexts

-- ---- a fit task

fit_at : (task : ImageTask) (place : ℕ) (lines : List Line) (k : ℕ) (line : Line) → AreFit task place lines → slice_get lines k ≡ Some line → IsFit task (place + k) line
fit_at task place [] k line h is = absurd (none-some _ is)
fit_at task place (x ∷ lines) zero line h is =
    let e : place ≡ place + 0 = omega arith in
    subst (λ n. IsFit task n line) e (subst (IsFit task place) (same_Some _ _ is) h.0)
fit_at task place (x ∷ lines) (suc k) line h is =
    let e : place + 1 + k ≡ place + suc k = omega arith in
    subst (λ n. IsFit task n line) e (fit_at task (place + 1) lines k line h.1 is)

found_clear : (task : ImageTask) (kind : FlawKind) (place : ℕ) → IsFitTask task → option_map_or (line_has task kind place) (slice_get task.code place) false ≡ false
found_clear task kind place fit =
    elim ((slice_get_cases task.code place).1) [
      | inl found ↦
          let line = found.0 in
          let is : slice_get task.code place ≡ Some line = found.2 in
          let at : IsFit task place line = let e : 0 + place ≡ place = omega arith in subst (λ n. IsFit task n line) e (fit_at task 0 task.code place line fit.lines is) in
          let first : place ≡ 0 → line.depth ≡ 0 =
          λ e. ap (λ (l : Line). l.depth) (same_Some _ _ (sym is ∙ ap (slice_get task.code) e ∙ fit.first.there)) ∙ fit.first.deep in
          ap (λ f. option_map_or (line_has task kind place) f false) is ∙ line_clear task kind place line at first
      | inr none ↦ ap (λ f. option_map_or (line_has task kind place) f false) none.1
    ]

task_clear : (earlier : List ImageTask) (task : ImageTask) (kind : FlawKind) (place : ℕ) → IsFitTask task → list_any (λ (other : ImageTask). same_name task.name other.name) earlier ≡ false → task_has earlier task kind place ≡ false
task_clear earlier task BadPeriod place fit other = and_right _ _ (or_from _ _ (ne_eqb task.period 0 (λ (e : task.period ≡ 0). omega (arith, fit.period.0))) (le-ltb _ _ fit.period.1))
task_clear earlier task SameName place fit other = and_right _ _ (or_from _ _ other fit.names)
task_clear earlier task JumpOut place fit other = found_clear task JumpOut place fit
task_clear earlier task BadCell place fit other = found_clear task BadCell place fit
task_clear earlier task BadPort place fit other = found_clear task BadPort place fit
task_clear earlier task BadDepth place fit other = found_clear task BadDepth place fit
task_clear earlier task FallsOff place fit other = found_clear task FallsOff place fit

-- ---- a whole image

all_at : {X : Type 0} (P : X → Type 0) (xs : List X) (k : ℕ) (x : X) → AllByRecursion P xs → slice_get xs k ≡ Some x → P x
all_at P [] k x h is = absurd (none-some x is)
all_at P (y ∷ ys) zero x h is = subst P (same_Some y x is) h.0
all_at P (y ∷ ys) (suc k) x h is = all_at P ys k x h.1 is

passes_none : {X : Type 0} (test : X → Bool) (xs : List X) (k : ℕ) (x : X) → list_any test xs ≡ false → slice_get xs k ≡ Some x → test x ≡ false
passes_none test [] k x h is = absurd (none-some x is)
passes_none test (y ∷ ys) zero x h is = ap test (sym (same_Some y x is)) ∙ (or_parts (test y) (list_any test ys) h).0
passes_none test (y ∷ ys) (suc k) x h is = passes_none test ys k x (or_parts (test y) (list_any test ys) h).1 is

abbrev pub name_of : ImageTask → List ℕ
name_of task = task.name

earlier_differ : (tasks : List ImageTask) (k : ℕ) (task : ImageTask) → has_twice (map name_of tasks) ≡ false → slice_get tasks k ≡ Some task
    → list_any (λ (other : ImageTask). same_name task.name other.name) (take k tasks) ≡ false
earlier_differ [] k task h is = absurd (none-some task is)
earlier_differ (t ∷ ts) zero task h is = refl
earlier_differ (t ∷ ts) (suc k) task h is =
    let both = or_parts (list_any (same_name t.name) (map name_of ts)) (has_twice (map name_of ts)) h in
    let differs = passes_none (same_name t.name) (map name_of ts) k task.name both.0 (slice_get-map name_of ts k ∙ ap (option_map name_of) is) in
    or_from _ _ (nat_list_eq_equiv.symm task.name t.name ∙ differs) (earlier_differ ts k task both.1 is)

clear : (image : Image) (flaw : Flaw) → has_twice (map name_of image.tasks) ≡ false → AllByRecursion IsFitTask image.tasks → has_flaw image flaw ≡ false
clear image flaw names fit =
    let check = λ (found : Option ImageTask). option_map_or (λ (task : ImageTask). task_has (take flaw.task image.tasks) task flaw.kind flaw.pc) found false in
    elim ((slice_get_cases image.tasks flaw.task).1) [
      | inl found ↦
          let task = found.0 in
          let is : slice_get image.tasks flaw.task ≡ Some task = found.2 in
          ap check is
          ∙ task_clear (take flaw.task image.tasks) task flaw.kind flaw.pc (all_at IsFitTask image.tasks flaw.task task fit is) (earlier_differ image.tasks flaw.task task names is)
      | inr none ↦ ap check none.1
    ]

-- an image of fit tasks, whose names differ, is valid
pub valid_image : (image : Image) → has_twice (map name_of image.tasks) ≡ false → AllByRecursion IsFitTask image.tasks → IsValid image
valid_image image names fit = record { none = λ flaw. clear image flaw names fit }
