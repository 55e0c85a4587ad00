-- A whole text of links, line after line.
use Rattle.std.proofs.Common.{◌≡◌, ℕ, zero, suc, ◌+◌, ◌-◌, ◌<◌, Bool, true, false, cond, List, [], ◌∷◌, ◌++◌, map, length, take, drop, get_or, Option, Some, None, Result, Ok, Err, refl, sym, ap, ◌∙◌, arith}
use Rattle.std.specs.Prelude.{option_map, option_to_list, position}
use Rattle.std.specs.List.{list_any}
use Rattle.std.specs.Str.Lines.{lines}
use Rattle.std.proofs.lemmas.Bool.{or_parts}
use Rattle.std.proofs.lemmas.List.{append-nil, length-drop, take_all, take_more}
use Rattle.std.proofs.lemmas.List.Elements.{All-push, filter_map-append}
use Rattle.std.proofs.lemmas.List.Quantifiers.{all_pairs_push, position-Some}
use Rattle.std.proofs.lemmas.Option.{option_and_then_some, same_Some}
use Rattle.tcel_core.specs.Language.{Task}
use Rattle.tcel_link.specs.declared.fail.LinkFail.{LinkFail}
use Rattle.tcel_link.specs.declared.fail.LinkFail.TheVariants.{BadLine, NoOutput, NoInput, InputTwice, InLoop, NoMemory}
use Rattle.tcel_link.specs.declared.link.Link.{Link}
use Rattle.tcel_link.specs.declared.port.Port.{Port}
use Rattle.tcel_link.specs.Conditions.{AreLinks, IsInRange, IsOutsideLoops, LeadApart}
use Rattle.tcel_link.specs.Lines.{Line, passed, bad, linked, line_of, link_lines}
use Rattle.tcel_link.specs.Links.{Reads, Takes, after_line, fault_at, fault_between, feeds, input_of, link_between, link_of, links_in, links_of, no_task, output_of, port_of, port_of_task, task_at}
use Rattle.tcel_link.specs.Receives.{receives_in_loop}
use Rattle.tcel_script.specs.Script.{same, unless_fault}
use Rattle.tcel_link.proofs.Leads.{not_led}
use Rattle.tcel_script.proofs.Faults.{cut_cons, fault_first, no_fault}

-- ---- the lines so far

pub record IsNext (all : List Line) (n : ℕ) (line more : List ℕ) : Type 0 where
  pub inside : n < length all
  pub this : get_or all n passed ≡ line_of line
  pub left : link_lines more ≡ drop (n + 1) all

pub next_is : (all : List Line) (n : ℕ) (rest line more : List ℕ) → link_lines rest ≡ drop n all → lines rest ≡ line ∷ lines more → IsNext all n line more
next_is all n rest line more left cut =
    let parts = cut_cons all n (line_of line) (link_lines more) passed (sym left ∙ ap (map line_of) cut) in
    record { inside = parts.0; this = parts.1; left = sym parts.2 }

one_more : (tasks : List Task) (line : Line) (o : Option Link) → link_of tasks line ≡ o → links_of tasks (line ∷ []) ≡ option_to_list o
one_more tasks line None e = rw e refl
one_more tasks line (Some link) e = rw e refl

-- the links of one line more
links_more : (tasks : List Task) (all : List Line) (n : ℕ) → n < length all → links_of tasks (take (n + 1) all) ≡ links_of tasks (take n all) ++ option_to_list (link_of tasks (get_or all n passed))
links_more tasks all n h =
    let line = get_or all n passed in
    ap (links_of tasks) (take_more all n passed h) ∙ filter_map-append (link_of tasks) (take n all) (line ∷ [])
    ∙ ap (λ ls. links_of tasks (take n all) ++ ls) (one_more tasks line (link_of tasks line) refl)

-- links that are those of the lines so far go on to those of one line more
step : (tasks : List Task) (all : List Line) (n : ℕ) (line more : List ℕ) (links : List Link) → IsNext all n line more → links ≡ links_of tasks (take n all) →
    after_line tasks (n + 1) links (line_of line) ≡ unless_fault (fault_at tasks all n) (links_of tasks (take (n + 1) all))
step tasks all n line more links next so_far =
    rw (← next.this, so_far) (ap (λ (ls : List Link). let r : Result (List Link) LinkFail = unless_fault (fault_at tasks all n) ls in r) (sym (links_more tasks all n next.inside)))

taken : (fault : Option LinkFail) (links left : List Link) → unless_fault fault links ≡ Ok left → (fault ≡ None) × (left ≡ links)
taken None links left h = (refl, cc)
taken (Some e) links left h = absurd cc

refused : (fault : Option LinkFail) (links : List Link) (e : LinkFail) → unless_fault fault links ≡ Err e → fault ≡ Some e
refused None links e h = absurd cc
refused (Some e') links e h = cc

pub went_on : (tasks : List Task) (all : List Line) (n : ℕ) (line more : List ℕ) (links left : List Link) → IsNext all n line more → links ≡ links_of tasks (take n all) →
    after_line tasks (n + 1) links (line_of line) ≡ Ok left → (fault_at tasks all n ≡ None) × (left ≡ links_of tasks (take (n + 1) all))
went_on tasks all n line more links left next so_far h =
    taken (fault_at tasks all n) (links_of tasks (take (n + 1) all)) left (sym (step tasks all n line more links next so_far) ∙ h)

stopped : (tasks : List Task) (bytes : List ℕ) (n : ℕ) (line more : List ℕ) (links : List Link) (fault : LinkFail) → IsNext (link_lines bytes) n line more → links ≡ links_of tasks (take n (link_lines bytes)) →
    ((k : ℕ) → k < n → fault_at tasks (link_lines bytes) k ≡ None) → after_line tasks (n + 1) links (line_of line) ≡ Err fault → links_in tasks bytes ≡ Err fault
stopped tasks bytes n line more links fault next so_far sound h =
    let all = link_lines bytes in
    let here = refused (fault_at tasks all n) (links_of tasks (take (n + 1) all)) fault (sym (step tasks all n line more links next so_far) ∙ h) in
    ap (λ (o : Option LinkFail). let r : Result (List Link) LinkFail = unless_fault o (links_of tasks all) in r)
    (fault_first (fault_at tasks all) 0 (length all) n fault (omega arith) (omega (arith, next.inside)) (λ j low high. sound j high) here)

-- a line that isn't taken ends the reading
pub failed : (tasks : List Task) (bytes : List ℕ) (n : ℕ) (line more : List ℕ) (links left : List Link) (fault : LinkFail) → IsNext (link_lines bytes) n line more → links ≡ links_of tasks (take n (link_lines bytes)) →
    ((k : ℕ) → k < n → fault_at tasks (link_lines bytes) k ≡ None) → Takes (Err fault) left (after_line tasks (n + 1) links (line_of line)) → Reads (Err fault) (links_in tasks bytes)
failed tasks bytes n line more links left (BadLine i) next so_far sound h = stopped tasks bytes n line more links (BadLine i) next so_far sound h
failed tasks bytes n line more links left (NoOutput i) next so_far sound h = stopped tasks bytes n line more links (NoOutput i) next so_far sound h
failed tasks bytes n line more links left (NoInput i) next so_far sound h = stopped tasks bytes n line more links (NoInput i) next so_far sound h
failed tasks bytes n line more links left (InputTwice i) next so_far sound h = stopped tasks bytes n line more links (InputTwice i) next so_far sound h
failed tasks bytes n line more links left (InLoop i) next so_far sound h = stopped tasks bytes n line more links (InLoop i) next so_far sound h
failed tasks bytes n line more links left NoMemory next so_far sound h = tt

-- at the end of the bytes
pub finished : (tasks : List Task) (bytes rest : List ℕ) (n : ℕ) (links : List Link) → link_lines rest ≡ drop n (link_lines bytes) → length rest ≡ 0 →
    ((k : ℕ) → k < n → fault_at tasks (link_lines bytes) k ≡ None) → links ≡ links_of tasks (take n (link_lines bytes)) → links_in tasks bytes ≡ Ok links
finished tasks bytes (x ∷ rest) n links left none sound so_far = absurd (omega arith)
finished tasks bytes [] n links left none sound so_far =
    let all = link_lines bytes in
    let long : length all - n ≡ 0 = sym (length-drop n all) ∙ sym (ap length left) in
    let same : links ≡ links_of tasks all = so_far ∙ ap (links_of tasks) (take_all n all (omega arith)) in
    rw same (ap (λ (o : Option LinkFail). let r : Result (List Link) LinkFail = unless_fault o (links_of tasks all) in r)
    (no_fault (fault_at tasks all) 0 (length all) (λ k low high. sound k (omega arith))))

-- ---- what the links meet

-- a port that was found is one of its task's
pub record IsPort (ports : Task → List (List ℕ)) (tasks : List Task) (p : Port) : Type 0 where
  pub task : p.task < length tasks
  pub port : p.port < length (ports (task_at tasks p.task))

is_port : (ports : Task → List (List ℕ)) (tasks : List Task) (name port : List ℕ) (p : Port) → port_of ports tasks name port ≡ Some p → IsPort ports tasks p
is_port ports tasks name port p h =
    option_and_then_some (port_of_task ports tasks port) (position (λ (task : Task). same task.name name) tasks) p h
    (λ i found rest. placed i (position-Some (λ (task : Task). same task.name name) tasks i no_task found).0 (position (λ n. same n port) (ports (task_at tasks i))) refl rest)
  where
    placed : (i : ℕ) → i < length tasks → (o : Option ℕ) → position (λ n. same n port) (ports (task_at tasks i)) ≡ o → option_map (λ place. record { task = i; port = place }) o ≡ Some p → IsPort ports tasks p
    placed i within None e rest = absurd cc
    placed i within (Some place) e rest =
        let q : Port = record { task = i; port = place } in
        let is : q ≡ p = same_Some q p rest in
        let inside = position-Some (λ n. same n port) (ports (task_at tasks i)) place [] e in
        rw (← is) (record { task = within; port = inside.0 })

-- none of the links leads to an input
none_leads : (number input : ℕ) (links : List Link) → list_any (feeds number input) links ≡ false → (k : ℕ) (d : Link) → k < length links → feeds number input (get_or links k d) ≡ false
none_leads number input [] h k d within = absurd (omega arith)
none_leads number input (l ∷ links) h zero d within = (or_parts (feeds number input l) (list_any (feeds number input) links) h).0
none_leads number input (l ∷ links) h (suc k) d within = none_leads number input links (or_parts (feeds number input l) (list_any (feeds number input) links) h).1 k d (omega (arith, within))

pub none_linked : (tasks : List Task) → AreLinks tasks []
none_linked tasks = record { in_range = λ k d h. absurd (omega arith); apart = λ i j d lt h. absurd (omega arith); outside = λ k d h. absurd (omega arith) }

-- one link more that isn't at fault
one_linked : (tasks : List Task) (links : List Link) (output input : Port) → IsPort (λ (t : Task). t.outputs) tasks output → IsPort (λ (t : Task). t.inputs) tasks input →
    list_any (feeds input.task input.port) links ≡ false → receives_in_loop (task_at tasks input.task).body input.port false ≡ false → AreLinks tasks links →
    AreLinks tasks (links ++ (record { from = output.task; output = output.port; to = input.task; input = input.port }) ∷ [])
one_linked tasks links output input from to once outside fit =
    let link : Link = record { from = output.task; output = output.port; to = input.task; input = input.port } in
    let range : IsInRange tasks link = record { from = from.task; output = from.port; to = to.task; input = to.port } in
    record {
      in_range = All-push (IsInRange tasks) links link fit.in_range range;
      apart = all_pairs_push LeadApart links link fit.apart (λ k d h. not_led input.task input.port (get_or links k d) (none_leads input.task input.port links once k d h));
      outside = All-push (IsOutsideLoops tasks) links link fit.outside outside;
    }

-- what a line leaves meets all that is asked of links
pub fit_more : (tasks : List Task) (number : ℕ) (links left : List Link) (line : Line) → after_line tasks number links line ≡ Ok left → AreLinks tasks links → AreLinks tasks left
fit_more tasks number links left passed h fit =
    let same = (taken None (links ++ []) left h).1 in
    rw (same, append-nil links) fit
fit_more tasks number links left bad h fit = absurd cc
fit_more tasks number links left (linked from output to input) h fit = by_ports (output_of tasks from output) (input_of tasks to input) refl refl h
  where
    by_tests : (o i : Port) (twice inside : Bool) → output_of tasks from output ≡ Some o → input_of tasks to input ≡ Some i → list_any (feeds i.task i.port) links ≡ twice →
        receives_in_loop (task_at tasks i.task).body i.port false ≡ inside →
        unless_fault (cond twice (Some (InputTwice number)) (cond inside (Some (InLoop number)) None)) (links ++ option_to_list (link_between (Some o) (Some i))) ≡ Ok left → AreLinks tasks left
    by_tests o i true inside of_output of_input once outside rest = absurd cc
    by_tests o i false true of_output of_input once outside rest = absurd cc
    by_tests o i false false of_output of_input once outside rest =
        let same = (taken None (links ++ option_to_list (link_between (Some o) (Some i))) left rest).1 in
        rw same (one_linked tasks links o i (is_port (λ (t : Task). t.outputs) tasks from output o of_output) (is_port (λ (t : Task). t.inputs) tasks to input i of_input) once outside fit)

    by_ports : (o i : Option Port) → output_of tasks from output ≡ o → input_of tasks to input ≡ i → unless_fault (fault_between tasks number links o i) (links ++ option_to_list (link_between o i)) ≡ Ok left → AreLinks tasks left
    by_ports None i of_output of_input rest = absurd cc
    by_ports (Some o) None of_output of_input rest = absurd cc
    by_ports (Some o) (Some i) of_output of_input rest =
        by_tests o i (list_any (feeds i.task i.port) links) (receives_in_loop (task_at tasks i.task).body i.port false) of_output of_input refl refl rest
