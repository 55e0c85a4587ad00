-- The table of faults and limits, a definition a row: where in a program each stands.
use Rattle.std.specs.Prelude.{ℕ, ◌+◌, ℤ, pos, negsuc, ◌&&◌, Bool, true, false, not, List, [], ◌∷◌, ◌++◌, map, Option, Some, None, is_some, if◌then◌else◌, nat_le, nat_lt, int_le, slice_get, flat_map}
use Rattle.std.specs.List.{list_any}
use Rattle.std.specs.Ordering.{int_eq}
use Rattle.tcel_num.specs.declared.at.At.{At}
use Rattle.tcel_tree.specs.declared.task.Decl.{Decl}
use Rattle.tcel_tree.specs.declared.task.DeclKind.{DeclKind}
use Rattle.tcel_tree.specs.declared.task.DeclKind.TheVariants.{Input, Output, Array}
use Rattle.tcel_tree.specs.Language.{Task}
use Rattle.tcel_check.specs.declared.fail.CheckKind.TheVariants.{Twice, Unknown, WrongType, NotAPort, WindowInLoop, LoopDepth, SamePriority, BadBound}
use Rattle.tcel_check.specs.declared.fail.LimitKind.{LimitKind}
use Rattle.tcel_check.specs.declared.fail.LimitKind.TheVariants.{Tasks, Variables, Words, Nodes, Windows}
use Rattle.tcel_check.specs.declared.mark.Mark.{Mark}
use Rattle.tcel_check.specs.declared.purpose.Purpose.{Purpose}
use Rattle.tcel_check.specs.declared.purpose.Purpose.TheVariants.{Scalar, Element, From, To}
use Rattle.tcel_check.specs.declared.value_type.ValueType.{ValueType}
use Rattle.tcel_check.specs.Marks.{fault, limit}
use Rattle.tcel_check.specs.Sights.{Sight, node, literal, value, name, window, loop, bound, head_sights, block_sights}
use Rattle.tcel_check.specs.Types.{is_wanted, scalar_type, is_array, is_input, is_output, same_name, kind_of}

abbrev pub when : {A : Type 0} → Bool → A → List A
when true x = x ∷ []
when false x = []

abbrev pub limit_at : LimitKind → Option At → List Mark
limit_at kind None = []
limit_at kind (Some at) = limit kind at ∷ []

-- a limit that stands at the place with this number, where there are so many
abbrev pub past : LimitKind → ℕ → List At → List Mark
past kind n places = limit_at kind (slice_get places n)

-- those that are like one before them
abbrev pub repeats_behind : {A : Type 0} → (A → A → Bool) → List A → List A → List A
repeats_behind like before [] = []
repeats_behind like before (x ∷ xs) = when (list_any (like x) before) x ++ repeats_behind like (before ++ x ∷ []) xs

abbrev pub repeats : {A : Type 0} → (A → A → Bool) → List A → List A
repeats like xs = repeats_behind like [] xs

-- from 1 to the most
abbrev pub is_within : ℤ → ℕ → Bool
is_within n most = int_le (pos 1) n && int_le n (pos most)

-- a whole number; below 0 it is 0
abbrev pub whole : ℤ → ℕ
whole (pos n) = n
whole (negsuc n) = 0

-- the words of a declaration: ports have none, an array whose length is out of range none
abbrev pub words_of : DeclKind → ℕ
words_of Input = 0
words_of Output = 0
words_of (Array state size) = if is_within size.value 4096 then whole size.value else 0
words_of _ = 1

-- the declaration with which the words pass their limit, where so many stand before these
abbrev pub passing : ℕ → List Decl → List Decl
passing before [] = []
passing before (d ∷ ds) = when (nat_le before 4096 && nat_lt 4096 (before + words_of d.kind)) d ++ passing (before + words_of d.kind) ds

abbrev pub task_sights : Task → List Sight
task_sights t = head_sights t ++ block_sights t.body (kind_of t.decls) 0

abbrev pub node_places : Sight → List At
node_places (node at) = at ∷ []
node_places _ = []

abbrev pub window_places : Sight → List At
window_places (window at loops) = at ∷ []
window_places _ = []

abbrev pub at_task : Task → At
at_task t = t.at

abbrev pub at_decl : Decl → At
at_decl d = d.at

-- limit tasks
abbrev pub many_tasks : List Task → List Mark
many_tasks tasks = past Tasks 16 (map at_task tasks)

-- limit variables
abbrev pub many_names : Task → List Mark
many_names t = past Variables 256 (map at_decl t.decls)

-- limit words
abbrev pub word_mark : Decl → Mark
word_mark d = limit Words d.at

abbrev pub many_words : Task → List Mark
many_words t = map word_mark (passing 0 t.decls)

-- limit nodes
abbrev pub many_nodes : Task → List Mark
many_nodes t = past Nodes 4000 (flat_map node_places (task_sights t))

-- limit windows
abbrev pub many_windows : Task → List Mark
many_windows t = past Windows 31 (flat_map window_places (task_sights t))

-- Twice: of tasks, and of the names of one task
abbrev pub same_task : Task → Task → Bool
same_task a b = same_name a.name b.name

abbrev pub twice_task : Task → Mark
twice_task t = fault Twice t.at

abbrev pub twice_tasks : List Task → List Mark
twice_tasks tasks = map twice_task (repeats same_task tasks)

abbrev pub same_decl : Decl → Decl → Bool
same_decl a b = same_name a.name b.name

abbrev pub twice_mark : Decl → Mark
twice_mark d = fault Twice d.at

abbrev pub twice_names : Task → List Mark
twice_names t = map twice_mark (repeats same_decl t.decls)

-- Unknown
abbrev pub unknown_name : (List ℕ → Option DeclKind) → Sight → List Mark
unknown_name kind (name at x purpose) = when (not (is_some (kind x))) (fault Unknown at)
unknown_name kind _ = []

-- WrongType: a name that is declared as something else than it is used for, or a value of another type than is wanted
abbrev pub has_type : Option ValueType → Option ValueType → Bool
has_type None wanted = false
has_type (Some given) wanted = is_wanted given wanted

abbrev pub is_of_type : Purpose → DeclKind → Bool
is_of_type (Scalar wanted) kind = has_type (scalar_type kind) wanted
is_of_type Element kind = is_array kind
is_of_type From kind = true
is_of_type To kind = true

abbrev pub if_declared : (DeclKind → Bool) → Option DeclKind → Bool
if_declared test None = true
if_declared test (Some kind) = test kind

abbrev pub wrong_type : (List ℕ → Option DeclKind) → Sight → List Mark
wrong_type kind (literal at n wanted) = when (not (is_wanted ValueType.Int wanted)) (fault WrongType at)
wrong_type kind (value at given wanted) = when (not (is_wanted given wanted)) (fault WrongType at)
wrong_type kind (name at x purpose) = when (not (if_declared (is_of_type purpose) (kind x))) (fault WrongType at)
wrong_type kind _ = []

-- NotAPort
abbrev pub is_port : Purpose → DeclKind → Bool
is_port From kind = is_input kind
is_port To kind = is_output kind
is_port _ kind = true

abbrev pub not_a_port : (List ℕ → Option DeclKind) → Sight → List Mark
not_a_port kind (name at x purpose) = when (not (if_declared (is_port purpose) (kind x))) (fault NotAPort at)
not_a_port kind _ = []

-- WindowInLoop
abbrev pub window_in_loop : Sight → List Mark
window_in_loop (window at loops) = when (nat_lt 0 loops) (fault WindowInLoop at)
window_in_loop _ = []

-- LoopDepth
abbrev pub deep_loop : Sight → List Mark
deep_loop (loop at loops) = when (nat_le 3 loops) (fault LoopDepth at)
deep_loop _ = []

-- SamePriority
abbrev pub same_priority : Task → Task → Bool
same_priority a b = int_eq a.priority.value b.priority.value

abbrev pub priority_mark : Task → Mark
priority_mark t = fault SamePriority t.priority.at

abbrev pub same_priorities : List Task → List Mark
same_priorities tasks = map priority_mark (repeats same_priority tasks)

-- BadBound
abbrev pub bad_bound : Sight → List Mark
bad_bound (bound n most) = when (not (is_within n.value most)) (fault BadBound n.at)
bad_bound _ = []

-- what is wrong with one sight, where names are declared so
abbrev pub sight_marks : (List ℕ → Option DeclKind) → Sight → List Mark
sight_marks kind s =
    unknown_name kind s ++ (wrong_type kind s ++ (not_a_port kind s ++ (window_in_loop s ++ (deep_loop s ++ bad_bound s))))

abbrev pub task_marks : Task → List Mark
task_marks t =
    many_names t ++ (many_words t ++ (many_nodes t ++ (many_windows t
    ++ (twice_names t ++ flat_map (sight_marks (kind_of t.decls)) (task_sights t)))))

-- the faults and limits of a program
abbrev pub marks : List Task → List Mark
marks tasks = many_tasks tasks ++ (twice_tasks tasks ++ (same_priorities tasks ++ flat_map task_marks tasks))
