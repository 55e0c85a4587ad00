-- What contracts see of a parser: the tokens that are left, and how the machine goes on with them.
use Rattle.std.specs.Prelude.{◌≡◌, ◌<◌, ◌≤◌, ◌==◌, if◌then◌else◌, length, Bool, true, false, Option, Some, None, List, [], ◌∷◌, ◌++◌, Result, Ok, Err}
use Rattle.tcel_num.specs.declared.at.At.{At}
use Rattle.tcel_token.specs.declared.token.TokenKind.{TokenKind}
use Rattle.tcel_token.specs.Terminal.{Terminal, terminals}
use Rattle.tcel_grammar.specs.Expressions.{IsPlaced, Level, binary_of, unary_of, level_of}
use Rattle.tcel_grammar.specs.Machine.{Symbol, Counts, Outcome, stopped, deep, run, move, first, reads, rank}
use Rattle.tcel_num.specs.declared.op.Op.{Op}
use Rattle.tcel_parse.specs.declared.fail.ParseFail.{ParseFail}
use Rattle.tcel_parse.specs.declared.fail.Stop.{Stop}
use Rattle.tcel_parse.specs.declared.parser.Parser.{Parser}
use Rattle.tcel_tree.specs.declared.stmt.Stmt.{Stmt}
use Rattle.tcel_tree.specs.Language.{Branch, absent, present}
use Rattle.tcel_tree.specs.Plain.{plain_block}

-- the tokens that are left
abbrev pub left : Parser → List Terminal
left p = terminals p.rest.now

abbrev pub counts : Parser → Counts
counts p = record { brackets = p.brackets; operators = p.operators }

-- whether the first of the tokens passes a test
abbrev pub sees : (TokenKind → Bool) → List Terminal → Bool
sees test [] = false
sees test (t ∷ ts) = test t.kind

-- how the machine ends that starts here with these symbols
unfoldable pub reach : List Symbol → Parser → Outcome
reach k p = run (counts p) k (left p)

-- how the machine ends where the parser does
unfoldable pub fails : Stop → Outcome → List Terminal → Outcome
fails Stop.Syntax start rest = stopped rest
fails (Stop.TooDeep what) start rest = deep what rest
fails Stop.NoMemory start rest = start

-- how the machine ends: as it does from where the parser came, or where the parser fails
abbrev pub gives : {A : Type 0} → Result A Stop → Outcome → Outcome → List Terminal → Outcome
gives (Ok value) start later rest = later
gives (Err stop) start later rest = fails stop start rest

-- the parser reads what the machine reads for the first symbols, and leaves it with the others
abbrev pub Gives : {A : Type 0} → Result A Stop → Parser → Parser → List Symbol → List Symbol → Type 0
Gives result old new before after =
    (k : List Symbol) → reach (before ++ k) old ≡ gives result (reach (before ++ k) old) (reach (after ++ k) new) (left new)

-- the same for each symbol that reads the first of the tokens
abbrev pub Takes : {A : Type 0} → Result A Stop → Parser → Parser → Type 0
Takes result old new = (x : Symbol) (after : List Symbol) → first x (left old) ≡ reads after → Gives result old new (x ∷ []) after

-- the same for each symbol that reads a token of this kind
abbrev pub TakesKind : {A : Type 0} → TokenKind → Result A Stop → Parser → Parser → Type 0
TakesKind kind result old new = (x : Symbol) (after : List Symbol) → move x kind ≡ reads after → Gives result old new (x ∷ []) after

-- some token stands here
abbrev pub IsHead : List Terminal → At → List Terminal → Type 0
IsHead ts at rest = (kind : TokenKind) × IsPlaced kind ts at rest

-- fewer tokens are left
abbrev pub GoesOn : Parser → Parser → Type 0
GoesOn old new = length new.rest.now < length old.rest.now

-- the operator between operands that stands here, if it is of this level
abbrev pub of_level : Level → Option Op → Option Op
of_level level None = None
of_level level (Some op) = if rank (level_of op) == rank level then Some op else None

abbrev pub operator_at : Level → List Terminal → Option Op
operator_at level [] = None
operator_at level (t ∷ ts) = of_level level (binary_of t.kind)

-- the operator in front of an operand that stands here
abbrev pub unary_at : List Terminal → Option Op
unary_at [] = None
unary_at (t ∷ ts) = unary_of t.kind

-- what stands behind the block of an `if`
abbrev pub plain_branch : Option (List Stmt) → Branch
plain_branch None = absent
plain_branch (Some b) = present (plain_block b)

-- no more tokens are left
abbrev pub GoesNotBack : Parser → Parser → Type 0
GoesNotBack old new = length new.rest.now ≤ length old.rest.now

abbrev pub is_done : List Terminal → Bool
is_done [] = true
is_done (t ∷ ts) = false

-- the fault of a text in which the parser stopped at this place
abbrev pub fault_of : Stop → At → ParseFail
fault_of Stop.Syntax at = ParseFail.Syntax at
fault_of (Stop.TooDeep what) at = ParseFail.TooDeep at what
fault_of Stop.NoMemory at = ParseFail.NoMemory
