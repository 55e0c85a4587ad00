-- Each stack reads some tokens, and what the first stack reads is a program.
use Rattle.std.proofs.Common.{◌≡◌, true, List, [], ◌∷◌, None, inl, pos, refl, subst}
use Rattle.tcel_num.specs.declared.at.At.{At}
use Rattle.tcel_token.specs.declared.keyword.Keyword.{Keyword}
use Rattle.tcel_token.specs.declared.sign.Sign.{Sign}
use Rattle.tcel_token.specs.declared.token.TokenKind.{TokenKind}
use Rattle.tcel_token.specs.Terminal.{Terminal}
use Rattle.tcel_tree.specs.Language.{Task, truth}
use Rattle.tcel_grammar.specs.Expressions.{placed, here, there, a_conjunction, a_comparison, a_sum, a_term, a_factor, an_atom, yes}
use Rattle.tcel_grammar.specs.Statements.{IsWhole, numbered, unsaid, said, window, block, no_more, assigned}
use Rattle.tcel_grammar.specs.Programs.{set, set_true, an_int, no_decl, every, IsTask, task, IsProgram, last_task, one_task}
use Rattle.tcel_grammar.specs.Machine.{Symbol, this_word, this_sign, any_name, any_number, operand, behind_operand, behind_name, more_stmts, one_block, behind_target, do_clauses, behind_start, behind_after, last_clause, more_decls, task_block, behind_keeper, behind_int, behind_bool, first_int, first_bool, more_tasks, program}
use Rattle.tcel_grammar.proofs.Languages.{no_tail, Decls, Tasks, no_task, and_task, L, All, none, also}
use Rattle.tcel_grammar.proofs.Sound.{as_operand, as_stmts, no_int, no_bool}

-- a token at the first place
abbrev some : TokenKind → Terminal
some kind = placed kind (record { line = 1; column = 1 })

abbrev a_sign : Sign → Terminal
a_sign s = some (TokenKind.Sign s)

abbrev a_word : Keyword → Terminal
a_word w = some (TokenKind.Word w)

abbrev one : Terminal
one = some (TokenKind.Number (pos 1))

-- `true` is an expression
a_truth : {at : At} {rest : List Terminal} → IsWhole (placed (TokenKind.Word Keyword.True) at ∷ rest) (truth at true) rest
a_truth = a_conjunction (a_comparison (a_sum (a_term (a_factor (an_atom (yes here))))))

-- each symbol reads something in front of any tokens
can_be : (x : Symbol) (rest : List Terminal) → (ts : List Terminal) × L x ts rest
can_be (this_word w) rest = (a_word w ∷ rest, there)
can_be (this_sign s) rest = (a_sign s ∷ rest, there)
can_be any_name rest = (some (TokenKind.Name (120 ∷ [])) ∷ rest, (_, _, here))
can_be any_number rest = (one ∷ rest, (_, numbered here))
can_be (operand signed c) rest = (a_word Keyword.True ∷ rest, (_, rest, as_operand signed (yes here), no_tail))
can_be (behind_operand below c) rest = (rest, no_tail)
can_be (behind_name c) rest = (rest, inl no_tail)
can_be (more_stmts o) rest = (a_sign Sign.RightBrace ∷ rest, as_stmts o (_, _, no_more, there))
can_be one_block rest = (a_sign Sign.LeftBrace ∷ a_sign Sign.RightBrace ∷ rest, (_, block there no_more there))
can_be behind_target rest =
    (a_sign Sign.Becomes ∷ a_word Keyword.True ∷ a_sign Sign.Semicolon ∷ rest, λ n at. (_, assigned here there a_truth there))
can_be do_clauses rest = (rest, (_, window unsaid unsaid unsaid))
can_be behind_start rest = (a_word Keyword.After ∷ one ∷ rest, λ at. (_, window (said there there (numbered here)) unsaid unsaid))
can_be behind_after rest = (rest, (None, None, rest, unsaid, unsaid))
can_be last_clause rest = (rest, (None, unsaid))
can_be more_decls rest = (
  a_word Keyword.Every ∷ one ∷ a_sign Sign.LeftBrace ∷ a_sign Sign.RightBrace ∷ a_sign Sign.RightBrace ∷ rest,
  ([], _, _, _, _, _, no_decl, every there (numbered here) unsaid (block there no_more there), there),
)
can_be task_block rest =
    let d = can_be_decls rest in (a_sign Sign.LeftBrace ∷ d.0, (_, there, d.1))
  where
    can_be_decls : (rest : List Terminal) → (ts : List Terminal) × Decls ts rest
    can_be_decls rest = (
      a_word Keyword.Every ∷ one ∷ a_sign Sign.LeftBrace ∷ a_sign Sign.RightBrace ∷ a_sign Sign.RightBrace ∷ rest,
      ([], _, _, _, _, _, no_decl, every there (numbered here) unsaid (block there no_more there), there),
    )
can_be (behind_keeper state) rest =
    (a_word Keyword.Int ∷ some (TokenKind.Name (120 ∷ [])) ∷ a_sign Sign.Semicolon ∷ rest, λ at. (_, an_int there there here (no_int state).1 there))
can_be (behind_int state) rest = (rest, no_int state)
can_be (behind_bool state) rest = (rest, no_bool state)
can_be first_int rest = (one ∷ rest, λ at. (_, set there here))
can_be first_bool rest = (a_word Keyword.True ∷ rest, λ at. (_, set_true there there))
can_be more_tasks rest = (rest, no_task)

-- each stack reads some tokens to their end
pub can_come : (k : List Symbol) → (ts : List Terminal) × All k ts []
can_come [] = ([], none)
can_come (x ∷ k) = let r = can_come k in let s = can_be x r.0 in (s.0, also s.1 r.1)

tasks_are : {ts a rest : List Terminal} {t : Task} → Tasks a rest → rest ≡ [] → IsTask ts t a → (p : List Task) × IsProgram ts p
tasks_are {ts} {t = t} no_task e d = let P : List Terminal → Type 0 = λ r. IsTask ts t r in (_, last_task (subst P e d))
tasks_are (and_task u more) e d = let r = tasks_are more e u in (_, one_task d r.1)

-- what the first stack reads is a program
pub program_of : (ts : List Terminal) → All program ts [] → (p : List Task) × IsProgram ts p
program_of ts (also start (also (n, at, name) (also priority (also (m, p) (also (a, brace, (ds, period, finish, b, c, e, decls, does, close)) (also others none)))))) =
    tasks_are others refl (task start name priority p brace decls does close)
