-- The programs that bytes are, for every command that reads one; and what is refused of bytes that are none.
use Rattle.std.specs.Prelude.{◌≡◌, ℕ, ◌⊎◌, List}
use Rattle.tcel_grammar.specs.Faults.{IsAccepted, IsDepthFault, IsSyntaxFault}
use Rattle.tcel_grammar.specs.declared.deep.Deep.{Deep}
use Rattle.tcel_grammar.specs.declared.deep.Deep.TheVariants as deep
use Rattle.tcel_num.specs.declared.at.At.{At}
use Rattle.tcel_token.specs.Terminal.{terminals}
use Rattle.tcel_token.specs.Tokens as lexical
use Rattle.tcel_token.specs.declared.fail.LexFail.{LexFail}
use Rattle.tcel_token.specs.declared.fail.LexFail.TheVariants as lex
use Rattle.tcel_token.specs.declared.token.Tokens.{Tokens}
use Rattle.tcel_tree.specs.Language.{Task}
use Rattle.tcel_tool.specs.declared.status.LimitFault.TheVariants as limits
use Rattle.tcel_tool.specs.declared.status.ProgramKind.TheVariants.{BadByte, BadNumber, NameTooLong, Unexpected}
use Rattle.tcel_tool.specs.declared.status.Status.{Status}
use Rattle.tcel_tool.specs.declared.status.Status.TheVariants.{Limit, Program}

-- the most bytes of a program
abbrev pub program_limit : ℕ
program_limit = 1048576

-- the bytes have tokens, which are this program's
pub record IsProgramText (text : List ℕ) (tasks : List Task) : Type 0 where
  pub tokens : Tokens
  pub lexed : lexical.HasTokens text tokens
  pub parsed : IsAccepted (terminals tokens.list) tasks

-- a fault among the bytes, with this status
abbrev pub IsLexical : LexFail → Status → Type 0
IsLexical (lex.BadByte at) status = status ≡ Program BadByte at
IsLexical (lex.BadNumber at) status = status ≡ Program BadNumber at
IsLexical (lex.NameTooLong at) status = status ≡ Program NameTooLong at
IsLexical lex.NoMemory status = ⊥

-- too much of this stands at a place, with this status
abbrev pub IsDeep : Deep → At → Status → Type 0
IsDeep deep.Nesting at status = status ≡ Limit (limits.Nesting at)
IsDeep deep.Operators at status = status ≡ Limit (limits.Operators at)

-- a fault among the tokens, with this status: the first one behind which no program goes on, or the first that is too deep
abbrev pub IsGrammatical : Tokens → Status → Type 0
IsGrammatical tokens status =
    ((at : At) × (status ≡ Program Unexpected at) × IsSyntaxFault (terminals tokens.list) tokens.end at)
    ⊎ ((what : Deep) × (at : At) × IsDeep what at status × IsDepthFault (terminals tokens.list) what at)

-- the first fault of the bytes; where they have tokens, the first of these
abbrev pub RefusesText : List ℕ → Status → Type 0
RefusesText text status =
    ((fail : LexFail) × IsLexical fail status × lexical.HasFault text fail)
    ⊎ ((tokens : Tokens) × lexical.HasTokens text tokens × IsGrammatical tokens status)
