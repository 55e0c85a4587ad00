-- The canonical text of a program is read as the program again.
use Rattle.std.proofs.Common.{ℕ, List, [], ◌∷◌, refl, ap, subst}
use Rattle.std.specs.List.{AllByRecursion}
use Rattle.std.proofs.lemmas.List.Elements.{recursion_from_All}
use Rattle.tcel_token.specs.declared.token.Tokens.{Tokens}
use Rattle.tcel_token.specs.declared.token.TokenKind.{TokenKind}
use Rattle.tcel_token.specs.Terminal.{Terminal, terminals, kinds}
use Rattle.tcel_token.specs.Tokens.{HasTokens}
use Rattle.tcel_token.specs.WellFormed.{IsWritable}
use Rattle.tcel_token.proofs.Rising.{writable}
use Rattle.tcel_tree.specs.Language.{Task}
use Rattle.tcel_grammar.specs.Faults.{IsAccepted, IsShallow}
use Rattle.tcel_grammar.specs.Programs.{IsProgram, last_task, one_task}
use Rattle.tcel_show.specs.Canonical.{program_tokens}
use Rattle.tcel_show.specs.Layout.{whole_text}
use Rattle.tcel_show.specs.ReadsBack.{ReadsBack}
use Rattle.tcel_show.specs.Text.{canonical_text}
use Rattle.tcel_show.proofs.Lighter.{none, shallow}
use Rattle.tcel_show.proofs.LighterPrograms.{program_lightens}
use Rattle.tcel_show.proofs.ReadExprs.{Spells, Writable}
use Rattle.tcel_show.proofs.ReadPrograms.{KnowsProgram, program_known}
use Rattle.tcel_show.proofs.LaidTokens.{HasKinds, laid_tokens}
use Rattle.tcel_show.proofs.SameTokens.{same_tokens}

kinds_writable : (ts : List Terminal) → AllByRecursion (λ (t : Terminal). IsWritable t.kind) ts → Writable (kinds ts)
kinds_writable [] h = tt
kinds_writable (t ∷ ts) h = (h.0, kinds_writable ts h.1)

-- tokens are spelled by their kinds
spelled : (ts : List Terminal) → Spells (kinds ts) ts []
spelled [] = refl
spelled (t ∷ ts) = (ts, record { at = t.at; is = refl }, spelled ts)

-- tokens of the canonical kinds
spells_laid : (p : List Task) (laid : HasKinds (canonical_text p) (program_tokens p)) → Spells (program_tokens p) (terminals laid.tokens.list) []
spells_laid p laid = subst (λ (ks : List TokenKind). Spells ks (terminals laid.tokens.list) []) laid.kinds (spelled (terminals laid.tokens.list))

-- canonical tokens that are laid out, read by the grammar
read_by : (p : List Task) → KnowsProgram p → HasKinds (canonical_text p) (program_tokens p) → ReadsBack p
read_by p knows laid =
    let read = knows.reads (terminals laid.tokens.list) (spells_laid p laid) in
    record {
      tokens = laid.tokens;
      read = laid.read;
      program = read.tree;
      grammar = read.grammar;
      same = read.same;
      again = ap whole_text (same_tokens read.tree p read.same);
    }

laid_program : {ts : List Terminal} (p : List Task) → IsProgram ts p → Writable (program_tokens p) → HasKinds (canonical_text p) (program_tokens p)
laid_program _ (last_task d) w = laid_tokens _ _ w
laid_program _ (one_task d ds) w = laid_tokens _ _ w

tokens_writable : (text : List ℕ) (tokens : Tokens) → HasTokens text tokens → Writable (kinds (terminals tokens.list))
tokens_writable text tokens read =
    let ts = terminals tokens.list in
    kinds_writable ts (recursion_from_All (λ (t : Terminal). IsWritable t.kind) ts (writable text tokens read))

-- a program that the grammar makes of the tokens of some text is read back
pub reads_back : (text : List ℕ) (tokens : Tokens) (p : List Task) → HasTokens text tokens → IsProgram (terminals tokens.list) p → ReadsBack p
reads_back text tokens p read program =
    let knows = program_known program (tokens_writable text tokens read) in
    read_by p knows (laid_program p program knows.tokens)

-- where none of those tokens is too deep, none of the canonical ones is
pub reads_back_shallow : (text : List ℕ) (tokens : Tokens) (p : List Task) → HasTokens text tokens → IsAccepted (terminals tokens.list) p →
    (back : ReadsBack p) × IsShallow (terminals back.tokens.list)
unfolding read_by
reads_back_shallow text tokens p read accepted =
    let w = tokens_writable text tokens read in
    let knows = program_known accepted.program w in
    let laid = laid_program p accepted.program knows.tokens in
    let lighter = (program_lightens accepted.program w).so (terminals laid.tokens.list) [] (spells_laid p laid) 0 none in
    (read_by p knows laid, shallow lighter accepted.shallow)
