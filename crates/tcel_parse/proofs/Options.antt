-- What the machine does where a part that may be left out doesn't stand, or nothing that may come.
use Rattle.std.proofs.Common.{◌≡◌, Bool, true, false, ℤ, List, [], ◌∷◌, refl}
use Rattle.std.proofs.Math.Bool.{and-false}
use Rattle.tcel_token.specs.declared.keyword.Keyword.{Keyword}
use Rattle.tcel_token.specs.declared.sign.Sign.{Sign}
use Rattle.tcel_token.specs.declared.token.TokenKind.{TokenKind}
use Rattle.tcel_token.specs.Terminal.{Terminal}
use Rattle.tcel_tree.specs.declared.placed.Placed.{Placed}
use Rattle.tcel_num.specs.Arithmetic.{unary_value}
use Rattle.tcel_num.specs.declared.op.Op.{Op}
use Rattle.tcel_grammar.specs.Expressions.{IsToken}
use Rattle.tcel_grammar.specs.Statements.{IsNumber, numbered}
use Rattle.tcel_grammar.specs.Programs.{IsFirst, set, set_below, IsInt, a_state}
use Rattle.tcel_parse.specs.Parts.{IsSet}
use Rattle.tcel_tree.specs.declared.task.DeclKind.{DeclKind}
use Rattle.std.proofs.Common.{Some}
use Rattle.tcel_grammar.specs.Machine.{reads, skips, stops, first, move, is_word, is_sign, is_name, is_numeral, more_stmts, one_block, behind_target, do_clauses, behind_start, behind_after, last_clause, more_decls, task_block, behind_keeper, behind_int, behind_bool, first_int, first_bool}
use Rattle.tcel_parse.specs.Reading.{sees}

-- ---- windows

pub no_start : (ts : List Terminal) → sees (is_word Keyword.Start) ts ≡ false → first do_clauses ts ≡ first last_clause ts
no_start [] e = refl
no_start (t ∷ ts) e = rw e refl

pub no_before : (ts : List Terminal) → sees (is_word Keyword.Start) ts ≡ false → first behind_after ts ≡ first last_clause ts
no_before [] e = refl
no_before (t ∷ ts) e = rw e refl

pub no_within : (ts : List Terminal) → sees (is_word Keyword.Finish) ts ≡ false → first last_clause ts ≡ skips
no_within [] e = refl
no_within (t ∷ ts) e = rw e refl

pub no_bound : (ts : List Terminal) → sees (is_word Keyword.After) ts ≡ false → sees (is_word Keyword.Before) ts ≡ false → first behind_start ts ≡ stops
no_bound [] e f = refl
no_bound (t ∷ ts) e f = rw (e, f) refl

-- ---- statements

pub no_brace : (ts : List Terminal) → sees (is_sign Sign.LeftBrace) ts ≡ false → first one_block ts ≡ stops
no_brace [] e = refl
no_brace (t ∷ ts) e = rw e refl

pub no_else : (ts : List Terminal) → sees (is_word Keyword.Else) ts ≡ false → first (more_stmts true) ts ≡ first (more_stmts false) ts
no_else [] e = refl
no_else (t ∷ ts) e = rw e refl

pub no_target : (ts : List Terminal) → sees (is_sign Sign.Becomes) ts ≡ false → sees (is_sign Sign.LeftSquare) ts ≡ false → first behind_target ts ≡ stops
no_target [] e f = refl
no_target (t ∷ ts) e f = rw (e, f) refl

pub no_statement : (ts : List Terminal) → sees (is_sign Sign.RightBrace) ts ≡ false → sees is_name ts ≡ false → sees (is_word Keyword.Receive) ts ≡ false → sees (is_word Keyword.Send) ts ≡ false →
    sees (is_word Keyword.If) ts ≡ false → sees (is_word Keyword.For) ts ≡ false → sees (is_word Keyword.While) ts ≡ false → sees (is_word Keyword.Do) ts ≡ false → first (more_stmts false) ts ≡ stops
no_statement [] a b c d e f g h = refl
no_statement (t ∷ ts) a b c d e f g h = rw (a, b, c, d, e, f, g, h, and-false (is_word Keyword.Else t.kind)) refl

-- ---- declarations

pub no_decl_here : (ts : List Terminal) → sees (is_word Keyword.Every) ts ≡ false → sees (is_word Keyword.Input) ts ≡ false → sees (is_word Keyword.Output) ts ≡ false →
    sees (is_word Keyword.Local) ts ≡ false → sees (is_word Keyword.State) ts ≡ false → first more_decls ts ≡ stops
no_decl_here [] a b c d e = refl
no_decl_here (t ∷ ts) a b c d e = rw (b, c, d, e, a) refl

pub no_task_brace : (ts : List Terminal) → sees (is_sign Sign.LeftBrace) ts ≡ false → first task_block ts ≡ stops
no_task_brace [] e = refl
no_task_brace (t ∷ ts) e = rw e refl

pub no_type : (state : Bool) (ts : List Terminal) → sees (is_word Keyword.Int) ts ≡ false → sees (is_word Keyword.Bool) ts ≡ false → first (behind_keeper state) ts ≡ stops
no_type state [] e f = refl
no_type state (t ∷ ts) e f = rw (e, f) refl

pub no_local_value : (state : Bool) (ts : List Terminal) → state ≡ false → sees (is_sign Sign.LeftSquare) ts ≡ false → first (behind_int state) ts ≡ skips
no_local_value state [] e f = refl
no_local_value state (t ∷ ts) e f = rw (e, f, and-false (is_sign Sign.Is t.kind)) refl

pub no_value : (state : Bool) (ts : List Terminal) → sees (is_sign Sign.LeftSquare) ts ≡ false → sees (is_sign Sign.Is) ts ≡ false → first (behind_int state) ts ≡ skips
no_value state [] e f = refl
no_value state (t ∷ ts) e f = rw (e, f) refl

pub no_local_truth : (state : Bool) (ts : List Terminal) → state ≡ false → first (behind_bool state) ts ≡ skips
no_local_truth state [] e = refl
no_local_truth state (t ∷ ts) e = rw (e, and-false (is_sign Sign.Is t.kind)) refl

pub no_truth : (state : Bool) (ts : List Terminal) → sees (is_sign Sign.Is) ts ≡ false → first (behind_bool state) ts ≡ skips
no_truth state [] e = refl
no_truth state (t ∷ ts) e = rw e refl

pub reads_value : (state : Bool) → state ≡ true → move (behind_int state) (TokenKind.Sign Sign.Is) ≡ reads (first_int ∷ [])
reads_value state e = rw e refl

pub reads_truth : (state : Bool) → state ≡ true → move (behind_bool state) (TokenKind.Sign Sign.Is) ≡ reads (first_bool ∷ [])
reads_truth state e = rw e refl

pub no_first_int : (ts : List Terminal) → sees is_numeral ts ≡ false → sees (is_sign Sign.Minus) ts ≡ false → first first_int ts ≡ stops
no_first_int [] e f = refl
no_first_int (t ∷ ts) e f = rw (e, f) refl

pub no_first_bool : (ts : List Terminal) → sees (is_word Keyword.True) ts ≡ false → sees (is_word Keyword.False) ts ≡ false → first first_bool ts ≡ stops
no_first_bool [] e f = refl
no_first_bool (t ∷ ts) e f = rw (e, f) refl

pub number_set : {before ts rest : List Terminal} {n : Placed} → IsToken (TokenKind.Sign Sign.Is) before ts → IsNumber ts n rest → (v : ℤ) → v ≡ n.value → IsFirst before (Some v) rest
number_set {before} {rest = rest} d (numbered e) v f = rw f (set d e)

pub number_below : {before ts us rest : List Terminal} {n : Placed} → IsToken (TokenKind.Sign Sign.Is) before ts → IsToken (TokenKind.Sign Sign.Minus) ts us → IsNumber us n rest →
    (m : ℤ) → m ≡ unary_value Op.Neg n.value → (v : ℤ) → v ≡ m → IsFirst before (Some v) rest
number_below d sign (numbered e) m f v g = rw (g, f) (set_below d sign e)

pub int_set : (state : Bool) → state ≡ true → {ts a rest : List Terminal} {n : ℤ} → IsToken (TokenKind.Sign Sign.Is) ts a → IsSet a n rest → (v : ℤ) → v ≡ n →
    IsInt state ts (DeclKind.Int true (Some v)) rest
int_set state e {ts} d h v f = rw (e, f) (a_state (h ts d))
