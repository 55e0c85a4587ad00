-- Steps of the machine where a parser stands.
use Rattle.std.proofs.Common.{◌≡◌, ◌++◌, List, [], ◌∷◌, Result, Ok, Err, IfOk, IfErr, refl, sym, ap, ◌∙◌, length, get_or, take, drop, subst, ◌<◌, ◌-◌, arith}
use Rattle.std.proofs.lemmas.List.{take_rest}
use Rattle.std.proofs.lemmas.Result.{err_from_is_err_and}
use Rattle.std.specs.Result.{IsErrAnd}
use Rattle.tcel_token.specs.declared.token.Token.{Token}
use Rattle.tcel_token.specs.Terminal.{Terminal, terminal, terminals}
use Rattle.tcel_grammar.specs.declared.deep.Deep.{Deep}
use Rattle.tcel_grammar.specs.Expressions.{IsPlaced, here}
use Rattle.tcel_grammar.specs.Machine.{Symbol, reads, skips, stops, first, within_limits, too_deep, enter, Outcome, stopped, deep}
use Rattle.tcel_grammar.proofs.Steps.{run_reads, run_deep, run_stops, run_skips, run_same}
use Rattle.tcel_parse.specs.declared.fail.Stop.{Stop}
use Rattle.tcel_parse.specs.declared.parser.Parser.{Parser}
use Rattle.tcel_parse.specs.Reading.{left, counts, reach, fails, gives}

-- ---- stops

pub fails-syntax : (start : Outcome) (rest : List Terminal) → fails Stop.Syntax start rest ≡ stopped rest
unfolding fails
fails-syntax start rest = refl

pub fails-deep : (what : Deep) (start : Outcome) (rest : List Terminal) → fails (Stop.TooDeep what) start rest ≡ deep what rest
unfolding fails
fails-deep what start rest = refl

pub fails-memory : (start : Outcome) (rest : List Terminal) → fails Stop.NoMemory start rest ≡ start
unfolding fails
fails-memory start rest = refl

-- ---- steps

-- a token that is taken
pub reach_reads : (p q : Parser) (x : Symbol) (k j : List Symbol) (t : Terminal) → left p ≡ t ∷ left q → first x (left p) ≡ reads j → enter (counts p) t.kind ≡ within_limits (counts q) →
    reach (x ∷ k) p ≡ reach (j ++ k) q
unfolding reach
reach_reads p q x k j t l e h = rw l (run_reads (counts p) x k t (left q) j (counts q) (rw l at e) h)

-- a token that is too deep
pub reach_deep : (p : Parser) (x : Symbol) (k j : List Symbol) (t : Terminal) (ts : List Terminal) (what : Deep) → left p ≡ t ∷ ts → first x (left p) ≡ reads j →
    enter (counts p) t.kind ≡ too_deep what → reach (x ∷ k) p ≡ deep what (left p)
unfolding reach
reach_deep p x k j t ts what l e h = rw l (run_deep (counts p) x k t ts j what (rw l at e) h)

-- a stop
pub reach_stops : (p : Parser) (x : Symbol) (k : List Symbol) → first x (left p) ≡ stops → reach (x ∷ k) p ≡ stopped (left p)
unfolding reach
reach_stops p x k e = run_stops (counts p) x k (left p) e

-- a symbol that is passed over
pub reach_skips : (p : Parser) (x : Symbol) (k : List Symbol) → first x (left p) ≡ skips → reach (x ∷ k) p ≡ reach k p
unfolding reach
reach_skips p x k e = run_skips (counts p) x k (left p) e

-- a symbol in the place of another
pub reach_same : (p : Parser) (x y : Symbol) (k : List Symbol) → first x (left p) ≡ first y (left p) → reach (x ∷ k) p ≡ reach (y ∷ k) p
unfolding reach
reach_same p x y k e = run_same (counts p) x k y (left p) e

-- ---- the first of some tokens

-- a list is its first element and the rest
pub first_of_rest : (xs : List Token) (t : Token) → 0 < length xs → t ≡ get_or xs 0 t → terminals xs ≡ terminal t ∷ terminals (take (length xs - 1) (drop 1 xs))
first_of_rest [] t l e = absurd (omega arith)
first_of_rest (x ∷ xs) t l e = rw (take_rest (x ∷ xs) 1) (ap (λ (y : Token). terminal y ∷ terminals xs) (sym e))

-- the first token is of its own kind
pub head_of : {ts rest : List Terminal} (t : Terminal) → ts ≡ t ∷ rest → IsPlaced t.kind ts t.at rest
head_of {rest = rest} t e = let P : List Terminal → Type 0 = λ us. IsPlaced t.kind us t.at rest in subst P (sym e) here

-- the answer of a parser that stops at a token that is too deep
pub gives_deep : {A : Type 0} (r : Result A Stop) (what : Deep) (start later : Outcome) (rest : List Terminal) → r ≡ Err (Stop.TooDeep what) → start ≡ deep what rest → start ≡ gives r start later rest
gives_deep r what start later rest e h = rw e (rw fails-deep h)

-- ---- exits

-- the exit of a call that stops, behind calls that went on
pub at_exit : {B : Type 0} (r : Result B Stop) (stop : Stop) → IsErrAnd r (λ y. y ≡ stop) → (start mid later : Outcome) (rest : List Terminal) →
    start ≡ mid → mid ≡ fails stop mid rest → start ≡ gives r start later rest
at_exit r stop h start mid later rest e f =
    let p = err_from_is_err_and r h in
    rw (p.1, p.2) (rw e f)

-- the exit of a call that wants memory
pub memory_exit : {B : Type 0} (r : Result B Stop) (stop : Stop) → IsErrAnd r (λ y. y ≡ stop) → stop ≡ Stop.NoMemory → (start later : Outcome) (rest : List Terminal) → start ≡ gives r start later rest
memory_exit r stop h e start later rest =
    let p = err_from_is_err_and r h in
    rw (p.1, p.2, e, fails-memory) refl

-- the answer of a call that is handed on, behind calls that went on
pub handed_on : {B : Type 0} (r : Result B Stop) (start mid later : Outcome) (rest : List Terminal) → start ≡ mid → mid ≡ gives r mid later rest → start ≡ gives r start later rest
handed_on (Ok value) start mid later rest e f = e ∙ f
handed_on (Err stop) start mid later rest e f = rw e f

-- the answer of a call that makes a node, behind calls that went on
pub made : {B : Type 0} (r : Result B Stop) → IfErr r (λ stop. stop ≡ Stop.NoMemory) → (start later : Outcome) (rest : List Terminal) → start ≡ later → start ≡ gives r start later rest
made (Ok value) h start later rest e = e
made (Err stop) h start later rest e = rw (h, fails-memory) refl

pub if_ok_from : {B : Type 0} (P Q : B → Type 0) (r : Result B Stop) → ((x : B) → P x → Q x) → IfOk r P → IfOk r Q
if_ok_from P Q (Ok value) f h = f value h
if_ok_from P Q (Err stop) f h = h

-- a stop behind calls that went on
pub stopped_at : (stop : Stop) (start mid : Outcome) (rest : List Terminal) → start ≡ mid → mid ≡ fails stop mid rest → start ≡ fails stop start rest
stopped_at stop start mid rest e f = rw e f
