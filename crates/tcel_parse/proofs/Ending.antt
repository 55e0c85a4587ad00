-- The end of a program, and the faults of texts that are none.
use Rattle.std.proofs.Common.{◌≡◌, true, false, List, [], ◌∷◌, refl, sym, ◌∙◌, subst}
use Rattle.tcel_num.specs.declared.at.At.{At}
use Rattle.tcel_token.specs.declared.keyword.Keyword.{Keyword}
use Rattle.tcel_token.specs.Terminal.{Terminal}
use Rattle.tcel_grammar.specs.declared.deep.Deep.{Deep}
use Rattle.tcel_grammar.specs.Faults.{IsShallow, IsSyntaxFault, IsDepthFault, place_of}
use Rattle.tcel_grammar.specs.Machine.{program, more_tasks, is_word, Counts, zero_counts, Outcome, accepted, stopped, deep, run}
use Rattle.tcel_grammar.proofs.Tests.{same_word}
use Rattle.tcel_grammar.proofs.Places.{Ends, run_ends}
use Rattle.tcel_parse.specs.declared.fail.ParseFail.{ParseFail}
use Rattle.tcel_parse.specs.declared.fail.Stop.{Stop}
use Rattle.tcel_parse.specs.declared.parser.Parser.{Parser}
use Rattle.tcel_parse.specs.Reading.{left, counts, sees, is_done, reach, fails, fault_of}
use Rattle.tcel_parse.proofs.Reaches.{fails-syntax, fails-deep}

-- another task is read as the first one is
pub next_task : (p : Parser) → sees (is_word Keyword.Task) (left p) ≡ true → reach (more_tasks ∷ []) p ≡ reach program p
unfolding reach run
next_task p e = go (counts p) (left p) e
  where
    go : (c : Counts) (ts : List Terminal) → sees (is_word Keyword.Task) ts ≡ true → run c (more_tasks ∷ []) ts ≡ run c program ts
    go c [] f = cc
    go c (t ∷ ts) f = rw (same_word Keyword.Task t.kind f) refl

-- no more tasks, and tokens are left
pub no_more : (p : Parser) → sees (is_word Keyword.Task) (left p) ≡ false → is_done (left p) ≡ false →
    reach (more_tasks ∷ []) p ≡ fails Stop.Syntax (reach (more_tasks ∷ []) p) (left p)
unfolding reach run
no_more p e f = go (counts p) (left p) e f ∙ sym (fails-syntax (reach (more_tasks ∷ []) p) (left p))
  where
    go : (c : Counts) (ts : List Terminal) → sees (is_word Keyword.Task) ts ≡ false → is_done ts ≡ false → run c (more_tasks ∷ []) ts ≡ stopped ts
    go c [] g h = cc
    go c (t ∷ ts) g h = rw g refl

-- the end
pub done_here : (p : Parser) → is_done (left p) ≡ true → (reach (more_tasks ∷ []) p ≡ accepted) × (left p ≡ [])
unfolding reach run
done_here p e = go (counts p) (left p) e
  where
    go : (c : Counts) (ts : List Terminal) → is_done ts ≡ true → (run c (more_tasks ∷ []) ts ≡ accepted) × (ts ≡ [])
    go c [] f = (refl, refl)
    go c (t ∷ ts) f = cc

-- ---- answers

ends_as : (ts : List Terminal) (end : At) (o : Outcome) → run zero_counts program ts ≡ o → Ends ts end o
ends_as ts end o e = subst (λ (x : Outcome). Ends ts end x) e (run_ends ts end)

pub shallow_is : (ts : List Terminal) (end : At) → run zero_counts program ts ≡ accepted → IsShallow ts
shallow_is ts end e = let h = ends_as ts end accepted e in h.1

pub syntax_is : (ts : List Terminal) (end at : At) (stop : Stop) (rest : List Terminal) → run zero_counts program ts ≡ fails stop (run zero_counts program ts) rest →
    fault_of stop (place_of rest end) ≡ ParseFail.Syntax at → IsSyntaxFault ts end at
syntax_is ts end at Stop.Syntax rest e f =
    let same : place_of rest end ≡ at = cc in
    subst (λ (x : At). IsSyntaxFault ts end x) same (ends_as ts end (stopped rest) (e ∙ fails-syntax _ rest))
syntax_is ts end at (Stop.TooDeep what) rest e f = cc
syntax_is ts end at Stop.NoMemory rest e f = cc

pub deep_is : (ts : List Terminal) (end at : At) (what : Deep) (stop : Stop) (rest : List Terminal) → run zero_counts program ts ≡ fails stop (run zero_counts program ts) rest →
    fault_of stop (place_of rest end) ≡ ParseFail.TooDeep at what → IsDepthFault ts what at
deep_is ts end at what (Stop.TooDeep found) rest e f =
    let same : place_of rest end ≡ at = cc in
    let kind : found ≡ what = cc in
    let P : Deep → Type 0 = λ w. IsDepthFault ts w at in
    subst P kind (subst (λ (x : At). IsDepthFault ts found x) same (ends_as ts end (deep found rest) (e ∙ fails-deep found _ rest)))
deep_is ts end at what Stop.Syntax rest e f = cc
deep_is ts end at what Stop.NoMemory rest e f = cc

-- a parser that stands at the beginning
pub reach_start : (p : Parser) (ts : List Terminal) → left p ≡ ts → p.brackets ≡ 0 → p.operators ≡ 0 → reach program p ≡ run zero_counts program ts
unfolding reach
reach_start p ts e f g = rw (e, f, g) refl

-- ---- the parser's answers

pub accepted_parse : (p : Parser) → reach program p ≡ accepted → (ts : List Terminal) (end : At) → left p ≡ ts → p.brackets ≡ 0 → p.operators ≡ 0 → IsShallow ts
accepted_parse p run ts end e f g = shallow_is ts end (sym (reach_start p ts e f g) ∙ run)

same_failure : (a b : Outcome) (stop : Stop) (rest : List Terminal) → a ≡ b → a ≡ fails stop a rest → b ≡ fails stop b rest
same_failure a b stop rest e h = rw e at h

pub syntax_parse : (p : Parser) (stop : Stop) (rest : List Terminal) → reach program p ≡ fails stop (reach program p) rest → (ts : List Terminal) (end at : At) → left p ≡ ts → p.brackets ≡ 0 →
    p.operators ≡ 0 → fault_of stop (place_of rest end) ≡ ParseFail.Syntax at → IsSyntaxFault ts end at
syntax_parse p stop rest run ts end at e f g h = syntax_is ts end at stop rest (same_failure _ _ stop rest (reach_start p ts e f g) run) h

pub deep_parse : (p : Parser) (stop : Stop) (rest : List Terminal) → reach program p ≡ fails stop (reach program p) rest → (ts : List Terminal) (end at : At) (what : Deep) → left p ≡ ts →
    p.brackets ≡ 0 → p.operators ≡ 0 → fault_of stop (place_of rest end) ≡ ParseFail.TooDeep at what → IsDepthFault ts what at
deep_parse p stop rest run ts end at what e f g h = deep_is ts end at what stop rest (same_failure _ _ stop rest (reach_start p ts e f g) run) h
