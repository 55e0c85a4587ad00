-- How the machine ends says whether tokens are a program's, and where they go wrong.
use Rattle.std.proofs.Common.{◌≡◌, ◌+◌, ◌≤◌, Bool, true, false, List, [], ◌∷◌, ◌++◌, Option, Some, None, refl, sym, ap, ◌∙◌, subst, arith, append_assoc, nat_lt}
use Rattle.std.proofs.lemmas.Bool.{true≢false, ltb-true, ltb-false}
use Rattle.std.proofs.lemmas.List.{append-nil}
use Rattle.tcel_num.specs.declared.at.At.{At}
use Rattle.tcel_token.specs.Terminal.{Terminal}
use Rattle.tcel_grammar.specs.declared.deep.Deep.{Deep}
use Rattle.tcel_grammar.specs.Programs.{Begins}
use Rattle.tcel_grammar.specs.Faults.{is_opening, is_operator, unclosed, operators, IsTooDeep, IsShallow, place_of, IsSyntaxFault, IsDepthFault}
use Rattle.tcel_grammar.specs.Machine.{Symbol, program, step, ends, Counts, zero_counts, Entered, within_limits, too_deep, enter, counts_after, brackets_after, operators_after, Outcome, accepted, stopped, deep, ended, after_token, run}
use Rattle.tcel_grammar.proofs.Accepts.{accepts}
use Rattle.tcel_grammar.proofs.Complete.{reads_program}
use Rattle.tcel_grammar.proofs.Languages.{All}
use Rattle.tcel_grammar.proofs.Sound.{step_back}
use Rattle.tcel_grammar.proofs.Finish.{can_come, program_of}
use Rattle.tcel_grammar.proofs.Weights.{weight, step_weighs}
use Rattle.tcel_grammar.proofs.Counting.{openings, closings, openings-push, closings-push, unclosed-push, operators-push, EnteredBy, enters, shallow-push, shallow-nil}

-- the machine has come behind these tokens with this stack and these counts
record Stands (front : List Terminal) (k : List Symbol) (c : Counts) : Type 0 where
  forth : (more : List Terminal) → accepts program (front ++ more) ≡ accepts k more
  back : (more : List Terminal) → All k more [] → All program (front ++ more) []
  balanced : closings front + weight k ≤ openings front
  brackets : c.brackets ≡ unclosed front
  operators : c.operators ≡ operators front
  shallow : IsShallow front

begins_there : {front : List Terminal} {k : List Symbol} {c : Counts} → Stands front k c → Begins front
begins_there {front} {k} s = let m = can_come k in let p = program_of _ (s.back m.0 m.1) in (m.0, p.0, p.1)

at_start : Stands [] program zero_counts
at_start = record { forth = λ more. refl; back = λ more h. h; balanced = omega arith; brackets = refl; operators = refl; shallow = shallow-nil }

-- how reading may end, for tokens and the place of their end
abbrev pub Ends : List Terminal → At → Outcome → Type 0
Ends ts end accepted = (accepts program ts ≡ true) × IsShallow ts
Ends ts end (stopped rest) = IsSyntaxFault ts end (place_of rest end)
Ends ts end (deep what rest) = IsDepthFault ts what (place_of rest end)

-- what the counts say of a token that is entered
not_too_deep : (front : List Terminal) (t : Terminal) (c d : Counts) → c.brackets ≡ unclosed front → c.operators ≡ operators front →
    EnteredBy (is_opening t.kind) (nat_lt c.brackets 32) (is_operator t.kind) (nat_lt c.operators 64) (counts_after c t.kind) (within_limits d) →
    (what : Deep) → ¬ IsTooDeep what front t
not_too_deep front t c d b o h Deep.Nesting (opens, many) = let few = ltb-true c.brackets 32 (h.1 opens) in omega arith
not_too_deep front t c d b o h Deep.Operators (is, many) = let few = ltb-true c.operators 64 (h.2 is) in omega arith

-- what they say of one that is too deep
is_too_deep : (front : List Terminal) (t : Terminal) (c : Counts) → c.brackets ≡ unclosed front → c.operators ≡ operators front → (what : Deep) →
    EnteredBy (is_opening t.kind) (nat_lt c.brackets 32) (is_operator t.kind) (nat_lt c.operators 64) (counts_after c t.kind) (too_deep what) → IsTooDeep what front t
is_too_deep front t c b o Deep.Nesting h = let many = ltb-false c.brackets 32 h.1 in (h.0, omega arith)
is_too_deep front t c b o Deep.Operators h = let many = ltb-false c.operators 64 h.1 in (h.0, omega arith)

entered_as : (c : Counts) (t : Terminal) (e : Entered) → enter c t.kind ≡ e →
    EnteredBy (is_opening t.kind) (nat_lt c.brackets 32) (is_operator t.kind) (nat_lt c.operators 64) (counts_after c t.kind) e
entered_as c t e h =
    let P : Entered → Type 0 = λ y. EnteredBy (is_opening t.kind) (nat_lt c.brackets 32) (is_operator t.kind) (nat_lt c.operators 64) (counts_after c t.kind) y in
    subst P h (enters c t.kind)

-- a token may come: the machine accepts what it accepts behind it
one_step : (k : List Symbol) (t : Terminal) (j : List Symbol) → step k t.kind ≡ Some j → (more : List Terminal) → accepts k (t ∷ more) ≡ accepts j more
one_step k t j e more = rw e refl

stands_next : (front : List Terminal) (t : Terminal) (k j : List Symbol) (c d : Counts) → Stands front k c → step k t.kind ≡ Some j → enter c t.kind ≡ within_limits d →
    Stands (front ++ t ∷ []) j d
stands_next front t k j c d s e h =
    let facts = entered_as c t (within_limits d) h in
    let weighs = step_weighs k t.kind j e in
    let o = openings-push front t in
    let l = closings-push front t in
    let balance = s.balanced in
    let few : closings front ≤ openings front = omega arith in
    let u = unclosed-push front t few in
    let v = operators-push front t in
    record {
      forth = λ more. ap (accepts program) (append_assoc front (t ∷ []) more) ∙ s.forth (t ∷ more) ∙ one_step k t j e more;
      back = λ more all. let P : List Terminal → Type 0 = λ y. All program y [] in subst P (sym (append_assoc front (t ∷ []) more)) (s.back (t ∷ more) (step_back k t j e more all));
      balanced = omega arith;
      brackets = ap (λ (x : Counts). x.brackets) facts.0 ∙ ap (λ n. brackets_after n t.kind) s.brackets ∙ sym u;
      operators = ap (λ (x : Counts). x.operators) facts.0 ∙ ap (λ n. operators_after n t.kind) s.operators ∙ sym v;
      shallow = shallow-push front t s.shallow (not_too_deep front t c d s.brackets s.operators facts);
    }

-- the end of the tokens
ends_here : (front : List Terminal) (k : List Symbol) (c : Counts) (end : At) → Stands front k c → (b : Bool) → ends k ≡ b → Ends front end (ended b)
ends_here front k c end s true e = (ap (accepts program) (sym (append-nil front)) ∙ s.forth [] ∙ e, s.shallow)
ends_here front k c end s false e =
    record {
      front = front;
      rest = [];
      split = sym (append-nil front);
      begins = begins_there s;
      stops = λ p is. absurd (true≢false (sym (reads_program is) ∙ ap (accepts program) (sym (append-nil front)) ∙ s.forth [] ∙ e));
      shallow = s.shallow;
      place = refl;
    }

-- a token that can't come
stops_here : (front : List Terminal) (t : Terminal) (ts : List Terminal) (k : List Symbol) (c : Counts) (end : At) → Stands front k c → step k t.kind ≡ None →
    Ends (front ++ t ∷ ts) end (stopped (t ∷ ts))
stops_here front t ts k c end s e =
    record {
      front = front;
      rest = t ∷ ts;
      split = refl;
      begins = begins_there s;
      stops = no_program;
      shallow = s.shallow;
      place = refl;
    }
  where
    stuck : (more : List Terminal) → accepts k (t ∷ more) ≡ false
    stuck more = rw e refl

    no_program : ¬ Begins (front ++ t ∷ [])
    no_program (more, p, is) = absurd (true≢false (sym (reads_program is) ∙ ap (accepts program) (append_assoc front (t ∷ []) more) ∙ s.forth (t ∷ more) ∙ stuck more))

-- a token that is too deep
too_deep_here : (front : List Terminal) (t : Terminal) (ts : List Terminal) (k j : List Symbol) (c : Counts) (end : At) → Stands front k c → step k t.kind ≡ Some j →
    (what : Deep) → enter c t.kind ≡ too_deep what → Ends (front ++ t ∷ ts) end (deep what (t ∷ ts))
too_deep_here front t ts k j c end s e what h =
    let m = can_come j in
    let P : List Terminal → Type 0 = λ y. All program y [] in
    let p = program_of _ (subst P (sym (append_assoc front (t ∷ []) m.0)) (s.back (t ∷ m.0) (step_back k t j e m.0 m.1))) in
    record {
      front = front;
      bad = t;
      back = ts;
      split = refl;
      begins = (m.0, p.0, p.1);
      deep = is_too_deep front t c s.brackets s.operators what (entered_as c t (too_deep what) h);
      shallow = s.shallow;
      place = refl;
    }

token_ends : (front : List Terminal) (t : Terminal) (ts : List Terminal) (k : List Symbol) (c : Counts) (end : At) → Stands front k c →
    ((j : List Symbol) (d : Counts) → Stands (front ++ t ∷ []) j d → Ends ((front ++ t ∷ []) ++ ts) end (run d j ts)) →
    (o : Option (List Symbol)) (e : Entered) → step k t.kind ≡ o → enter c t.kind ≡ e →
    Ends (front ++ t ∷ ts) end (after_token o e (t ∷ ts) (λ d j. run d j ts))
token_ends front t ts k c end s later None e f h = stops_here front t ts k c end s f
token_ends front t ts k c end s later (Some j) (too_deep what) f h = too_deep_here front t ts k j c end s f what h
token_ends front t ts k c end s later (Some j) (within_limits d) f h =
    let P : List Terminal → Type 0 = λ y. Ends y end (run d j ts) in
    subst P (append_assoc front (t ∷ []) ts) (later j d (stands_next front t k j c d s f h))

reading : (ts front : List Terminal) (k : List Symbol) (c : Counts) (end : At) → Stands front k c → Ends (front ++ ts) end (run c k ts)
unfolding run
reading [] front k c end s =
    let P : List Terminal → Type 0 = λ y. Ends y end (ended (ends k)) in
    subst P (sym (append-nil front)) (ends_here front k c end s (ends k) refl)
reading (t ∷ ts) front k c end s =
    token_ends front t ts k c end s (λ j d next. reading ts (front ++ t ∷ []) j d end next) (step k t.kind) (enter c t.kind) refl refl

-- how the machine ends on whole tokens is their fault, or that they have none
pub run_ends : (ts : List Terminal) (end : At) → Ends ts end (run zero_counts program ts)
run_ends ts end = reading ts [] program zero_counts end at_start
