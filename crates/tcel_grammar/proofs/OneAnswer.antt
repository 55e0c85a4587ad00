-- Each list of tokens has exactly one answer: its tree, or its first fault.
use Rattle.std.proofs.Common.{◌≡◌, true, List, [], ◌∷◌, ◌++◌, ◌⊎◌, inl, inr, Option, Some, None, refl, sym, ap, ◌∙◌, subst, append_assoc}
use Rattle.std.proofs.lemmas.List.{append-nil}
use Rattle.tcel_num.specs.declared.at.At.{At}
use Rattle.tcel_token.specs.declared.sign.Sign.{Sign}
use Rattle.tcel_token.specs.declared.token.TokenKind.{TokenKind}
use Rattle.tcel_token.specs.Terminal.{Terminal}
use Rattle.tcel_tree.specs.Language.{Task}
use Rattle.tcel_grammar.specs.declared.deep.Deep.{Deep}
use Rattle.tcel_grammar.specs.Programs.{IsProgram, Begins}
use Rattle.tcel_grammar.specs.Statements.{unsaid, window}
use Rattle.tcel_grammar.specs.Faults.{is_opening, is_operator, IsTooDeep, IsAccepted, place_of, Stops, IsSyntaxFault, IsDepthFault}
use Rattle.tcel_grammar.specs.Machine.{Symbol, behind_operand, behind_name, do_clauses, behind_after, last_clause, behind_int, behind_bool, more_tasks, Move, reads, skips, stops, at_end, step, passed, ends, program, zero_counts, Outcome, accepted, stopped, deep, run}
use Rattle.tcel_grammar.proofs.Accepts.{accepts, accepts_after}
use Rattle.tcel_grammar.proofs.Languages.{no_tail, no_task, L, All, none, also}
use Rattle.tcel_grammar.proofs.Sound.{step_back, no_int, no_bool}
use Rattle.tcel_grammar.proofs.Finish.{program_of}
use Rattle.tcel_grammar.proofs.Places.{Ends, run_ends}

-- ---- what the machine accepts is a program

nothing : (x : Symbol) → at_end x ≡ skips → L x [] []
nothing (behind_operand below c) e = no_tail
nothing (behind_name c) e = inl no_tail
nothing do_clauses e = (_, window unsaid unsaid unsaid)
nothing behind_after e = (None, None, [], unsaid, unsaid)
nothing last_clause e = (None, unsaid)
nothing (behind_int state) e = no_int state
nothing (behind_bool state) e = no_bool state
nothing more_tasks e = no_task
nothing _ e = cc

ended_all : (k : List Symbol) → ends k ≡ true → All k [] []
ended_all [] e = none
ended_all (x ∷ k) e = go (at_end x) refl e (ended_all k)
  where
    go : (m : Move) → at_end x ≡ m → passed m (ends k) ≡ true → (ends k ≡ true → All k [] []) → All (x ∷ k) [] []
    go skips f g later = also (nothing x f) (later g)
    go (reads j) f g later = cc
    go stops f g later = cc

accepted_all : (ts : List Terminal) (k : List Symbol) → accepts k ts ≡ true → All k ts []
accepted_all [] k e = ended_all k e
accepted_all (t ∷ ts) k e = go (step k t.kind) refl e (accepted_all ts)
  where
    go : (o : Option (List Symbol)) → step k t.kind ≡ o → accepts_after o (λ j. accepts j ts) ≡ true → ((j : List Symbol) → accepts j ts ≡ true → All j ts []) → All k (t ∷ ts) []
    go None f g later = cc
    go (Some j) f g later = step_back k t j f ts (later j g)

-- ---- fronts of one list

abbrev Apart : List Terminal → List Terminal → List Terminal → List Terminal → Type 0
Apart f r g s = (t : Terminal) × (c : List Terminal) × (g ≡ f ++ t ∷ c) × (r ≡ t ∷ (c ++ s))

abbrev Compared : List Terminal → List Terminal → List Terminal → List Terminal → Type 0
Compared f r g s = ((f ≡ g) × (r ≡ s)) ⊎ (Apart f r g s ⊎ Apart g s f r)

compare : (f r g s : List Terminal) → f ++ r ≡ g ++ s → Compared f r g s
compare [] r [] s e = inl (refl, e)
compare [] r (y ∷ g) s e = inr (inl (y, g, refl, e))
compare (x ∷ f) r [] s e = inr (inr (x, f, refl, sym e))
compare (x ∷ f) r (y ∷ g) s e =
    let same : x ≡ y = cc in
    let others : f ++ r ≡ g ++ s = cc in
    elim (compare f r g s others) [
      | inl h ↦ inl (let i = h.0 in cc, h.1)
      | inr (inl h) ↦ inr (inl (h.0, h.1, (let i = h.2 in cc), h.3))
      | inr (inr h) ↦ inr (inr (h.0, h.1, (let i = h.2 in cc), h.3))
    ]

-- what begins a program begins with what begins one
begins_front : (a b : List Terminal) → Begins (a ++ b) → Begins a
begins_front a b (more, p, h) = (b ++ more, p, subst (λ (ts : List Terminal). IsProgram ts p) (append_assoc a b more) h)

begins_next : (f : List Terminal) (t : Terminal) (c : List Terminal) → Begins (f ++ t ∷ c) → Begins (f ++ t ∷ [])
begins_next f t c h = begins_front (f ++ t ∷ []) c (subst Begins (sym (append_assoc f (t ∷ []) c)) h)

-- ---- no two answers

stops_at : (front : List Terminal) (t : Terminal) (back : List Terminal) (rest : List Terminal) → Stops front rest → rest ≡ t ∷ back → ¬ Begins (front ++ t ∷ [])
stops_at front t back rest h e = let P : List Terminal → Type 0 = λ r. Stops front r in subst P e h

pub not_accepted : (ts : List Terminal) (end at : At) (p : List Task) → IsAccepted ts p → IsSyntaxFault ts end at → ⊥
not_accepted ts end at p a f = go f.rest f.split f.stops
  where
    go : (rest : List Terminal) → ts ≡ f.front ++ rest → Stops f.front rest → ⊥
    go [] e s = s p (subst (λ (us : List Terminal). IsProgram us p) (e ∙ append-nil f.front) a.program)
    go (t ∷ back) e s = s (back, p, subst (λ (us : List Terminal). IsProgram us p) (e ∙ sym (append_assoc f.front (t ∷ []) back)) a.program)

pub not_shallow : (ts : List Terminal) (what : Deep) (at : At) (p : List Task) → IsAccepted ts p → IsDepthFault ts what at → ⊥
not_shallow ts what at p a f = a.shallow.at_each f.front f.bad f.back what f.split f.deep

pub one_syntax : (ts : List Terminal) (end a b : At) → IsSyntaxFault ts end a → IsSyntaxFault ts end b → a ≡ b
one_syntax ts end a b f g = go (compare f.front f.rest g.front g.rest (sym f.split ∙ g.split))
  where
    go : Compared f.front f.rest g.front g.rest → a ≡ b
    go (inl (e, h)) = f.place ∙ ap (λ r. place_of r end) h ∙ sym g.place
    go (inr (inl (t, c, e, h))) = absurd (stops_at f.front t _ f.rest f.stops h (begins_next f.front t c (subst Begins e g.begins)))
    go (inr (inr (t, c, e, h))) = absurd (stops_at g.front t _ g.rest g.stops h (begins_next g.front t c (subst Begins e f.begins)))

pub syntax_or_depth : (ts : List Terminal) (end a b : At) (what : Deep) → IsSyntaxFault ts end a → IsDepthFault ts what b → ⊥
syntax_or_depth ts end a b what f g = go (compare f.front f.rest g.front (g.bad ∷ g.back) (sym f.split ∙ g.split))
  where
    go : Compared f.front f.rest g.front (g.bad ∷ g.back) → ⊥
    go (inl (e, h)) = stops_at f.front g.bad g.back f.rest f.stops h (subst (λ (us : List Terminal). Begins (us ++ g.bad ∷ [])) (sym e) g.begins)
    go (inr (inl (t, c, e, h))) =
        stops_at f.front t _ f.rest f.stops h (begins_next f.front t c (begins_front (f.front ++ t ∷ c) (g.bad ∷ []) (subst (λ (us : List Terminal). Begins (us ++ g.bad ∷ [])) e g.begins)))
    go (inr (inr (t, c, e, h))) =
        let same : t ≡ g.bad = cc in
        f.shallow.at_each g.front t c what e (subst (λ (u : Terminal). IsTooDeep what g.front u) (sym same) g.deep)

-- a bracket is no operator
bracket_apart : (kind : TokenKind) → is_opening kind ≡ true → is_operator kind ≡ true → ⊥
bracket_apart (TokenKind.Sign Sign.LeftBrace) e f = cc
bracket_apart (TokenKind.Sign Sign.LeftRound) e f = cc
bracket_apart (TokenKind.Sign Sign.LeftSquare) e f = cc
bracket_apart (TokenKind.Sign _) e f = cc
bracket_apart (TokenKind.Word w) e f = cc
bracket_apart (TokenKind.Name n) e f = cc
bracket_apart (TokenKind.Number n) e f = cc

one_kind : (front : List Terminal) (t : Terminal) (v w : Deep) → IsTooDeep v front t → IsTooDeep w front t → v ≡ w
one_kind front t Deep.Nesting Deep.Nesting d e = refl
one_kind front t Deep.Operators Deep.Operators d e = refl
one_kind front t Deep.Nesting Deep.Operators d e = absurd (bracket_apart t.kind d.0 e.0)
one_kind front t Deep.Operators Deep.Nesting d e = absurd (bracket_apart t.kind e.0 d.0)

pub one_depth : (ts : List Terminal) (v w : Deep) (a b : At) → IsDepthFault ts v a → IsDepthFault ts w b → (v ≡ w) × (a ≡ b)
one_depth ts v w a b f g = go (compare f.front (f.bad ∷ f.back) g.front (g.bad ∷ g.back) (sym f.split ∙ g.split))
  where
    go : Compared f.front (f.bad ∷ f.back) g.front (g.bad ∷ g.back) → (v ≡ w) × (a ≡ b)
    go (inl (e, h)) =
        let same : g.bad ≡ f.bad = cc in
        let P : List Terminal → Type 0 = λ us. IsTooDeep w us f.bad in
        let d = subst P (sym e) (subst (λ (u : Terminal). IsTooDeep w g.front u) same g.deep) in
        (one_kind f.front f.bad v w f.deep d, f.place ∙ ap (λ (u : Terminal). u.at) (sym same) ∙ sym g.place)
    go (inr (inl (t, c, e, h))) =
        let same : t ≡ f.bad = cc in
        absurd (g.shallow.at_each f.front t c v e (subst (λ (u : Terminal). IsTooDeep v f.front u) (sym same) f.deep))
    go (inr (inr (t, c, e, h))) =
        let same : t ≡ g.bad = cc in
        absurd (f.shallow.at_each g.front t c w e (subst (λ (u : Terminal). IsTooDeep w g.front u) (sym same) g.deep))

-- ---- always an answer

pub some_answer : (ts : List Terminal) (end : At) →
    ((p : List Task) × IsAccepted ts p) ⊎ (((at : At) × IsSyntaxFault ts end at) ⊎ ((what : Deep) × (at : At) × IsDepthFault ts what at))
some_answer ts end = go (run zero_counts program ts) (run_ends ts end)
  where
    go : (o : Outcome) → Ends ts end o → ((p : List Task) × IsAccepted ts p) ⊎ (((at : At) × IsSyntaxFault ts end at) ⊎ ((what : Deep) × (at : At) × IsDepthFault ts what at))
    go accepted (e, shallow) = let p = program_of ts (accepted_all ts program e) in inl (p.0, record { program = p.1; shallow = shallow })
    go (stopped rest) f = inr (inl (place_of rest end, f))
    go (deep what rest) f = inr (inr (what, place_of rest end, f))

-- ---- how the machine ends

ends_as : (ts : List Terminal) (end : At) (o : Outcome) → run zero_counts program ts ≡ o → Ends ts end o
ends_as ts end o e = subst (λ (x : Outcome). Ends ts end x) e (run_ends ts end)

pub accepted_is : (ts : List Terminal) → run zero_counts program ts ≡ accepted → (p : List Task) × IsAccepted ts p
accepted_is ts e =
    let h = ends_as ts (record { line = 1; column = 1 }) accepted e in
    let p = program_of ts (accepted_all ts program h.0) in
    (p.0, record { program = p.1; shallow = h.1 })

pub syntax_is : (ts rest : List Terminal) (end : At) → run zero_counts program ts ≡ stopped rest → IsSyntaxFault ts end (place_of rest end)
syntax_is ts rest end e = ends_as ts end (stopped rest) e

pub depth_is : (ts rest : List Terminal) (end : At) (what : Deep) → run zero_counts program ts ≡ deep what rest → IsDepthFault ts what (place_of rest end)
depth_is ts rest end what e = ends_as ts end (deep what rest) e
