-- Instructions as fields.
use Rattle.std.proofs.Common.{◌≡◌, ℕ, ℤ, zero, suc, ◌^◌, ◌<◌, ◌≤◌, Bool, true, false, cond, eqb, List, ◌∷◌, ◌++◌, length, Ok, Err, refl, sym, ap, subst, ◌∙◌, arith, append_assoc}
use Rattle.std.specs.Prelude.{FitsSigned, MatchBool}
use Rattle.std.specs.Int.{w16, w32, w64, IsInRange}
use Rattle.std.proofs.lemmas.List.{append-nil}
use Rattle.tcel_num.specs.declared.op.Op.{Op}
use Rattle.tcel_num.specs.declared.op.Op.TheVariants as ops
use Rattle.tcel_image.specs.declared.fault.Fault.TheVariants as faults
use Rattle.tcel_image.specs.declared.image.Line.{Line}
use Rattle.tcel_image.specs.declared.image.Instr.{Instr}
use Rattle.tcel_image.specs.declared.image.Instr.TheVariants as instrs
use Rattle.tcel_image.specs.declared.operands.Operands.{Operands}
use Rattle.tcel_image.specs.declared.operands.Range.{Range}
use Rattle.tcel_image.specs.Spelling.{number, value, byte, three, op_number, opcode, operator, operands, line, code, InstrInRange, LineInRange, CodeInRange}
use Rattle.tcel_image.specs.Reading.{Reader, after, ◌>>=◌, done, number_at, byte_at, value_at, any_word, a_length, a_bound, unused, operands_at, const_at, op_from, instr_at, line_at, code_at}
use Rattle.tcel_image.proofs.Readers.{IsBytes, Takes, Takes-then, Reads, given_value, given_rest, bind_ok, done_reads, bind_reads, as_reads, cut_after}
use Rattle.tcel_image.proofs.Fields.{number_reads, byte_reads, value_reads, many_reads, wide16, wide32}

abbrev Within : Range → ℕ → Type 0
Within r n = IsInRange r.least r.greatest n

-- each operand is within its range
record AreWithin (in_a in_b in_c : Range) (o : Operands) : Type 0 where
  a : Within in_a o.a
  b : Within in_b o.b
  c : Within in_c o.c

abbrev spelled : Operands → List ℕ
spelled o = three o.a o.b o.c

operands_reads : (in_a in_b in_c : Range) → in_a.greatest < 2 ^ 32 → in_b.greatest < 2 ^ 32 → in_c.greatest < 2 ^ 32 → Reads (operands_at in_a in_b in_c) spelled (AreWithin in_a in_b in_c)
unfolding operands_at
operands_reads in_a in_b in_c fits_a fits_b fits_c =
    as_reads spelled (AreWithin in_a in_b in_c)
    (bind_reads (number_reads w32 (2 ^ 32) in_a.least in_a.greatest wide32 fits_a) (λ (o : Operands). o.a)
    (λ a h. bind_reads (number_reads w32 (2 ^ 32) in_b.least in_b.greatest wide32 fits_b) (λ (o : Operands). o.b)
    (λ b h. bind_reads (number_reads w32 (2 ^ 32) in_c.least in_c.greatest wide32 fits_c) (λ (o : Operands). o.c)
    (λ c h. done_reads (record { a = a; b = b; c = c }))
    (λ c h o e. ap (λ (p : Operands). p.c) e))
    (λ b h o e. ap (λ (p : Operands). p.b) e.1))
    (λ a h o e. ap (λ (p : Operands). p.a) e.1.1))
    (λ o h. append_assoc (number w32 o.a) (number w32 o.b) (number w32 o.c) ∙ ap (λ (l : List ℕ). number w32 o.a ++ (number w32 o.b ++ l)) (sym (append-nil (number w32 o.c))))
    (λ o h. record { a = h.0; b = h.1.0; c = h.1.1.0 })
    (λ o h. (h.a, (h.b, (h.c, refl))))

-- an instruction with this opcode and this operator
record IsInstr (o p : ℕ) (i : Instr) : Type 0 where
  opcode_is : opcode i ≡ o
  operator_is : operator i ≡ p
  in_range : InstrInRange i

-- four bytes hold each operand
record Bounded (in_a in_b in_c : Range) : Type 0 where
  a : in_a.greatest < 2 ^ 32
  b : in_b.greatest < 2 ^ 32
  c : in_c.greatest < 2 ^ 32

abbrev shape : Range → Range → Range → (Operands → Instr) → Reader Instr
shape in_a in_b in_c make = operands_at in_a in_b in_c >>= λ q. done (make q)

shape_takes : (in_a in_b in_c : Range) (make : Operands → Instr) (o p : ℕ) → Bounded in_a in_b in_c
    → ((q : Operands) → AreWithin in_a in_b in_c q → (operands (make q) ≡ spelled q) × IsInstr o p (make q))
    → (bytes : List ℕ) (x : Instr) (rest : List ℕ) → IsBytes bytes → shape in_a in_b in_c make bytes ≡ Ok (x, rest) → Takes bytes (operands x) rest × IsInstr o p x
shape_takes in_a in_b in_c make o p bounded says bytes x rest fits e =
    let b = bind_ok (operands_at in_a in_b in_c bytes) (λ q. done (make q)) (x, rest) e in
    let t = (operands_reads in_a in_b in_c bounded.a bounded.b bounded.c).takes bytes b.0 b.1 fits b.2 in
    let s = says b.0 t.1 in
    let x-is : make b.0 ≡ x = given_value (make b.0) x b.1 rest b.3 in
    let rest-is : b.1 ≡ rest = given_rest (make b.0) x b.1 rest b.3 in
    subst (λ (i : Instr). Takes bytes (operands i) rest × IsInstr o p i) x-is
    (subst (λ (r : List ℕ). Takes bytes (operands (make b.0)) r) rest-is (subst (λ (l : List ℕ). Takes bytes l b.1) (sym s.0) t.0), s.1)

shape_again : (in_a in_b in_c : Range) (make : Operands → Instr) → Bounded in_a in_b in_c → (q : Operands) (rest : List ℕ) → AreWithin in_a in_b in_c q
    → shape in_a in_b in_c make (spelled q ++ rest) ≡ Ok (make q, rest)
shape_again in_a in_b in_c make bounded q rest h =
    ap (λ r. after r (λ o. done (make o))) ((operands_reads in_a in_b in_c bounded.a bounded.b bounded.c).again q rest h)

zero_is : (n : ℕ) → IsInRange 0 0 n → n ≡ 0
zero_is n h = omega (arith, h.1)

word_is : (n : ℕ) → IsInRange 0 4294967295 n → n < 2 ^ 32
word_is n h = omega (arith, h.1)

is_word : (n : ℕ) → n < 2 ^ 32 → IsInRange 0 4294967295 n
is_word n h = (omega arith, omega (arith, h))

-- no operands
none_takes : (i : Instr) (o p : ℕ) → (operands i ≡ three 0 0 0) → IsInstr o p i → (bytes : List ℕ) (x : Instr) (rest : List ℕ) → IsBytes bytes
    → shape unused unused unused (λ _. i) bytes ≡ Ok (x, rest) → Takes bytes (operands x) rest × IsInstr o p x
none_takes i o p spells is bytes x rest fits e =
    shape_takes unused unused unused (λ _. i) o p (record { a = omega arith; b = omega arith; c = omega arith })
    (λ q h. (spells ∙ rw (zero_is q.a h.a, zero_is q.b h.b, zero_is q.c h.c) refl, is)) bytes x rest fits e

none_again : (i : Instr) (rest : List ℕ) → shape unused unused unused (λ _. i) (three 0 0 0 ++ rest) ≡ Ok (i, rest)
none_again i rest =
    shape_again unused unused unused (λ _. i) (record { a = omega arith; b = omega arith; c = omega arith }) (record { a = 0; b = 0; c = 0 }) rest
    (record { a = (omega arith, omega arith); b = (omega arith, omega arith); c = (omega arith, omega arith) })

-- one operand
one_takes : (in_a : Range) (make : ℕ → Instr) (o p : ℕ) → in_a.greatest < 2 ^ 32 → ((a : ℕ) → Within in_a a → (operands (make a) ≡ three a 0 0) × IsInstr o p (make a))
    → (bytes : List ℕ) (x : Instr) (rest : List ℕ) → IsBytes bytes → shape in_a unused unused (λ q. make q.a) bytes ≡ Ok (x, rest) → Takes bytes (operands x) rest × IsInstr o p x
one_takes in_a make o p bound says bytes x rest fits e =
    shape_takes in_a unused unused (λ q. make q.a) o p (record { a = bound; b = omega arith; c = omega arith })
    (λ q h. let s = says q.a h.a in (s.0 ∙ rw (zero_is q.b h.b, zero_is q.c h.c) refl, s.1)) bytes x rest fits e

one_again : (in_a : Range) (make : ℕ → Instr) → in_a.greatest < 2 ^ 32 → (a : ℕ) (rest : List ℕ) → Within in_a a → shape in_a unused unused (λ q. make q.a) (three a 0 0 ++ rest) ≡ Ok (make a, rest)
one_again in_a make bound a rest h =
    shape_again in_a unused unused (λ q. make q.a) (record { a = bound; b = omega arith; c = omega arith }) (record { a = a; b = 0; c = 0 }) rest
    (record { a = h; b = (omega arith, omega arith); c = (omega arith, omega arith) })

-- two operands
two_takes : (in_a in_b : Range) (make : ℕ → ℕ → Instr) (o p : ℕ) → in_a.greatest < 2 ^ 32 → in_b.greatest < 2 ^ 32
    → ((a b : ℕ) → Within in_a a → Within in_b b → (operands (make a b) ≡ three a b 0) × IsInstr o p (make a b))
    → (bytes : List ℕ) (x : Instr) (rest : List ℕ) → IsBytes bytes → shape in_a in_b unused (λ q. make q.a q.b) bytes ≡ Ok (x, rest) → Takes bytes (operands x) rest × IsInstr o p x
two_takes in_a in_b make o p bound_a bound_b says bytes x rest fits e =
    shape_takes in_a in_b unused (λ q. make q.a q.b) o p (record { a = bound_a; b = bound_b; c = omega arith })
    (λ q h. let s = says q.a q.b h.a h.b in (s.0 ∙ rw (zero_is q.c h.c) refl, s.1)) bytes x rest fits e

two_again : (in_a in_b : Range) (make : ℕ → ℕ → Instr) → in_a.greatest < 2 ^ 32 → in_b.greatest < 2 ^ 32 → (a b : ℕ) (rest : List ℕ) → Within in_a a → Within in_b b
    → shape in_a in_b unused (λ q. make q.a q.b) (three a b 0 ++ rest) ≡ Ok (make a b, rest)
two_again in_a in_b make bound_a bound_b a b rest h k =
    shape_again in_a in_b unused (λ q. make q.a q.b) (record { a = bound_a; b = bound_b; c = omega arith }) (record { a = a; b = b; c = 0 }) rest
    (record { a = h; b = k; c = (omega arith, omega arith) })

-- three operands
three_takes : (in_a in_b in_c : Range) (make : ℕ → ℕ → ℕ → Instr) (o p : ℕ) → in_a.greatest < 2 ^ 32 → in_b.greatest < 2 ^ 32 → in_c.greatest < 2 ^ 32
    → ((a b c : ℕ) → Within in_a a → Within in_b b → Within in_c c → (operands (make a b c) ≡ three a b c) × IsInstr o p (make a b c))
    → (bytes : List ℕ) (x : Instr) (rest : List ℕ) → IsBytes bytes → shape in_a in_b in_c (λ q. make q.a q.b q.c) bytes ≡ Ok (x, rest) → Takes bytes (operands x) rest × IsInstr o p x
three_takes in_a in_b in_c make o p bound_a bound_b bound_c says bytes x rest fits e =
    shape_takes in_a in_b in_c (λ q. make q.a q.b q.c) o p (record { a = bound_a; b = bound_b; c = bound_c })
    (λ q h. says q.a q.b q.c h.a h.b h.c) bytes x rest fits e

three_again : (in_a in_b in_c : Range) (make : ℕ → ℕ → ℕ → Instr) → in_a.greatest < 2 ^ 32 → in_b.greatest < 2 ^ 32 → in_c.greatest < 2 ^ 32 → (a b c : ℕ) (rest : List ℕ)
    → Within in_a a → Within in_b b → Within in_c c → shape in_a in_b in_c (λ q. make q.a q.b q.c) (three a b c ++ rest) ≡ Ok (make a b c, rest)
three_again in_a in_b in_c make bound_a bound_b bound_c a b c rest h k l =
    shape_again in_a in_b in_c (λ q. make q.a q.b q.c) (record { a = bound_a; b = bound_b; c = bound_c }) (record { a = a; b = b; c = c }) rest
    (record { a = h; b = k; c = l })

-- a constant
const_takes : (bytes : List ℕ) (x : Instr) (rest : List ℕ) → IsBytes bytes → const_at bytes ≡ Ok (x, rest) → Takes bytes (operands x) rest × IsInstr 1 0 x
unfolding const_at
const_takes bytes x rest fits e =
    let a = bind_ok (value_at bytes) (λ v. number_at w32 0 0 >>= λ c. done (instrs.Const v)) (x, rest) e in
    let b = bind_ok (number_at w32 0 0 a.1) (λ c. done (instrs.Const a.0)) (x, rest) a.3 in
    let first = value_reads.takes bytes a.0 a.1 fits a.2 in
    let second = (number_reads w32 (2 ^ 32) 0 0 wide32 (omega arith)).takes a.1 b.0 b.1 first.0.rest_fits b.2 in
    let x-is : instrs.Const a.0 ≡ x = given_value (instrs.Const a.0) x b.1 rest b.3 in
    let rest-is : b.1 ≡ rest = given_rest (instrs.Const a.0) x b.1 rest b.3 in
    let both = Takes-then bytes (value a.0) a.1 (number w32 b.0) b.1 first.0 second.0 in
    let same : Takes bytes (operands (instrs.Const a.0)) b.1 = subst (λ (n : ℕ). Takes bytes (value a.0 ++ number w32 n) b.1) (zero_is b.0 second.1) both in
    subst (λ (i : Instr). Takes bytes (operands i) rest × IsInstr 1 0 i) x-is
    (subst (λ (r : List ℕ). Takes bytes (operands (instrs.Const a.0)) r) rest-is same, record { opcode_is = refl; operator_is = refl; in_range = first.1 })

const_again : (v : ℤ) (rest : List ℕ) → FitsSigned w64 v → const_at (operands (instrs.Const v) ++ rest) ≡ Ok (instrs.Const v, rest)
unfolding const_at
const_again v rest fits =
    let unused_is : IsInRange 0 0 0 = (omega arith, omega arith) in
    ap (value_at >>= λ w. number_at w32 0 0 >>= λ c. done (instrs.Const w)) (append_assoc (value v) (number w32 0) rest)
    ∙ ap (λ r. after r (λ w. number_at w32 0 0 >>= λ c. done (instrs.Const w))) (value_reads.again v (number w32 0 ++ rest) fits)
    ∙ ap (λ r. after r (λ c. done (instrs.Const v))) ((number_reads w32 (2 ^ 32) 0 0 wide32 (omega arith)).again 0 rest unused_is)

-- ---- by the number of the instruction

-- operators by their numbers
op_number-op_from : (p : ℕ) → IsInRange 1 15 p → op_number (op_from p) ≡ p
op_number-op_from zero h = absurd (omega (arith, h.0))
op_number-op_from (suc zero) h = refl
op_number-op_from (suc (suc zero)) h = refl
op_number-op_from (suc (suc (suc zero))) h = refl
op_number-op_from (suc (suc (suc (suc zero)))) h = refl
op_number-op_from (suc (suc (suc (suc (suc zero))))) h = refl
op_number-op_from (suc (suc (suc (suc (suc (suc zero)))))) h = refl
op_number-op_from (suc (suc (suc (suc (suc (suc (suc zero))))))) h = refl
op_number-op_from (suc (suc (suc (suc (suc (suc (suc (suc zero)))))))) h = refl
op_number-op_from (suc (suc (suc (suc (suc (suc (suc (suc (suc zero))))))))) h = refl
op_number-op_from (suc (suc (suc (suc (suc (suc (suc (suc (suc (suc zero)))))))))) h = refl
op_number-op_from (suc (suc (suc (suc (suc (suc (suc (suc (suc (suc (suc zero))))))))))) h = refl
op_number-op_from (suc (suc (suc (suc (suc (suc (suc (suc (suc (suc (suc (suc zero)))))))))))) h = refl
op_number-op_from (suc (suc (suc (suc (suc (suc (suc (suc (suc (suc (suc (suc (suc zero))))))))))))) h = refl
op_number-op_from (suc (suc (suc (suc (suc (suc (suc (suc (suc (suc (suc (suc (suc (suc zero)))))))))))))) h = refl
op_number-op_from (suc (suc (suc (suc (suc (suc (suc (suc (suc (suc (suc (suc (suc (suc (suc zero))))))))))))))) h = refl
op_number-op_from (suc (suc (suc (suc (suc (suc (suc (suc (suc (suc (suc (suc (suc (suc (suc (suc p)))))))))))))))) h = absurd (omega (arith, h.1))

op_from-op_number : (op : Op) → op_from (op_number op) ≡ op
op_from-op_number ops.Add = refl
op_from-op_number ops.Sub = refl
op_from-op_number ops.Mul = refl
op_from-op_number ops.Div = refl
op_from-op_number ops.Rem = refl
op_from-op_number ops.Neg = refl
op_from-op_number ops.Not = refl
op_from-op_number ops.And = refl
op_from-op_number ops.Or = refl
op_from-op_number ops.Equal = refl
op_from-op_number ops.Unequal = refl
op_from-op_number ops.Less = refl
op_from-op_number ops.LessOrEqual = refl
op_from-op_number ops.Greater = refl
op_from-op_number ops.GreaterOrEqual = refl

op_in_range : (op : Op) → IsInRange 1 15 (op_number op)
op_in_range ops.Add = (omega arith, omega arith)
op_in_range ops.Sub = (omega arith, omega arith)
op_in_range ops.Mul = (omega arith, omega arith)
op_in_range ops.Div = (omega arith, omega arith)
op_in_range ops.Rem = (omega arith, omega arith)
op_in_range ops.Neg = (omega arith, omega arith)
op_in_range ops.Not = (omega arith, omega arith)
op_in_range ops.And = (omega arith, omega arith)
op_in_range ops.Or = (omega arith, omega arith)
op_in_range ops.Equal = (omega arith, omega arith)
op_in_range ops.Unequal = (omega arith, omega arith)
op_in_range ops.Less = (omega arith, omega arith)
op_in_range ops.LessOrEqual = (omega arith, omega arith)
op_in_range ops.Greater = (omega arith, omega arith)
op_in_range ops.GreaterOrEqual = (omega arith, omega arith)

-- the operators that an instruction with this opcode can have
abbrev OperatorFits : ℕ → ℕ → Type 0
OperatorFits o p = MatchBool (eqb o 6) (IsInRange 1 15 p) (IsInRange 0 0 p)

is_instr : (i : Instr) (p : ℕ) → operator i ≡ 0 → IsInRange 0 0 p → InstrInRange i → IsInstr (opcode i) p i
is_instr i p none zero_p in_range = record { opcode_is = refl; operator_is = none ∙ sym (zero_is p zero_p); in_range = in_range }

lt : (n : ℕ) → n ≤ 4294967295 → n < 2 ^ 32
lt n h = omega arith

instr_takes : (o p : ℕ) → IsInRange 1 15 o → OperatorFits o p → (bytes : List ℕ) (x : Instr) (rest : List ℕ) → IsBytes bytes → instr_at o p bytes ≡ Ok (x, rest)
    → Takes bytes (operands x) rest × IsInstr o p x
unfolding instr_at
instr_takes zero p h k bytes x rest fits e = absurd (omega (arith, h.0))
instr_takes (suc zero) p h k bytes x rest fits e =
    let t = const_takes bytes x rest fits e in
    (t.0, record { opcode_is = t.1.opcode_is; operator_is = t.1.operator_is ∙ sym (zero_is p k); in_range = t.1.in_range })
instr_takes (suc (suc zero)) p h k bytes x rest fits e =
    one_takes any_word (λ a. instrs.Get a) 2 p (omega arith) (λ a w. (refl, is_instr (instrs.Get a) p refl k (word_is a w))) bytes x rest fits e
instr_takes (suc (suc (suc zero))) p h k bytes x rest fits e =
    one_takes any_word (λ a. instrs.Put a) 3 p (omega arith) (λ a w. (refl, is_instr (instrs.Put a) p refl k (word_is a w))) bytes x rest fits e
instr_takes (suc (suc (suc (suc zero)))) p h k bytes x rest fits e =
    two_takes any_word a_length (λ a b. instrs.GetAt a b) 4 p (omega arith) (omega arith) (λ a b w l. (refl, is_instr (instrs.GetAt a b) p refl k (word_is a w, l))) bytes x rest fits e
instr_takes (suc (suc (suc (suc (suc zero))))) p h k bytes x rest fits e =
    two_takes any_word a_length (λ a b. instrs.PutAt a b) 5 p (omega arith) (omega arith) (λ a b w l. (refl, is_instr (instrs.PutAt a b) p refl k (word_is a w, l))) bytes x rest fits e
instr_takes (suc (suc (suc (suc (suc (suc zero)))))) p h k bytes x rest fits e =
    none_takes (instrs.Arith (op_from p)) 6 p refl (record { opcode_is = refl; operator_is = op_number-op_from p k; in_range = tt }) bytes x rest fits e
instr_takes (suc (suc (suc (suc (suc (suc (suc zero))))))) p h k bytes x rest fits e =
    one_takes any_word (λ a. instrs.Jump a) 7 p (omega arith) (λ a w. (refl, is_instr (instrs.Jump a) p refl k (word_is a w))) bytes x rest fits e
instr_takes (suc (suc (suc (suc (suc (suc (suc (suc zero)))))))) p h k bytes x rest fits e =
    one_takes any_word (λ a. instrs.Branch a) 8 p (omega arith) (λ a w. (refl, is_instr (instrs.Branch a) p refl k (word_is a w))) bytes x rest fits e
instr_takes (suc (suc (suc (suc (suc (suc (suc (suc (suc zero))))))))) p h k bytes x rest fits e =
    three_takes any_word a_length any_word (λ a b c. instrs.Loop a b c) 9 p (omega arith) (omega arith) (omega arith)
    (λ a b c w l v. (refl, is_instr (instrs.Loop a b c) p refl k (word_is a w, l, word_is c v))) bytes x rest fits e
instr_takes (suc (suc (suc (suc (suc (suc (suc (suc (suc (suc zero)))))))))) p h k bytes x rest fits e =
    two_takes any_word any_word (λ a b. instrs.Receive a b) 10 p (omega arith) (omega arith) (λ a b w v. (refl, is_instr (instrs.Receive a b) p refl k (word_is a w, word_is b v))) bytes x rest fits e
instr_takes (suc (suc (suc (suc (suc (suc (suc (suc (suc (suc (suc zero))))))))))) p h k bytes x rest fits e =
    one_takes any_word (λ a. instrs.Send a) 11 p (omega arith) (λ a w. (refl, is_instr (instrs.Send a) p refl k (word_is a w))) bytes x rest fits e
instr_takes (suc (suc (suc (suc (suc (suc (suc (suc (suc (suc (suc (suc zero)))))))))))) p h k bytes x rest fits e =
    one_takes a_bound (λ a. instrs.Hold a) 12 p (omega arith) (λ a w. (refl, is_instr (instrs.Hold a) p refl k w)) bytes x rest fits e
instr_takes (suc (suc (suc (suc (suc (suc (suc (suc (suc (suc (suc (suc (suc zero))))))))))))) p h k bytes x rest fits e =
    three_takes any_word any_word a_length (λ a b c. instrs.Copy a b c) 13 p (omega arith) (omega arith) (omega arith)
    (λ a b c w v l. (refl, is_instr (instrs.Copy a b c) p refl k (word_is a w, word_is b v, l))) bytes x rest fits e
instr_takes (suc (suc (suc (suc (suc (suc (suc (suc (suc (suc (suc (suc (suc (suc zero)))))))))))))) p h k bytes x rest fits e =
    none_takes instrs.Mark 14 p refl (is_instr instrs.Mark p refl k tt) bytes x rest fits e
instr_takes (suc (suc (suc (suc (suc (suc (suc (suc (suc (suc (suc (suc (suc (suc (suc zero))))))))))))))) p h k bytes x rest fits e =
    none_takes instrs.End 15 p refl (is_instr instrs.End p refl k tt) bytes x rest fits e
instr_takes (suc (suc (suc (suc (suc (suc (suc (suc (suc (suc (suc (suc (suc (suc (suc (suc o)))))))))))))))) p h k bytes x rest fits e = absurd (omega (arith, h.1))

instr_again : (i : Instr) (rest : List ℕ) → InstrInRange i → instr_at (opcode i) (operator i) (operands i ++ rest) ≡ Ok (i, rest)
unfolding instr_at
instr_again (instrs.Const v) rest h = const_again v rest h
instr_again (instrs.Get a) rest h = one_again any_word (λ a. instrs.Get a) (omega arith) a rest (is_word a h)
instr_again (instrs.Put a) rest h = one_again any_word (λ a. instrs.Put a) (omega arith) a rest (is_word a h)
instr_again (instrs.GetAt a b) rest h = two_again any_word a_length (λ a b. instrs.GetAt a b) (omega arith) (omega arith) a b rest (is_word a h.0) h.1
instr_again (instrs.PutAt a b) rest h = two_again any_word a_length (λ a b. instrs.PutAt a b) (omega arith) (omega arith) a b rest (is_word a h.0) h.1
instr_again (instrs.Arith op) rest h = subst (λ (f : Op). shape unused unused unused (λ _. instrs.Arith f) (three 0 0 0 ++ rest) ≡ Ok (instrs.Arith op, rest)) (sym (op_from-op_number op)) (none_again (instrs.Arith op) rest)
instr_again (instrs.Jump a) rest h = one_again any_word (λ a. instrs.Jump a) (omega arith) a rest (is_word a h)
instr_again (instrs.Branch a) rest h = one_again any_word (λ a. instrs.Branch a) (omega arith) a rest (is_word a h)
instr_again (instrs.Loop a b c) rest h = three_again any_word a_length any_word (λ a b c. instrs.Loop a b c) (omega arith) (omega arith) (omega arith) a b c rest (is_word a h.0) h.1 (is_word c h.2)
instr_again (instrs.Receive a b) rest h = two_again any_word any_word (λ a b. instrs.Receive a b) (omega arith) (omega arith) a b rest (is_word a h.0) (is_word b h.1)
instr_again (instrs.Send a) rest h = one_again any_word (λ a. instrs.Send a) (omega arith) a rest (is_word a h)
instr_again (instrs.Hold a) rest h = one_again a_bound (λ a. instrs.Hold a) (omega arith) a rest h
instr_again (instrs.Copy a b c) rest h = three_again any_word any_word a_length (λ a b c. instrs.Copy a b c) (omega arith) (omega arith) (omega arith) a b c rest (is_word a h.0) (is_word b h.1) h.2
instr_again instrs.Mark rest h = none_again instrs.Mark rest
instr_again instrs.End rest h = none_again instrs.End rest

shape_cut : (in_a in_b in_c : Range) (make : Operands → Instr) → Bounded in_a in_b in_c → (q : Operands) (front : List ℕ) (b : ℕ) (more : List ℕ) → AreWithin in_a in_b in_c q
    → spelled q ≡ front ++ b ∷ more → shape in_a in_b in_c make front ≡ Err faults.Cut
shape_cut in_a in_b in_c make bounded q front b more h e =
    ap (λ r. after r (λ o. done (make o))) ((operands_reads in_a in_b in_c bounded.a bounded.b bounded.c).cut q front b more h e)

none_within : AreWithin unused unused unused (record { a = 0; b = 0; c = 0 })
none_within = record { a = (omega arith, omega arith); b = (omega arith, omega arith); c = (omega arith, omega arith) }

none_cut : (i : Instr) (front : List ℕ) (b : ℕ) (more : List ℕ) → three 0 0 0 ≡ front ++ b ∷ more → shape unused unused unused (λ _. i) front ≡ Err faults.Cut
none_cut i front b more e =
    shape_cut unused unused unused (λ _. i) (record { a = omega arith; b = omega arith; c = omega arith }) (record { a = 0; b = 0; c = 0 }) front b more none_within e

one_cut : (in_a : Range) (make : ℕ → Instr) → in_a.greatest < 2 ^ 32 → (a : ℕ) (front : List ℕ) (b : ℕ) (more : List ℕ) → Within in_a a → three a 0 0 ≡ front ++ b ∷ more
    → shape in_a unused unused (λ q. make q.a) front ≡ Err faults.Cut
one_cut in_a make bound a front b more h e =
    shape_cut in_a unused unused (λ q. make q.a) (record { a = bound; b = omega arith; c = omega arith }) (record { a = a; b = 0; c = 0 }) front b more
    (record { a = h; b = (omega arith, omega arith); c = (omega arith, omega arith) }) e

two_cut : (in_a in_b : Range) (make : ℕ → ℕ → Instr) → in_a.greatest < 2 ^ 32 → in_b.greatest < 2 ^ 32 → (a c : ℕ) (front : List ℕ) (b : ℕ) (more : List ℕ) → Within in_a a → Within in_b c
    → three a c 0 ≡ front ++ b ∷ more → shape in_a in_b unused (λ q. make q.a q.b) front ≡ Err faults.Cut
two_cut in_a in_b make bound_a bound_b a c front b more h k e =
    shape_cut in_a in_b unused (λ q. make q.a q.b) (record { a = bound_a; b = bound_b; c = omega arith }) (record { a = a; b = c; c = 0 }) front b more
    (record { a = h; b = k; c = (omega arith, omega arith) }) e

three_cut : (in_a in_b in_c : Range) (make : ℕ → ℕ → ℕ → Instr) → in_a.greatest < 2 ^ 32 → in_b.greatest < 2 ^ 32 → in_c.greatest < 2 ^ 32 → (a c d : ℕ) (front : List ℕ) (b : ℕ) (more : List ℕ)
    → Within in_a a → Within in_b c → Within in_c d → three a c d ≡ front ++ b ∷ more → shape in_a in_b in_c (λ q. make q.a q.b q.c) front ≡ Err faults.Cut
three_cut in_a in_b in_c make bound_a bound_b bound_c a c d front b more h k l e =
    shape_cut in_a in_b in_c (λ q. make q.a q.b q.c) (record { a = bound_a; b = bound_b; c = bound_c }) (record { a = a; b = c; c = d }) front b more (record { a = h; b = k; c = l }) e

const_cut : (v : ℤ) (front : List ℕ) (b : ℕ) (more : List ℕ) → FitsSigned w64 v → operands (instrs.Const v) ≡ front ++ b ∷ more → const_at front ≡ Err faults.Cut
unfolding const_at
const_cut v front b more fits e =
    cut_after value_at (λ w. number_at w32 0 0 >>= λ c. done (instrs.Const w)) v (value v) (number w32 0) front b more e
    (λ f c m q. value_reads.cut v f c m fits q) (λ rest. value_reads.again v rest fits)
    (λ f q. ap (λ r. after r (λ c. done (instrs.Const v))) ((number_reads w32 (2 ^ 32) 0 0 wide32 (omega arith)).cut 0 f b more (omega arith, omega arith) q))

instr_cut : (i : Instr) (front : List ℕ) (b : ℕ) (more : List ℕ) → InstrInRange i → operands i ≡ front ++ b ∷ more → instr_at (opcode i) (operator i) front ≡ Err faults.Cut
unfolding instr_at
instr_cut (instrs.Const v) front b more h e = const_cut v front b more h e
instr_cut (instrs.Get a) front b more h e = one_cut any_word (λ a. instrs.Get a) (omega arith) a front b more (is_word a h) e
instr_cut (instrs.Put a) front b more h e = one_cut any_word (λ a. instrs.Put a) (omega arith) a front b more (is_word a h) e
instr_cut (instrs.GetAt a c) front b more h e = two_cut any_word a_length (λ a c. instrs.GetAt a c) (omega arith) (omega arith) a c front b more (is_word a h.0) h.1 e
instr_cut (instrs.PutAt a c) front b more h e = two_cut any_word a_length (λ a c. instrs.PutAt a c) (omega arith) (omega arith) a c front b more (is_word a h.0) h.1 e
instr_cut (instrs.Arith op) front b more h e = none_cut (instrs.Arith (op_from (op_number op))) front b more e
instr_cut (instrs.Jump a) front b more h e = one_cut any_word (λ a. instrs.Jump a) (omega arith) a front b more (is_word a h) e
instr_cut (instrs.Branch a) front b more h e = one_cut any_word (λ a. instrs.Branch a) (omega arith) a front b more (is_word a h) e
instr_cut (instrs.Loop a c d) front b more h e = three_cut any_word a_length any_word (λ a c d. instrs.Loop a c d) (omega arith) (omega arith) (omega arith) a c d front b more (is_word a h.0) h.1 (is_word d h.2) e
instr_cut (instrs.Receive a c) front b more h e = two_cut any_word any_word (λ a c. instrs.Receive a c) (omega arith) (omega arith) a c front b more (is_word a h.0) (is_word c h.1) e
instr_cut (instrs.Send a) front b more h e = one_cut any_word (λ a. instrs.Send a) (omega arith) a front b more (is_word a h) e
instr_cut (instrs.Hold a) front b more h e = one_cut a_bound (λ a. instrs.Hold a) (omega arith) a front b more h e
instr_cut (instrs.Copy a c d) front b more h e = three_cut any_word any_word a_length (λ a c d. instrs.Copy a c d) (omega arith) (omega arith) (omega arith) a c d front b more (is_word a h.0) (is_word c h.1) h.2 e
instr_cut instrs.Mark front b more h e = none_cut instrs.Mark front b more e
instr_cut instrs.End front b more h e = none_cut instrs.End front b more e

instr_reads : (o p : ℕ) → IsInRange 1 15 o → OperatorFits o p → Reads (instr_at o p) operands (IsInstr o p)
instr_reads o p h k = record {
  takes = λ bytes x rest fits e. instr_takes o p h k bytes x rest fits e;
  again = λ x rest is. subst (λ (n : ℕ). instr_at n p (operands x ++ rest) ≡ Ok (x, rest)) is.opcode_is
      (subst (λ (n : ℕ). instr_at (opcode x) n (operands x ++ rest) ≡ Ok (x, rest)) is.operator_is (instr_again x rest is.in_range));
  cut = λ x front b more is e. subst (λ (n : ℕ). instr_at n p front ≡ Err faults.Cut) is.opcode_is
      (subst (λ (n : ℕ). instr_at (opcode x) n front ≡ Err faults.Cut) is.operator_is (instr_cut x front b more is.in_range e));
}

-- ---- lines

opcode_in_range : (i : Instr) → IsInRange 1 15 (opcode i)
opcode_in_range (instrs.Const v) = (omega arith, omega arith)
opcode_in_range (instrs.Get a) = (omega arith, omega arith)
opcode_in_range (instrs.Put a) = (omega arith, omega arith)
opcode_in_range (instrs.GetAt a b) = (omega arith, omega arith)
opcode_in_range (instrs.PutAt a b) = (omega arith, omega arith)
opcode_in_range (instrs.Arith op) = (omega arith, omega arith)
opcode_in_range (instrs.Jump a) = (omega arith, omega arith)
opcode_in_range (instrs.Branch a) = (omega arith, omega arith)
opcode_in_range (instrs.Loop a b c) = (omega arith, omega arith)
opcode_in_range (instrs.Receive a b) = (omega arith, omega arith)
opcode_in_range (instrs.Send a) = (omega arith, omega arith)
opcode_in_range (instrs.Hold a) = (omega arith, omega arith)
opcode_in_range (instrs.Copy a b c) = (omega arith, omega arith)
opcode_in_range instrs.Mark = (omega arith, omega arith)
opcode_in_range instrs.End = (omega arith, omega arith)

operator_fits : (i : Instr) → OperatorFits (opcode i) (operator i)
operator_fits (instrs.Const v) = (omega arith, omega arith)
operator_fits (instrs.Get a) = (omega arith, omega arith)
operator_fits (instrs.Put a) = (omega arith, omega arith)
operator_fits (instrs.GetAt a b) = (omega arith, omega arith)
operator_fits (instrs.PutAt a b) = (omega arith, omega arith)
operator_fits (instrs.Arith op) = op_in_range op
operator_fits (instrs.Jump a) = (omega arith, omega arith)
operator_fits (instrs.Branch a) = (omega arith, omega arith)
operator_fits (instrs.Loop a b c) = (omega arith, omega arith)
operator_fits (instrs.Receive a b) = (omega arith, omega arith)
operator_fits (instrs.Send a) = (omega arith, omega arith)
operator_fits (instrs.Hold a) = (omega arith, omega arith)
operator_fits (instrs.Copy a b c) = (omega arith, omega arith)
operator_fits instrs.Mark = (omega arith, omega arith)
operator_fits instrs.End = (omega arith, omega arith)

one_of_two : (b : Bool) → Reads (cond b (byte_at 1 15) (byte_at 0 0)) byte (λ p. MatchBool b (IsInRange 1 15 p) (IsInRange 0 0 p))
one_of_two true = byte_reads 1 15
one_of_two false = byte_reads 0 0

line_reads : Reads line_at line LineInRange
unfolding line_at
line_reads =
    as_reads line LineInRange
    (bind_reads (byte_reads 1 15) (λ (l : Line). opcode l.instr)
    (λ o ho. bind_reads (one_of_two (eqb o 6)) (λ (l : Line). operator l.instr)
    (λ p hp. bind_reads (number_reads w16 (2 ^ 16) 0 65535 wide16 (omega arith)) (λ (l : Line). l.depth)
    (λ d hd. bind_reads (instr_reads o p ho hp) (λ (l : Line). l.instr)
    (λ i hi. done_reads (record { instr = i; depth = d }))
    (λ i hi l e. ap (λ (m : Line). m.instr) e))
    (λ d hd l e. ap (λ (m : Line). m.depth) e.1))
    (λ p hp l e. e.1.0.operator_is))
    (λ o ho l e. e.1.1.0.opcode_is))
    (λ l h. simp (append_assoc, append-nil))
    (λ l h. record { depth = omega (arith, h.1.1.0.1); instr = h.1.1.1.0.in_range })
    (λ l h. (opcode_in_range l.instr, (operator_fits l.instr, ((omega arith, omega (arith, h.depth)), (record { opcode_is = refl; operator_is = refl; in_range = h.instr }, refl)))))

pub code_reads : Reads code_at code CodeInRange
unfolding code_at
code_reads =
    as_reads code CodeInRange
    (bind_reads (number_reads w32 (2 ^ 32) 1 65536 wide32 (omega arith)) (λ (ls : List Line). length ls) (λ n range. many_reads line_reads n) (λ n range ls h. h.0))
    (λ ls h. refl) (λ ls h. record { count = h.0; each = h.1.1 }) (λ ls h. (h.count, (refl, h.each)))
