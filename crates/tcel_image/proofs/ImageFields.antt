-- States, tasks and images as fields, and what all of the bytes spell.
use Rattle.std.proofs.Common.{◌≡◌, ℕ, zero, suc, ◌+◌, ◌-◌, ◌^◌, ◌≤◌, min, Bool, true, false, eqb, List, [], ◌∷◌, ◌++◌, length, take, drop, Result, Ok, Err, refl, sym, ap, subst, ◌∙◌, arith, All, append_assoc, inl, inr}
use Rattle.std.specs.Prelude.{nat_eq}
use Rattle.std.specs.List.{flat_map, AllByRecursion, starts_with}
use Rattle.std.specs.Int.{w16, w32, IsInRange}
use Rattle.std.specs.Cmp.Lexicographic.{pointwise}
use Rattle.std.proofs.Math.Dec.{eqb-suc-zero}
use Rattle.std.proofs.lemmas.Bool.{eqb-true, and_parts}
use Rattle.std.proofs.lemmas.List.{append-nil, nil_from_length, take-append-drop}
use Rattle.std.proofs.lemmas.List.Sums.{sum_by-cons}
use Rattle.std.proofs.lemmas.List.Elements.{All-from_recursion, recursion_from_All}
use Rattle.tcel_target.specs.declared.costs.Costs.{Costs}
use Rattle.tcel_target.specs.declared.costs.CostKey.TheVariants as keys
use Rattle.tcel_image.specs.declared.fault.Fault.{Fault}
use Rattle.tcel_image.specs.declared.fault.Fault.TheVariants as faults
use Rattle.tcel_image.specs.declared.image.Image.{Image}
use Rattle.tcel_image.specs.declared.image.ImageTask.{ImageTask}
use Rattle.tcel_image.specs.declared.image.ImageState.{ImageState}
use Rattle.tcel_image.specs.declared.image.StateKind.{StateKind}
use Rattle.tcel_image.specs.declared.image.StateKind.TheVariants as kinds
use Rattle.tcel_target.specs.Costs.{CostsInRange}
use Rattle.tcel_image.specs.Spelling.{number, byte, name, names, kind_number, flag, state, states, code, task, costs, magic, dispatch, version, spelling, most_words, state_words, StateInRange, StatesInRange, TaskInRange, InRange}
use Rattle.tcel_image.specs.Reading.{Reader, number_at, many_at, after, ◌>>=◌, done, kind_from, state_at, states_from, states_at, task_at, cost_at, costs_at, dispatch_at, magic_at, image_at, ended}
use Rattle.tcel_image.proofs.Readers.{IsBytes, Takes, Takes-then, Reads, given, given_value, given_rest, bind_ok, done_reads, bind_reads, as_reads, shorter, cut_in, cut_after}
use Rattle.tcel_image.proofs.Fields.{number_reads, byte_reads, value_reads, many_reads, wide16, wide32, IsBytes-drop, test_ok}
use Rattle.tcel_image.proofs.NameFields.{name_reads, names_reads}
use Rattle.tcel_image.proofs.InstrFields.{code_reads}

-- ---- states

kind_number-kind_from : (k : ℕ) → IsInRange 0 2 k → kind_number (kind_from k) ≡ k
kind_number-kind_from zero h = refl
kind_number-kind_from (suc zero) h = refl
kind_number-kind_from (suc (suc zero)) h = refl
kind_number-kind_from (suc (suc (suc k))) h = absurd (omega (arith, h.1))

kind_from-kind_number : (k : StateKind) → kind_from (kind_number k) ≡ k
kind_from-kind_number kinds.Int = refl
kind_from-kind_number kinds.Bool = refl
kind_from-kind_number kinds.Array = refl

kind_in_range : (k : StateKind) → IsInRange 0 2 (kind_number k)
kind_in_range kinds.Int = (omega arith, omega arith)
kind_in_range kinds.Bool = (omega arith, omega arith)
kind_in_range kinds.Array = (omega arith, omega arith)

most_below : (k : StateKind) → most_words k ≤ 4096
most_below kinds.Int = omega arith
most_below kinds.Bool = omega arith
most_below kinds.Array = omega arith

-- a state that fits behind earlier states of so many words
record FitsBehind (used : ℕ) (s : ImageState) : Type 0 where
  alone : StateInRange s
  room : used + s.words ≤ 4096

state_reads : (used : ℕ) → used ≤ 4096 → Reads (state_at used) state (FitsBehind used)
unfolding state_at
state_reads used most =
    as_reads state (FitsBehind used)
    (bind_reads name_reads (λ (s : ImageState). s.name)
    (λ n hn. bind_reads (byte_reads 0 2) (λ (s : ImageState). kind_number s.kind)
    (λ k hk. bind_reads (number_reads w32 (2 ^ 32) 1 (min (most_words (kind_from k)) (4096 - used)) wide32 (omega (arith, most_below (kind_from k)))) (λ (s : ImageState). s.words)
    (λ w hw. bind_reads (many_reads value_reads w) (λ (s : ImageState). s.first)
    (λ f hf. done_reads (record { name = n; kind = kind_from k; words = w; first = f }))
    (λ f hf s e. ap (λ (t : ImageState). t.first) e))
    (λ w hw s e. ap (λ (t : ImageState). t.words) e.1))
    (λ k hk s e. ap (λ (t : ImageState). kind_number t.kind) e.1.1 ∙ kind_number-kind_from k hk))
    (λ n hn s e. ap (λ (t : ImageState). t.name) e.1.1.1))
    (λ s h. simp (append_assoc, append-nil))
    (λ s h.
    let words : s.words ≤ min (most_words (kind_from (kind_number s.kind))) (4096 - used) = h.1.1.0.1 in
    let same : kind_from (kind_number s.kind) ≡ s.kind = kind_from-kind_number s.kind in
    let words' : s.words ≤ min (most_words s.kind) (4096 - used) = subst (λ (k : StateKind). s.words ≤ min (most_words k) (4096 - used)) same words in
    record { alone = record { name = h.0; words = (h.1.1.0.0, omega (arith, words')); first = h.1.1.1.0.0; values = h.1.1.1.0.1 }; room = omega (arith, words') })
    (λ s h.
    let words : s.words ≤ min (most_words s.kind) (4096 - used) = omega (arith, h.alone.words.1, h.room) in
    let same : kind_from (kind_number s.kind) ≡ s.kind = kind_from-kind_number s.kind in
    let words' : s.words ≤ min (most_words (kind_from (kind_number s.kind))) (4096 - used) = subst (λ (k : StateKind). s.words ≤ min (most_words k) (4096 - used)) (sym same) words in
    (h.alone.name, (kind_in_range s.kind, ((h.alone.words.0, words'), ((h.alone.first, h.alone.values), ap (λ (k : StateKind). record s { kind = k }) (sym same))))))

states_take : (n used : ℕ) (bytes : List ℕ) (ss : List ImageState) (rest : List ℕ) → used ≤ 4096 → IsBytes bytes → states_from used n bytes ≡ Ok (ss, rest)
    → Takes bytes (flat_map state ss) rest × (length ss ≡ n) × AllByRecursion StateInRange ss × (used + state_words ss ≤ 4096)
unfolding states_from
states_take zero used bytes ss rest most fits e =
    let none : [] ≡ ss = given_value [] ss bytes rest e in
    let same : bytes ≡ rest = given_rest [] ss bytes rest e in
    subst (λ (ts : List ImageState). Takes bytes (flat_map state ts) rest × (length ts ≡ 0) × AllByRecursion StateInRange ts × (used + state_words ts ≤ 4096)) none
    (record { parts = same; rest_fits = subst IsBytes same fits }, refl, tt, omega arith)
states_take (suc n) used bytes ss rest most fits e =
    let a = bind_ok (state_at used bytes) (λ first. states_from (used + first.words) n >>= λ others. done (first ∷ others)) (ss, rest) e in
    let b = bind_ok (states_from (used + a.0.words) n a.1) (λ others. done (a.0 ∷ others)) (ss, rest) a.3 in
    let first = (state_reads used most).takes bytes a.0 a.1 fits a.2 in
    let second = states_take n (used + a.0.words) a.1 b.0 b.1 first.1.room first.0.rest_fits b.2 in
    let both = Takes-then bytes (state a.0) a.1 (flat_map state b.0) b.1 first.0 second.0 in
    let list-is : a.0 ∷ b.0 ≡ ss = given_value (a.0 ∷ b.0) ss b.1 rest b.3 in
    let rest-is : b.1 ≡ rest = given_rest (a.0 ∷ b.0) ss b.1 rest b.3 in
    subst (λ (ts : List ImageState). Takes bytes (flat_map state ts) rest × (length ts ≡ suc n) × AllByRecursion StateInRange ts × (used + state_words ts ≤ 4096)) list-is
    (subst (λ (r : List ℕ). Takes bytes (state a.0 ++ flat_map state b.0) r) rest-is both, ap suc second.1, (first.1.alone, second.2), omega (arith, second.3, sum_by-cons (λ (s : ImageState). s.words) a.0 b.0))

states_again : (used : ℕ) (ss : List ImageState) (rest : List ℕ) → AllByRecursion StateInRange ss → used + state_words ss ≤ 4096
    → states_from used (length ss) (flat_map state ss ++ rest) ≡ Ok (ss, rest)
unfolding states_from
states_again used [] rest fits room = refl
states_again used (s ∷ ss) rest fits room =
    let all : used + (s.words + state_words ss) ≤ 4096 = omega (arith, room, sum_by-cons (λ (s : ImageState). s.words) s ss) in
    let first : FitsBehind used s = record { alone = fits.0; room = omega (arith, all) } in
    ap (states_from used (suc (length ss))) (append_assoc (state s) (flat_map state ss) rest)
    ∙ ap (λ r. after r (λ first. states_from (used + first.words) (length ss) >>= λ others. done (first ∷ others))) ((state_reads used (omega (arith, all))).again s (flat_map state ss ++ rest) first)
    ∙ ap (λ r. after r (λ others. done (s ∷ others))) (states_again (used + s.words) ss rest fits.1 (omega (arith, all)))

states_cut : (used : ℕ) (ss : List ImageState) (front : List ℕ) (b : ℕ) (more : List ℕ) → AllByRecursion StateInRange ss → used + state_words ss ≤ 4096
    → flat_map state ss ≡ front ++ b ∷ more → states_from used (length ss) front ≡ Err faults.Cut
unfolding states_from
states_cut used [] front b more fits room e = absurd (omega (arith, shorter [] front b more e))
states_cut used (s ∷ ss) front b more fits room e =
    let all : used + (s.words + state_words ss) ≤ 4096 = omega (arith, room, sum_by-cons (λ (s : ImageState). s.words) s ss) in
    let first : FitsBehind used s = record { alone = fits.0; room = omega (arith, all) } in
    let reads = state_reads used (omega (arith, all)) in
    cut_after (state_at used) (λ first. states_from (used + first.words) (length ss) >>= λ others. done (first ∷ others)) s (state s) (flat_map state ss) front b more e
    (λ f c m q. reads.cut s f c m first q) (λ rest. reads.again s rest first)
    (λ f q. ap (λ r. after r (λ others. done (s ∷ others))) (states_cut (used + s.words) ss f b more fits.1 (omega (arith, all)) q))

record FollowStates (n : ℕ) (ss : List ImageState) : Type 0 where
  count : length ss ≡ n
  each : All StateInRange ss
  words : state_words ss ≤ 4096

follow_reads : (n : ℕ) → Reads (states_from 0 n) (flat_map state) (FollowStates n)
follow_reads n = record {
  takes = λ bytes ss rest fits e.
      let t = states_take n 0 bytes ss rest (omega arith) fits e in
      (t.0, record { count = t.1; each = All-from_recursion StateInRange ss t.2; words = omega (arith, t.3) });
  again = λ ss rest h. subst (λ (k : ℕ). states_from 0 k (flat_map state ss ++ rest) ≡ Ok (ss, rest)) h.count
      (states_again 0 ss rest (recursion_from_All StateInRange ss h.each) (omega (arith, h.words)));
  cut = λ ss front b more h e. subst (λ (k : ℕ). states_from 0 k front ≡ Err faults.Cut) h.count
      (states_cut 0 ss front b more (recursion_from_All StateInRange ss h.each) (omega (arith, h.words)) e);
}

states_reads : Reads states_at states StatesInRange
unfolding states_at
states_reads =
    as_reads states StatesInRange
    (bind_reads (number_reads w16 (2 ^ 16) 0 256 wide16 (omega arith)) (λ (ss : List ImageState). length ss) (λ n range. follow_reads n) (λ n range ss h. h.count))
    (λ ss h. refl) (λ ss h. record { count = h.0.1; each = h.1.each; words = h.1.words })
    (λ ss h. ((omega arith, h.count), record { count = refl; each = h.each; words = h.words }))

-- ---- tasks

flag-test : (n : ℕ) → IsInRange 0 1 n → flag (eqb n 1) ≡ n
flag-test zero h = refl
flag-test (suc zero) h = refl
flag-test (suc (suc n)) h = absurd (omega (arith, h.1))

test-flag : (b : Bool) → eqb (flag b) 1 ≡ b
test-flag true = refl
test-flag false = refl

flag_in_range : (b : Bool) → IsInRange 0 1 (flag b)
flag_in_range true = (omega arith, omega arith)
flag_in_range false = (omega arith, omega arith)

regroup : (a b c d e f g h : List ℕ) → a ++ b ++ c ++ d ++ e ++ f ++ g ++ h ≡ a ++ (b ++ (c ++ (d ++ (e ++ (f ++ (g ++ (h ++ [])))))))
regroup a b c d e f g h = simp (append_assoc, append-nil)

task_reads : Reads task_at task TaskInRange
unfolding task_at
task_reads =
    as_reads task TaskInRange
    (bind_reads name_reads (λ (t : ImageTask). t.name)
    (λ n hn. bind_reads (number_reads w32 (2 ^ 32) 0 4294967295 wide32 (omega arith)) (λ (t : ImageTask). t.period)
    (λ p hp. bind_reads (byte_reads 0 1) (λ (t : ImageTask). flag t.sliced)
    (λ f hf. bind_reads names_reads (λ (t : ImageTask). t.inputs)
    (λ i hi. bind_reads names_reads (λ (t : ImageTask). t.outputs)
    (λ o ho. bind_reads states_reads (λ (t : ImageTask). t.states)
    (λ s hs. bind_reads (number_reads w32 (2 ^ 32) (state_words s) 65536 wide32 (omega arith)) (λ (t : ImageTask). t.cells)
    (λ c hc. bind_reads code_reads (λ (t : ImageTask). t.code)
    (λ l hl. done_reads (record { name = n; period = p; sliced = eqb f 1; inputs = i; outputs = o; states = s; cells = c; code = l }))
    (λ l hl t e. ap (λ (u : ImageTask). u.code) e))
    (λ c hc t e. ap (λ (u : ImageTask). u.cells) e.1))
    (λ s hs t e. ap (λ (u : ImageTask). u.states) e.1.1))
    (λ o ho t e. ap (λ (u : ImageTask). u.outputs) e.1.1.1))
    (λ i hi t e. ap (λ (u : ImageTask). u.inputs) e.1.1.1.1))
    (λ f hf t e. ap (λ (u : ImageTask). flag u.sliced) e.1.1.1.1.1 ∙ flag-test f hf))
    (λ p hp t e. ap (λ (u : ImageTask). u.period) e.1.1.1.1.1.1))
    (λ n hn t e. ap (λ (u : ImageTask). u.name) e.1.1.1.1.1.1.1))
    (λ t h. regroup (name t.name) (number w32 t.period) (byte (flag t.sliced)) (names t.inputs) (names t.outputs) (states t.states) (number w32 t.cells) (code t.code))
    (λ t h. record { name = h.0; period = omega (arith, h.1.0.1); inputs = h.1.1.1.0; outputs = h.1.1.1.1.0; states = h.1.1.1.1.1.0; cells = h.1.1.1.1.1.1.0; code = h.1.1.1.1.1.1.1.0 })
    (λ t h. (
      h.name,
      (
        (omega arith, omega (arith, h.period)),
        (
          flag_in_range t.sliced,
          (
            h.inputs,
            (
              h.outputs,
              (
                h.states,
                (
                  h.cells,
                  (
                    h.code,
                    ap (λ (b : Bool). record t { sliced = b }) (sym (test-flag t.sliced)),
                  ),
                ),
              ),
            ),
          ),
        ),
      ),
    ))

-- ---- images

abbrev IsCycles : ℕ → Type 0
IsCycles n = IsInRange 1 1000 n

cost_reads : Reads cost_at (number w32) IsCycles
cost_reads = number_reads w32 (2 ^ 32) 1 1000 wide32 (omega arith)

-- the cost of a frame's start in an image of this version
record HasVersion (v ticks : ℕ) : Type 0 where
  most : ticks ≤ 1000
  same : version ticks ≡ v

second_version : (n : ℕ) → 1 ≤ n → version n ≡ 2
second_version zero some = absurd (omega arith)
second_version (suc n) some = rw (eqb-suc-zero n) refl

no_dispatch : (n : ℕ) → version n ≡ 1 → n ≡ 0
no_dispatch zero e = refl
no_dispatch (suc n) e = absurd (omega (arith, e, second_version (suc n) (omega arith)))

some_dispatch : (n : ℕ) → version n ≡ 2 → 1 ≤ n
some_dispatch zero e = absurd (omega (arith, e))
some_dispatch (suc n) e = omega arith

dispatch_is : (n : ℕ) → 1 ≤ n → dispatch n ≡ number w32 n
dispatch_is zero some = absurd (omega arith)
dispatch_is (suc n) some = rw (eqb-suc-zero n) refl

dispatch_reads : (v : ℕ) → IsInRange 1 2 v → Reads (dispatch_at v) dispatch (HasVersion v)
unfolding dispatch_at
dispatch_reads zero h = absurd (omega (arith, h.0))
dispatch_reads (suc zero) h =
    as_reads dispatch (HasVersion 1) (done_reads 0) (λ n is. ap dispatch is)
    (λ n is. record { most = omega (arith, is); same = ap version is }) (λ n is. no_dispatch n is.same)
dispatch_reads (suc (suc zero)) h =
    as_reads dispatch (HasVersion 2) cost_reads (λ n is. dispatch_is n is.0)
    (λ n is. record { most = is.1; same = second_version n is.0 }) (λ n is. (some_dispatch n is.same, is.most))
dispatch_reads (suc (suc (suc v))) h = absurd (omega (arith, h.1))

-- a table in an image of this version
record AreOfVersion (v : ℕ) (c : Costs) : Type 0 where
  range : CostsInRange c
  same : version c.dispatch ≡ v

costs_reads : (v : ℕ) → IsInRange 1 2 v → Reads (costs_at v) costs (AreOfVersion v)
unfolding costs_at
costs_reads v hv =
    as_reads costs (AreOfVersion v)
    (bind_reads cost_reads (λ (c : Costs). c.const_) (λ const_ h0.
    bind_reads cost_reads (λ (c : Costs). c.load) (λ load h1.
    bind_reads cost_reads (λ (c : Costs). c.store) (λ store h2.
    bind_reads cost_reads (λ (c : Costs). c.load_at) (λ load_at h3.
    bind_reads cost_reads (λ (c : Costs). c.store_at) (λ store_at h4.
    bind_reads cost_reads (λ (c : Costs). c.arith) (λ arith_ h5.
    bind_reads cost_reads (λ (c : Costs). c.multiply) (λ multiply h6.
    bind_reads cost_reads (λ (c : Costs). c.divide) (λ divide h7.
    bind_reads cost_reads (λ (c : Costs). c.jump) (λ jump h8.
    bind_reads cost_reads (λ (c : Costs). c.branch) (λ branch h9.
    bind_reads cost_reads (λ (c : Costs). c.loop_) (λ loop_ h10.
    bind_reads cost_reads (λ (c : Costs). c.receive) (λ receive h11.
    bind_reads cost_reads (λ (c : Costs). c.send) (λ send h12.
    bind_reads cost_reads (λ (c : Costs). c.mark) (λ mark h13.
    bind_reads cost_reads (λ (c : Costs). c.end) (λ end h14.
    bind_reads (dispatch_reads v hv) (λ (c : Costs). c.dispatch) (λ dispatch_ h15.
    done_reads (record { const_ = const_; load = load; store = store; load_at = load_at; store_at = store_at; arith = arith_; multiply = multiply; divide = divide; jump = jump; branch = branch; loop_ = loop_; receive = receive; send = send; mark = mark; end = end; dispatch = dispatch_ }))
    (λ x h c e. ap (λ (d : Costs). d.dispatch) e))
    (λ x h c e. ap (λ (d : Costs). d.end) e.1))
    (λ x h c e. ap (λ (d : Costs). d.mark) e.1.1))
    (λ x h c e. ap (λ (d : Costs). d.send) e.1.1.1))
    (λ x h c e. ap (λ (d : Costs). d.receive) e.1.1.1.1))
    (λ x h c e. ap (λ (d : Costs). d.loop_) e.1.1.1.1.1))
    (λ x h c e. ap (λ (d : Costs). d.branch) e.1.1.1.1.1.1))
    (λ x h c e. ap (λ (d : Costs). d.jump) e.1.1.1.1.1.1.1))
    (λ x h c e. ap (λ (d : Costs). d.divide) e.1.1.1.1.1.1.1.1))
    (λ x h c e. ap (λ (d : Costs). d.multiply) e.1.1.1.1.1.1.1.1.1))
    (λ x h c e. ap (λ (d : Costs). d.arith) e.1.1.1.1.1.1.1.1.1.1))
    (λ x h c e. ap (λ (d : Costs). d.store_at) e.1.1.1.1.1.1.1.1.1.1.1))
    (λ x h c e. ap (λ (d : Costs). d.load_at) e.1.1.1.1.1.1.1.1.1.1.1.1))
    (λ x h c e. ap (λ (d : Costs). d.store) e.1.1.1.1.1.1.1.1.1.1.1.1.1))
    (λ x h c e. ap (λ (d : Costs). d.load) e.1.1.1.1.1.1.1.1.1.1.1.1.1.1))
    (λ x h c e. ap (λ (d : Costs). d.const_) e.1.1.1.1.1.1.1.1.1.1.1.1.1.1.1))
    (λ c h. simp (append_assoc, append-nil))
    (λ c h. record {
      range = elim [
        | keys.Const ↦ h.0
        | keys.Load ↦ h.1.0
        | keys.Store ↦ h.1.1.0
        | keys.LoadAt ↦ h.1.1.1.0
        | keys.StoreAt ↦ h.1.1.1.1.0
        | keys.Arith ↦ h.1.1.1.1.1.0
        | keys.Multiply ↦ h.1.1.1.1.1.1.0
        | keys.Divide ↦ h.1.1.1.1.1.1.1.0
        | keys.Jump ↦ h.1.1.1.1.1.1.1.1.0
        | keys.Branch ↦ h.1.1.1.1.1.1.1.1.1.0
        | keys.Loop ↦ h.1.1.1.1.1.1.1.1.1.1.0
        | keys.Receive ↦ h.1.1.1.1.1.1.1.1.1.1.1.0
        | keys.Send ↦ h.1.1.1.1.1.1.1.1.1.1.1.1.0
        | keys.Mark ↦ h.1.1.1.1.1.1.1.1.1.1.1.1.1.0
        | keys.End ↦ h.1.1.1.1.1.1.1.1.1.1.1.1.1.1.0
        | keys.Dispatch ↦ (omega arith, h.1.1.1.1.1.1.1.1.1.1.1.1.1.1.1.0.most)
      ];
      same = h.1.1.1.1.1.1.1.1.1.1.1.1.1.1.1.0.same;
    })
    (λ c h. (h.range keys.Const, (h.range keys.Load, (h.range keys.Store, (h.range keys.LoadAt, (h.range keys.StoreAt, (h.range keys.Arith, (h.range keys.Multiply, (h.range keys.Divide, (h.range keys.Jump, (h.range keys.Branch, (h.range keys.Loop, (h.range keys.Receive, (h.range keys.Send, (h.range keys.Mark, (h.range keys.End, (record { most = (h.range keys.Dispatch).1; same = h.same }, refl)))))))))))))))))

same_bytes : (xs ys : List ℕ) → pointwise nat_eq xs ys ≡ true → xs ≡ ys
same_bytes [] [] h = refl
same_bytes [] (y ∷ ys) h = absurd cc
same_bytes (x ∷ xs) [] h = absurd cc
same_bytes (x ∷ xs) (y ∷ ys) h =
    let p = and_parts (eqb x y) (pointwise nat_eq xs ys) h in
    let head : x ≡ y = eqb-true x y p.0 in
    rw (head, same_bytes xs ys p.1) refl

magic_takes : (bytes m rest : List ℕ) → IsBytes bytes → magic_at bytes ≡ Ok (m, rest) → Takes bytes m rest × (m ≡ magic)
unfolding magic_at
magic_takes bytes m rest fits e =
    let t = test_ok (starts_with nat_eq bytes magic) faults.Magic (given magic (drop 4 bytes)) (m, rest) e in
    let front : magic ≡ take 4 bytes = same_bytes magic (take 4 bytes) t.0 in
    let m-is : magic ≡ m = given_value magic m (drop 4 bytes) rest t.1 in
    let rest-is : drop 4 bytes ≡ rest = given_rest magic m (drop 4 bytes) rest t.1 in
    let parts : bytes ≡ magic ++ drop 4 bytes = sym (take-append-drop 4 bytes) ∙ ap (λ (l : List ℕ). l ++ drop 4 bytes) (sym front) in
    let t' : Takes bytes magic rest = subst (λ (r : List ℕ). Takes bytes magic r) rest-is (record { parts = parts; rest_fits = IsBytes-drop 4 bytes fits }) in
    (subst (λ (l : List ℕ). Takes bytes l rest) m-is t', sym m-is)

magic_again : (rest : List ℕ) → magic_at (magic ++ rest) ≡ Ok (magic, rest)
unfolding magic_at
magic_again rest = refl

regroup_five : (a b c d e : List ℕ) → a ++ b ++ c ++ d ++ e ≡ a ++ (b ++ (c ++ (d ++ e)))
regroup_five a b c d e = simp append_assoc

version_range : (n : ℕ) → IsInRange 1 2 (version n)
version_range zero = (omega arith, omega arith)
version_range (suc n) = (omega (arith, second_version (suc n) (omega arith)), omega (arith, second_version (suc n) (omega arith)))

-- the fields behind the magic
fields_at : Reader Image
fields_at = number_at w32 1 2 >>= λ v. number_at w32 1 16 >>= λ n. costs_at v >>= λ c. many_at task_at n >>= λ ts. done (record { costs = c; tasks = ts })

fields : Image → List ℕ
fields i = number w32 (version i.costs.dispatch) ++ (number w32 (length i.tasks) ++ (costs i.costs ++ flat_map task i.tasks))

spelling_is : (i : Image) → spelling i ≡ magic ++ fields i
unfolding fields
spelling_is i = regroup_five magic (number w32 (version i.costs.dispatch)) (number w32 (length i.tasks)) (costs i.costs) (flat_map task i.tasks)

fields_reads : Reads fields_at fields InRange
unfolding fields_at fields
fields_reads =
    as_reads fields InRange
    (bind_reads (number_reads w32 (2 ^ 32) 1 2 wide32 (omega arith)) (λ (i : Image). version i.costs.dispatch)
    (λ v hv. bind_reads (number_reads w32 (2 ^ 32) 1 16 wide32 (omega arith)) (λ (i : Image). length i.tasks)
    (λ n hn. bind_reads (costs_reads v hv) (λ (i : Image). i.costs)
    (λ c hc. bind_reads (many_reads task_reads n) (λ (i : Image). i.tasks)
    (λ ts hts. done_reads (record { costs = c; tasks = ts }))
    (λ ts hts i e. ap (λ (j : Image). j.tasks) e))
    (λ c hc i e. ap (λ (j : Image). j.costs) e.1))
    (λ n hn i e. e.1.0.0))
    (λ v hv i e. e.1.0.same))
    (λ i h. ap (λ (l : List ℕ). number w32 (version i.costs.dispatch) ++ (number w32 (length i.tasks) ++ (costs i.costs ++ l))) (sym (append-nil (flat_map task i.tasks))))
    (λ i h. record { costs = h.1.1.0.range; count = h.1.0; tasks = h.1.1.1.0.1 })
    (λ i h. (version_range i.costs.dispatch, (h.count, (record { range = h.costs; same = refl }, ((refl, h.tasks), refl)))))

image_at-is : (bytes : List ℕ) → image_at bytes ≡ after (magic_at bytes) (λ m. fields_at)
unfolding image_at fields_at
image_at-is bytes = refl

behind_magic : (rest : List ℕ) → image_at (magic ++ rest) ≡ fields_at rest
behind_magic rest = image_at-is (magic ++ rest) ∙ ap (λ r. after r (λ (m : List ℕ). fields_at)) (magic_again rest)

-- ---- all of the bytes

abbrev after_all : {A : Type 0} → Result A Fault → Result (A × List ℕ) Fault
after_all (Ok x) = Ok (x, [])
after_all (Err f) = Err f

ended_ok : {A : Type 0} (r : Result (A × List ℕ) Fault) (x : A) → ended r ≡ Ok x → r ≡ Ok (x, [])
ended_ok {A} (Ok p) x e =
    let t = test_ok (eqb (length p.1) 0) (faults.Surplus (length p.1)) (Ok p.0) x e in
    let none : p.1 ≡ [] = nil_from_length p.1 (eqb-true _ _ t.0) in
    let same : p.0 ≡ x = given_value p.0 x [] [] (ap (λ (r : Result A Fault). after_all r) t.1) in
    ap (λ (l : List ℕ). given p.0 l) none ∙ ap (λ y. given y []) same
ended_ok (Err f) x e = absurd cc

pub image_takes : (bytes : List ℕ) (i : Image) → IsBytes bytes → ended (image_at bytes) ≡ Ok i → InRange i × (bytes ≡ spelling i)
image_takes bytes i fits e =
    let b = bind_ok (magic_at bytes) (λ m. fields_at) (i, []) (sym (image_at-is bytes) ∙ ended_ok (image_at bytes) i e) in
    let first = magic_takes bytes b.0 b.1 fits b.2 in
    let second = fields_reads.takes b.1 i [] first.0.rest_fits b.3 in
    let parts : bytes ≡ magic ++ b.1 = first.0.parts ∙ ap (λ (m : List ℕ). m ++ b.1) first.1 in
    (second.1, parts ∙ ap (λ (l : List ℕ). magic ++ l) (second.0.parts ∙ append-nil (fields i)) ∙ sym (spelling_is i))

-- a spelling with bytes behind it
pub image_again : (i : Image) (rest : List ℕ) → InRange i → image_at (spelling i ++ rest) ≡ Ok (i, rest)
image_again i rest h =
    ap (λ (l : List ℕ). image_at (l ++ rest)) (spelling_is i) ∙ ap image_at (append_assoc magic (fields i) rest) ∙ behind_magic (fields i ++ rest) ∙ fields_reads.again i rest h

-- a proper front of a spelling that has the magic
pub image_cut : (i : Image) (front : List ℕ) (b : ℕ) (more : List ℕ) → InRange i → spelling i ≡ front ++ b ∷ more → 4 ≤ length front → ended (image_at front) ≡ Err faults.Cut
image_cut i front b more h e long =
    elim (cut_in magic (fields i) front b more (sym (spelling_is i) ∙ e)) [
      | inl (c, rest, q) ↦ absurd (omega (arith, long, shorter magic front c rest q))
      | inr (behind, q, r) ↦ ap (λ (l : List ℕ). ended (image_at l)) q ∙ ap ended (behind_magic behind ∙ fields_reads.cut i behind b more h r)
    ]

pub whole_again : (i : Image) → InRange i → ended (image_at (spelling i)) ≡ Ok i
whole_again i h = ap (λ (l : List ℕ). ended (image_at l)) (sym (append-nil (spelling i))) ∙ ap ended (image_again i [] h)
