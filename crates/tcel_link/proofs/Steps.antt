-- Loops over links, step by step.
use Rattle.std.proofs.Common.{◌≡◌, ℕ, zero, suc, ◌+◌, ◌==◌, ◌<◌, Bool, true, false, cond, ℤ, List, [], ◌∷◌, length, map, drop, get_or, set, replicate, All, refl, sym, ap, ◌∙◌, subst, arith}
use Rattle.std.proofs.lemmas.List.{drop_more, get_or-map, length-map, length-set}
use Rattle.std.proofs.lemmas.List.Elements.{All-get_or}
use Rattle.tcel_link.specs.declared.feed.Feed.{Feed}
use Rattle.tcel_link.specs.Feeds.{Carried, all_given, all_written, carried, given, sample_at}
use Rattle.tcel_link.specs.Runs.{LeadsAmong}
use Rattle.tcel_script.specs.Script.{Streams, with_stream}

pub length-given : (number time : ℕ) (c : Carried) (inputs : List (List ℤ)) → length (given number time c inputs) ≡ length inputs
length-given number time c inputs = by_test (c.link.to == number)
  where
    by_test : (b : Bool) → length (cond b (set inputs c.link.input (replicate c.copies (sample_at time c.sample c.pending))) inputs) ≡ length inputs
    by_test true = length-set inputs c.link.input (replicate c.copies (sample_at time c.sample c.pending))
    by_test false = refl

pub length-all_given : (number time : ℕ) (cs : List Carried) (inputs : List (List ℤ)) → length (all_given number time cs inputs) ≡ length inputs
length-all_given number time [] inputs = refl
length-all_given number time (c ∷ cs) inputs = length-all_given number time cs (given number time c inputs) ∙ length-given number time c inputs

-- one link more was given
pub given_next : (number time i : ℕ) (cs : List Carried) (c : Carried) (inputs new all : List (List ℤ)) → i < length cs → c ≡ get_or cs i c → new ≡ given number time c inputs →
    all_given number time (drop i cs) inputs ≡ all → all_given number time (drop (i + 1) cs) new ≡ all
given_next number time i cs c inputs new all within is changed h =
    ap (all_given number time (drop (i + 1) cs)) (changed ∙ ap (λ x. given number time x inputs) is) ∙ sym (ap (λ xs. all_given number time xs inputs) (drop_more cs i c within)) ∙ h

-- one link more was written
pub written_next : (i : ℕ) (cs : List Carried) (c : Carried) (streams new all : Streams) → i < length cs → c ≡ get_or cs i c → new ≡ with_stream streams c.link.to c.link.input c.received →
    all_written (drop i cs) streams ≡ all → all_written (drop (i + 1) cs) new ≡ all
written_next i cs c streams new all within is changed h =
    ap (all_written (drop (i + 1) cs)) (changed ∙ ap (λ (x : Carried). with_stream streams x.link.to x.link.input x.received) is)
    ∙ sym (ap (λ xs. all_written xs streams) (drop_more cs i c within)) ∙ h

-- another stream leaves the numbers of streams as they were
pub shape_kept : (streams : Streams) (task port : ℕ) (values : List ℤ) → map (λ (row : List (List ℤ)). length row) (with_stream streams task port values) ≡ map (λ (row : List (List ℤ)). length row) streams
shape_kept [] task port values = refl
shape_kept (row ∷ streams) zero port values = ap (λ n. n ∷ map (λ (r : List (List ℤ)). length r) streams) (length-set row port values)
shape_kept (row ∷ streams) (suc task) port values = ap (λ ns. length row ∷ ns) (shape_kept streams task port values)

-- an input to which a link leads has a stream
pub leads_among : (streams : Streams) (counts : List ℕ) (c : Carried) → map (λ (row : List (List ℤ)). length row) streams ≡ counts → LeadsAmong counts c → (c.link.to < length streams) × (c.link.input < length (get_or streams c.link.to []))
leads_among streams counts c same h =
    let long = ap (λ (ns : List ℕ). length ns) same in
    let within : c.link.to < length streams = omega (arith, h.0, long, length-map streams (λ (row : List (List ℤ)). length row)) in
    let row = sym (get_or-map (λ (row : List (List ℤ)). length row) streams c.link.to [] 0 within) ∙ ap (λ ns. get_or ns c.link.to 0) same in
    (within, omega (arith, h.1, row))

-- what holds of all links holds of the next one
pub placed : (feeds : List Feed) (i : ℕ) (x : Feed) (counts : List ℕ) → i < length feeds → x ≡ get_or feeds i x → All (LeadsAmong counts) (map carried feeds) → LeadsAmong counts (carried x)
placed feeds i x counts within is all =
    let there : i < length (map carried feeds) = omega (arith, length-map feeds carried) in
    subst (LeadsAmong counts) (get_or-map carried feeds i x (carried x) within ∙ ap carried (sym is)) (All-get_or (LeadsAmong counts) (map carried feeds) i (carried x) there all)
