-- Streams of which some are replaced by others, link by link.
use Rattle.std.proofs.Common.{◌≡◌, ◌≢◌, ℕ, zero, suc, ◌+◌, ◌==◌, ◌<◌, ◌≤◌, true, false, ℤ, List, [], ◌∷◌, length, map, get_or, set, replicate, All, Option, Some, None, refl, sym, ap, ◌∙◌, ⊎_elim, arith}
use Rattle.std.specs.Prelude.{AllPairs, find, option_map, unwrap_or}
use Rattle.std.specs.List.{AllByRecursion}
use Rattle.std.proofs.lemmas.Bool.{and_left, cases_Bool, cond-false, cond-true, eqb-true}
use Rattle.std.proofs.lemmas.List.{length-set}
use Rattle.tcel_link.specs.declared.link.Link.{Link}
use Rattle.tcel_link.specs.Conditions.{LeadApart}
use Rattle.tcel_link.specs.Feeds.{Carried, all_given, all_written, sample_at}
use Rattle.tcel_link.specs.Linked.{all_replaced, replaced}
use Rattle.tcel_link.specs.Links.{feeds}
use Rattle.tcel_link.specs.Runs.{LeadsAmong}
use Rattle.tcel_link.proofs.Leads.{leads, not_leads}
use Rattle.tcel_link.proofs.Steps.{leads_among, shape_kept}
use Rattle.tcel_script.specs.Script.{Streams, with_stream}

-- ---- one stream more

abbrev pub Others : Type 0
Others = ℕ → Option (List ℤ)

replaced_same : (f g : Others) (n : ℕ) (xs : List (List ℤ)) → ((j : ℕ) → n ≤ j → f j ≡ g j) → replaced f n xs ≡ replaced g n xs
replaced_same f g n [] h = refl
replaced_same f g n (x ∷ xs) h =
    ap (λ o. unwrap_or o x ∷ replaced f (n + 1) xs) (h n (omega arith)) ∙ ap (λ ys. unwrap_or (g n) x ∷ ys) (replaced_same f g (n + 1) xs (λ j low. h j (omega arith)))

pub replaced_none : (f : Others) (n : ℕ) (xs : List (List ℤ)) → ((j : ℕ) → f j ≡ None) → replaced f n xs ≡ xs
replaced_none f n [] h = refl
replaced_none f n (x ∷ xs) h = ap (λ o. unwrap_or o x ∷ replaced f (n + 1) xs) (h n) ∙ ap (λ ys. x ∷ ys) (replaced_none f (n + 1) xs h)

-- a stream that is put in its place first, and then replaced by no other
replaced_set : (f g : Others) (n i place : ℕ) (xs : List (List ℤ)) (x : List ℤ) → place ≡ i + n → i < length xs → f place ≡ None → g place ≡ Some x → ((j : ℕ) → j ≢ place → g j ≡ f j) →
    replaced f n (set xs i x) ≡ replaced g n xs
replaced_set f g n i place [] x is h none some others = absurd (omega arith)
replaced_set f g n zero place (y ∷ xs) x is h none some others =
    let here : n ≡ place = omega (arith, is) in
    ap (λ o. unwrap_or o x ∷ replaced f (n + 1) xs) (ap f here ∙ none) ∙ ap (λ ys. x ∷ ys) (replaced_same f g (n + 1) xs (λ j low. sym (others j (λ e. omega (arith, e, here, low)))))
    ∙ sym (ap (λ o. unwrap_or o y ∷ replaced g (n + 1) xs) (ap g here ∙ some))
replaced_set f g n (suc i) place (y ∷ xs) x is h none some others =
    ap (λ o. unwrap_or o y ∷ replaced f (n + 1) (set xs i x)) (sym (others n (λ e. omega (arith, e, is))))
    ∙ ap (λ ys. unwrap_or (g n) y ∷ ys) (replaced_set f g (n + 1) i place xs x (omega (arith, is)) (omega (arith, h)) none some others)

abbrev pub AllOthers : Type 0
AllOthers = ℕ → ℕ → Option (List ℤ)

all_same : (f g : AllOthers) (n : ℕ) (rows : Streams) → ((m j : ℕ) → n ≤ m → f m j ≡ g m j) → all_replaced f n rows ≡ all_replaced g n rows
all_same f g n [] h = refl
all_same f g n (row ∷ rows) h =
    ap (λ r. r ∷ all_replaced f (n + 1) rows) (replaced_same (f n) (g n) 0 row (λ j low. h n j (omega arith)))
    ∙ ap (λ rs. replaced (g n) 0 row ∷ rs) (all_same f g (n + 1) rows (λ m j low. h m j (omega arith)))

pub all_none : (f : AllOthers) (n : ℕ) (rows : Streams) → ((m j : ℕ) → f m j ≡ None) → all_replaced f n rows ≡ rows
all_none f n [] h = refl
all_none f n (row ∷ rows) h = ap (λ r. r ∷ all_replaced f (n + 1) rows) (replaced_none (f n) 0 row (h n)) ∙ ap (λ rs. row ∷ rs) (all_none f (n + 1) rows h)

all_set : (f g : AllOthers) (n i place port : ℕ) (rows : Streams) (x : List ℤ) → place ≡ i + n → i < length rows → port < length (get_or rows i []) → f place port ≡ None → g place port ≡ Some x →
    ((m j : ℕ) → ¬ ((m ≡ place) × (j ≡ port)) → g m j ≡ f m j) → all_replaced f n (with_stream rows i port x) ≡ all_replaced g n rows
all_set f g n i place port [] x is h within none some others = absurd (omega arith)
all_set f g n zero place port (row ∷ rows) x is h within none some others =
    let here : n ≡ place = omega (arith, is) in
    let one = replaced_set (f n) (g n) 0 port port row x (omega arith) within (ap (λ m. f m port) here ∙ none) (ap (λ m. g m port) here ∙ some) (λ j ne. others n j (λ e. ne e.1)) in
    ap (λ r. r ∷ all_replaced f (n + 1) rows) one ∙ ap (λ rs. replaced (g n) 0 row ∷ rs) (all_same f g (n + 1) rows (λ m j low. sym (others m j (λ e. omega (arith, e.0, here, low)))))
all_set f g n (suc i) place port (row ∷ rows) x is h within none some others =
    ap (λ r. r ∷ all_replaced f (n + 1) (with_stream rows i port x)) (replaced_same (f n) (g n) 0 row (λ j low. sym (others n j (λ e. omega (arith, e.0, is)))))
    ∙ ap (λ rs. replaced (g n) 0 row ∷ rs) (all_set f g (n + 1) i place port rows x (omega (arith, is)) (omega (arith, h)) within none some others)

-- ---- links apart

pub apart_head : (link : Link) (links : List Link) → AllPairs LeadApart (link ∷ links) → All (LeadApart link) links
apart_head link links h = λ k d within. h zero (suc k) d (omega arith) (omega (arith, within))

pub apart_rest : (link : Link) (links : List Link) → AllPairs LeadApart (link ∷ links) → AllPairs LeadApart links
apart_rest link links h = λ i j d lt within. h (suc i) (suc j) d (omega (arith, lt)) (omega (arith, within))

-- no link behind a link leads to its input
none_behind : (link : Link) (links : List Link) → All (LeadApart link) links → find (feeds link.to link.input) links ≡ None
none_behind link [] h = refl
none_behind link (l ∷ links) h =
    let no : feeds link.to link.input l ≡ false = not_leads link.to link.input l (λ e. h zero l (omega arith) (sym e.0, sym e.1)) in
    cond-false (feeds link.to link.input l) (Some l) (find (feeds link.to link.input) links) no ∙ none_behind link links (λ k d within. h (suc k) d (omega (arith, within)))

found_first : (number input : ℕ) (link : Link) (links : List Link) → link.to ≡ number → link.input ≡ input → find (feeds number input) (link ∷ links) ≡ Some link
found_first number input link links to is = cond-true (feeds number input link) (Some link) (find (feeds number input) links) (leads number input link to is)

found_behind : (number input : ℕ) (link : Link) (links : List Link) → ¬ ((link.to ≡ number) × (link.input ≡ input)) → find (feeds number input) (link ∷ links) ≡ find (feeds number input) links
found_behind number input link links ne = cond-false (feeds number input link) (Some link) (find (feeds number input) links) (not_leads number input link ne)

-- ---- what a frame is given

abbrev pub links_of : List Carried → List Link
links_of cs = map (λ (c : Carried). c.link) cs

-- the input to which a link leads is there, and what is given to it is this
pub record Gives (number time many : ℕ) (values : ℕ → Link → List ℤ) (c : Carried) : Type 0 where
  pub within : c.link.to ≡ number → c.link.input < many
  pub gives : c.link.to ≡ number → replicate c.copies (sample_at time c.sample c.pending) ≡ values c.link.input c.link

pub given_is : (number time many : ℕ) (values : ℕ → Link → List ℤ) (cs : List Carried) (inputs : List (List ℤ)) → length inputs ≡ many → AllPairs LeadApart (links_of cs) → AllByRecursion (Gives number time many values) cs →
    all_given number time cs inputs ≡ replaced (λ i. option_map (values i) (find (feeds number i) (links_of cs))) 0 inputs
given_is number time many values [] inputs long apart h = sym (replaced_none (λ i. None) 0 inputs (λ j. refl))
given_is number time many values (c ∷ cs) inputs long apart h =
    let rest : Rest = λ new same. given_is number time many values cs new same (apart_rest c.link (links_of cs) apart) h.1 in
    ⊎_elim (λ (e : (c.link.to == number) ≡ true). to_it rest (eqb-true c.link.to number e) e) (λ (e : (c.link.to == number) ≡ false). elsewhere rest e) (cases_Bool (c.link.to == number))
  where
    Rest : Type 0
    Rest = (new : List (List ℤ)) → length new ≡ many → all_given number time cs new ≡ replaced (λ i. option_map (values i) (find (feeds number i) (links_of cs))) 0 new

    f : Others
    f i = option_map (values i) (find (feeds number i) (links_of cs))

    g : Others
    g i = option_map (values i) (find (feeds number i) (c.link ∷ links_of cs))

    copies : List ℤ
    copies = replicate c.copies (sample_at time c.sample c.pending)

    to_it : Rest → c.link.to ≡ number → (c.link.to == number) ≡ true → all_given number time (c ∷ cs) inputs ≡ replaced g 0 inputs
    to_it rest to e =
        let i = c.link.input in
        let put = cond-true (c.link.to == number) (set inputs i copies) inputs e in
        let none : f i ≡ None = ap (λ n. option_map (values i) (find (feeds n i) (links_of cs))) (sym to) ∙ ap (option_map (values i)) (none_behind c.link (links_of cs) (apart_head c.link (links_of cs) apart)) in
        let some : g i ≡ Some copies = ap (option_map (values i)) (found_first number i c.link (links_of cs) to refl) ∙ ap (λ (v : List ℤ). let o : Option (List ℤ) = Some v in o) (sym (h.0.gives to)) in
        ap (all_given number time cs) put ∙ rest (set inputs i copies) (length-set inputs i copies ∙ long)
        ∙ replaced_set f g 0 i i inputs copies (omega arith) (omega (arith, h.0.within to, long)) none some
        (λ j ne. ap (option_map (values j)) (found_behind number j c.link (links_of cs) (λ same. ne (sym same.1))))

    elsewhere : Rest → (c.link.to == number) ≡ false → all_given number time (c ∷ cs) inputs ≡ replaced g 0 inputs
    elsewhere rest e =
        let kept = cond-false (c.link.to == number) (set inputs c.link.input copies) inputs e in
        ap (all_given number time cs) kept ∙ rest inputs long
        ∙ replaced_same f g 0 inputs (λ j low. sym (ap (option_map (values j)) (cond-false (feeds number j c.link) (Some c.link) (find (feeds number j) (links_of cs)) (and_left (c.link.to == number) (c.link.input == j) e))))

-- ---- what a script is given

-- the input to which a link leads has a stream, and what the link received is this
pub record Writes (counts : List ℕ) (values : ℕ → ℕ → List ℤ) (c : Carried) : Type 0 where
  pub among : LeadsAmong counts c
  pub writes : c.received ≡ values c.link.to c.link.input

pub written_is : (counts : List ℕ) (values : ℕ → ℕ → List ℤ) (cs : List Carried) (streams : Streams) → map (λ (row : List (List ℤ)). length row) streams ≡ counts → AllPairs LeadApart (links_of cs) → AllByRecursion (Writes counts values) cs →
    all_written cs streams ≡ all_replaced (λ n i. option_map (λ (l : Link). values n i) (find (feeds n i) (links_of cs))) 0 streams
written_is counts values [] streams shape apart h = sym (all_none (λ n i. None) 0 streams (λ m j. refl))
written_is counts values (c ∷ cs) streams shape apart h =
    let f : AllOthers = λ n i. option_map (λ (l : Link). values n i) (find (feeds n i) (links_of cs)) in
    let g : AllOthers = λ n i. option_map (λ (l : Link). values n i) (find (feeds n i) (c.link ∷ links_of cs)) in
    let to = c.link.to in
    let i = c.link.input in
    let there = leads_among streams counts c shape h.0.among in
    let none : f to i ≡ None = ap (option_map (λ (l : Link). values to i)) (none_behind c.link (links_of cs) (apart_head c.link (links_of cs) apart)) in
    let some : g to i ≡ Some c.received = ap (option_map (λ (l : Link). values to i)) (found_first to i c.link (links_of cs) refl refl) ∙ ap (λ (v : List ℤ). let o : Option (List ℤ) = Some v in o) (sym h.0.writes) in
    written_is counts values cs (with_stream streams to i c.received) (shape_kept streams to i c.received ∙ shape) (apart_rest c.link (links_of cs) apart) h.1
    ∙ all_set f g 0 to to i streams c.received (omega arith) there.0 there.1 none some (λ m j ne. ap (option_map (λ (l : Link). values m j)) (found_behind m j c.link (links_of cs) (λ same. ne (sym same.0, sym same.1))))
