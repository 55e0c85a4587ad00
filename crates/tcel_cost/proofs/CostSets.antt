-- The cost of walks: the greatest counts at which they end, have their first event and their last, and end without an event.
use Rattle.std.proofs.Common.{◌≡◌, ℕ, ◌+◌, ◌≤◌, ◌⊎◌, max, List, [], ◌∷◌, ◌++◌, append-nil, refl, sym, ap, ◌∙◌, subst, arith, Option, Some, None, inl, inr}
use Rattle.std.proofs.lemmas.Bool.{cases_lt}
use Rattle.tcel_cost.specs.declared.numbers.Cost.{Cost}
use Rattle.tcel_cost.specs.CostSteps.{either, greater}
use Rattle.tcel_cost.specs.Walks.{Counts, EndsAt, FirstAt, IsFirst, IsFirstCount, IsGreatestIfAny, IsLast, IsLastCount, IsQuietCount, IsTotal, LastAt, Shows, Then}

-- ---- greatest numbers

-- the same numbers
pub same_greatest : (P Q : ℕ → Type 0) → ((n : ℕ) → P n → Q n) → ((n : ℕ) → Q n → P n) → (o : Option ℕ) → IsGreatestIfAny P o → IsGreatestIfAny Q o
same_greatest P Q to from None h = λ n q. h n (from n q)
same_greatest P Q to from (Some n) h = record { there = to n h.there; greatest = λ m q. h.greatest m (from m q) }

-- the numbers of two sets
pub greatest_of_two : (P Q : ℕ → Type 0) (a b : Option ℕ) → IsGreatestIfAny P a → IsGreatestIfAny Q b → IsGreatestIfAny (λ n. P n ⊎ Q n) (greater a b)
greatest_of_two P Q None None h g = λ n pq. elim pq as (λ _. ⊥) [ inl p ↦ h n p | inr q ↦ g n q ]
greatest_of_two P Q None (Some b) h g = record {
  there = inr g.there;
  greatest = λ m pq. elim pq as (λ _. m ≤ b) [ inl p ↦ absurd (h m p) | inr q ↦ g.greatest m q ];
}
greatest_of_two P Q (Some a) None h g = record {
  there = inl h.there;
  greatest = λ m pq. elim pq as (λ _. m ≤ a) [ inl p ↦ h.greatest m p | inr q ↦ absurd (g m q) ];
}
greatest_of_two P Q (Some a) (Some b) h g = record {
  there =
      elim (cases_lt a b) as (λ _. P (max a b) ⊎ Q (max a b)) [
        | inl less ↦ (let e : b ≡ max a b = omega arith in inr (subst Q e g.there))
        | inr more ↦ (let e : a ≡ max a b = omega arith in inl (subst P e h.there))
      ];
  greatest = λ m pq. elim pq as (λ _. m ≤ max a b) [ inl p ↦ (let l = h.greatest m p in omega arith) | inr q ↦ (let l = g.greatest m q in omega arith) ];
}

-- a function of what may be absent
abbrev moved_by : (ℕ → ℕ) → Option ℕ → Option ℕ
moved_by g None = None
moved_by g (Some n) = Some (g n)

-- the numbers moved by a function that doesn't fall
greatest_moved : (P : ℕ → Type 0) (g : ℕ → ℕ) → ((n m : ℕ) → n ≤ m → g n ≤ g m) → (o : Option ℕ) → IsGreatestIfAny P o →
    IsGreatestIfAny (λ m. (n : ℕ) × P n × (m ≡ g n)) (moved_by g o)
greatest_moved P g rises None h = λ m at. h at.0 at.1
greatest_moved P g rises (Some n) h = record {
  there = (n, h.there, refl);
  greatest = λ m at. subst (λ k. k ≤ g n) (sym at.2) (rises at.0 n (h.greatest at.0 at.1));
}

-- ---- costs

pub record IsCostOf (walks : Counts) (entry : ℕ) (c : Cost) : Type 0 where
  pub total : IsTotal walks entry c.total
  pub first : IsFirstCount walks entry c.first
  pub last : IsLastCount walks entry c.last
  pub quiet : IsQuietCount walks entry c.quiet

-- a walk with such events
abbrev With : Counts → ℕ → (List ℕ → Type 0) → Type 0
With walks entry K = (end : ℕ) × (events : List ℕ) × walks entry end events × K events

-- the same walks
pub same_walks : (a b : Counts) (entry : ℕ) (c : Cost) → ((end : ℕ) (events : List ℕ) → a entry end events → b entry end events) →
    ((end : ℕ) (events : List ℕ) → b entry end events → a entry end events) → IsCostOf a entry c → IsCostOf b entry c
same_walks a b entry c to from h = record {
  total = same_greatest (EndsAt a entry) (EndsAt b entry) (λ n w. (w.0, to n w.0 w.1)) (λ n w. (w.0, from n w.0 w.1)) (Some c.total) h.total;
  first =
      same_greatest (FirstAt a entry) (FirstAt b entry) (λ n w. (w.0, w.1, to w.0 w.1 w.2, w.3)) (λ n w. (w.0, w.1, from w.0 w.1 w.2, w.3)) c.first h.first;
  last = same_greatest (LastAt a entry) (LastAt b entry) (λ n w. (w.0, w.1, to w.0 w.1 w.2, w.3)) (λ n w. (w.0, w.1, from w.0 w.1 w.2, w.3)) c.last h.last;
  quiet = same_greatest (λ n. a entry n []) (λ n. b entry n []) (λ n w. to n [] w) (λ n w. from n [] w) c.quiet h.quiet;
}

-- the walks of two sets
pub either_cost : (a b both : Counts) (entry : ℕ) (c d : Cost) →
    ((end : ℕ) (events : List ℕ) → a entry end events ⊎ b entry end events → both entry end events) →
    ((end : ℕ) (events : List ℕ) → both entry end events → a entry end events ⊎ b entry end events) →
    IsCostOf a entry c → IsCostOf b entry d → IsCostOf both entry (either c d)
either_cost a b both entry c d to from h g = record {
  total =
      same_greatest (λ n. EndsAt a entry n ⊎ EndsAt b entry n) (EndsAt both entry)
      (λ n w. elim w as (λ _. EndsAt both entry n) [ inl one ↦ (one.0, to n one.0 (inl one.1)) | inr two ↦ (two.0, to n two.0 (inr two.1)) ])
      (λ n w. elim (from n w.0 w.1) as (λ _. EndsAt a entry n ⊎ EndsAt b entry n) [ inl one ↦ inl (w.0, one) | inr two ↦ inr (w.0, two) ])
      (Some (max c.total d.total))
      (greatest_of_two (EndsAt a entry) (EndsAt b entry) (Some c.total) (Some d.total) h.total g.total);
  first =
      same_greatest (λ n. FirstAt a entry n ⊎ FirstAt b entry n) (FirstAt both entry) (λ n. unite (λ l. IsFirst l n)) (λ n. split (λ l. IsFirst l n)) (greater c.first d.first)
      (greatest_of_two (FirstAt a entry) (FirstAt b entry) c.first d.first h.first g.first);
  last =
      same_greatest (λ n. LastAt a entry n ⊎ LastAt b entry n) (LastAt both entry) (λ n. unite (λ l. IsLast l n)) (λ n. split (λ l. IsLast l n)) (greater c.last d.last)
      (greatest_of_two (LastAt a entry) (LastAt b entry) c.last d.last h.last g.last);
  quiet =
      same_greatest (λ n. a entry n [] ⊎ b entry n []) (λ n. both entry n []) (λ n. to n []) (λ n. from n []) (greater c.quiet d.quiet)
      (greatest_of_two (λ n. a entry n []) (λ n. b entry n []) c.quiet d.quiet h.quiet g.quiet);
}
  where
    unite : (K : List ℕ → Type 0) → With a entry K ⊎ With b entry K → With both entry K
    unite K w =
        elim w as (λ _. With both entry K) [
          | inl one ↦ (one.0, one.1, to one.0 one.1 (inl one.2), one.3)
          | inr two ↦ (two.0, two.1, to two.0 two.1 (inr two.2), two.3)
        ]

    split : (K : List ℕ → Type 0) → With both entry K → With a entry K ⊎ With b entry K
    split K w =
        elim (from w.0 w.1 w.2) as (λ _. With a entry K ⊎ With b entry K) [
          | inl one ↦ inl (w.0, w.1, one, w.3)
          | inr two ↦ inr (w.0, w.1, two, w.3)
        ]

-- ---- behind other walks: a move without an event

-- the count moves by a function
abbrev pub Moves : (ℕ → ℕ) → Counts
Moves g entry end events = (end ≡ g entry) × (events ≡ [])

-- a cost with each count moved, but for the events
abbrev pub moved : (ℕ → ℕ) → Cost → Cost
moved g c = record { total = g c.total; first = c.first; last = c.last; quiet = moved_by g c.quiet }

module _ (before : Counts) (entry : ℕ) (g : ℕ → ℕ) where
  abbrev Behind : Counts
  Behind = Then before (Moves g)

  no_more : (end : ℕ) (events : List ℕ) (w : Behind entry end events) → events ≡ w.before
  no_more end events w = w.joined ∙ ap (λ l. w.before ++ l) w.two.1 ∙ append-nil w.before

  on : (end : ℕ) (events : List ℕ) → before entry end events → Behind entry (g end) events
  on end events w = record { middle = end; before = events; after = []; one = w; two = (refl, refl); joined = sym (append-nil events) }

  ends_back : (m : ℕ) → EndsAt Behind entry m → (n : ℕ) × EndsAt before entry n × (m ≡ g n)
  ends_back m h = (h.1.middle, (h.1.before, h.1.one), h.1.two.0)

  ends_on : (m : ℕ) → (n : ℕ) × EndsAt before entry n × (m ≡ g n) → EndsAt Behind entry m
  ends_on m h = subst (EndsAt Behind entry) (sym h.2) (h.1.0, on h.0 h.1.0 h.1.1)

  with_back : (K : List ℕ → Type 0) → With Behind entry K → With before entry K
  with_back K h = (h.2.middle, h.2.before, h.2.one, subst K (no_more h.0 h.1 h.2) h.3)

  with_on : (K : List ℕ → Type 0) → With before entry K → With Behind entry K
  with_on K h = (g h.0, h.1, on h.0 h.1 h.2, h.3)

  quiet_back : (m : ℕ) → Behind entry m [] → (n : ℕ) × before entry n [] × (m ≡ g n)
  quiet_back m h = (h.middle, subst (λ l. before entry h.middle l) (sym (no_more m [] h)) h.one, h.two.0)

  quiet_on : (m : ℕ) → (n : ℕ) × before entry n [] × (m ≡ g n) → Behind entry m []
  quiet_on m h = subst (λ k. Behind entry k []) (sym h.2) (on h.0 [] h.1)

  pub moved_cost : ((n m : ℕ) → n ≤ m → g n ≤ g m) → (c : Cost) → IsCostOf before entry c → IsCostOf Behind entry (moved g c)
  moved_cost rises c h = record {
    total =
        same_greatest (λ m. (n : ℕ) × EndsAt before entry n × (m ≡ g n)) (EndsAt Behind entry) ends_on ends_back (Some (g c.total))
        (greatest_moved (EndsAt before entry) g rises (Some c.total) h.total);
    first = same_greatest (FirstAt before entry) (FirstAt Behind entry) (λ n. with_on (λ l. IsFirst l n)) (λ n. with_back (λ l. IsFirst l n)) c.first h.first;
    last = same_greatest (LastAt before entry) (LastAt Behind entry) (λ n. with_on (λ l. IsLast l n)) (λ n. with_back (λ l. IsLast l n)) c.last h.last;
    quiet =
        same_greatest (λ m. (n : ℕ) × before entry n [] × (m ≡ g n)) (λ m. Behind entry m []) quiet_on quiet_back (moved_by g c.quiet)
        (greatest_moved (λ n. before entry n []) g rises c.quiet h.quiet);
  }

-- ---- behind other walks: an event

-- the first of two lists behind one another
first_of_both : (a b : List ℕ) (n : ℕ) → IsFirst (a ++ b) n → IsFirst a n ⊎ ((a ≡ []) × IsFirst b n)
first_of_both [] b n h = inr (refl, h)
first_of_both (x ∷ a) b n h = let e = h.1 in inl (a, cc)

first_on : (a b : List ℕ) (n : ℕ) → IsFirst a n → IsFirst (a ++ b) n
first_on a b n h = (h.0 ++ b, ap (λ l. l ++ b) h.1)

-- the last number of a list that ends with it
last_is : (others a : List ℕ) (n m : ℕ) → others ++ n ∷ [] ≡ a ++ m ∷ [] → n ≡ m
last_is [] [] n m e = cc
last_is [] (x ∷ []) n m e = absurd cc
last_is [] (x ∷ (y ∷ a)) n m e = absurd cc
last_is (x ∷ []) [] n m e = absurd cc
last_is (x ∷ (y ∷ others)) [] n m e = absurd cc
last_is (x ∷ others) (y ∷ a) n m e = last_is others a n m cc

pub not_empty : (a : List ℕ) (n : ℕ) → [] ≡ a ++ n ∷ [] → ⊥
not_empty [] n e = absurd cc
not_empty (x ∷ a) n e = absurd cc

module _ (before : Counts) (entry cycles : ℕ) where
  abbrev Ahead : Counts
  Ahead = Then before (Shows cycles)

  abbrev later : ℕ → ℕ
  later n = n + cycles

  joined_by : (end : ℕ) (events : List ℕ) (w : Ahead entry end events) → events ≡ w.before ++ end ∷ []
  joined_by end events w = w.joined ∙ ap (λ l. w.before ++ l) w.two.1

  shows_on : (end : ℕ) (events : List ℕ) → before entry end events → Ahead entry (end + cycles) (events ++ (end + cycles) ∷ [])
  shows_on end events w = record { middle = end; before = events; after = (end + cycles) ∷ []; one = w; two = (refl, refl); joined = refl }

  ends_shown : (m : ℕ) → (n : ℕ) × EndsAt before entry n × (m ≡ later n) → EndsAt Ahead entry m
  ends_shown m h = subst (EndsAt Ahead entry) (sym h.2) (h.1.0 ++ (h.0 + cycles) ∷ [], shows_on h.0 h.1.0 h.1.1)

  shown_ends : (m : ℕ) → EndsAt Ahead entry m → (n : ℕ) × EndsAt before entry n × (m ≡ later n)
  shown_ends m h = (h.1.middle, (h.1.before, h.1.one), h.1.two.0)

  -- the first event is one of those before, or this one
  abbrev Firsts : ℕ → Type 0
  Firsts n = FirstAt before entry n ⊎ ((q : ℕ) × before entry q [] × (n ≡ later q))

  firsts_shown : (n : ℕ) → Firsts n → FirstAt Ahead entry n
  firsts_shown n h =
      elim h as (λ _. FirstAt Ahead entry n) [
        | inl w ↦ (w.0 + cycles, w.1 ++ (w.0 + cycles) ∷ [], shows_on w.0 w.1 w.2, first_on w.1 ((w.0 + cycles) ∷ []) n w.3)
        | inr q ↦ (q.0 + cycles, (q.0 + cycles) ∷ [], shows_on q.0 [] q.1, ([], ap (λ m. m ∷ []) (sym q.2)))
      ]

  shown_firsts : (n : ℕ) → FirstAt Ahead entry n → Firsts n
  shown_firsts n h =
      let w = h.2 in
      elim (first_of_both w.before (h.0 ∷ []) n (subst (λ l. IsFirst l n) (joined_by h.0 h.1 w) h.3)) as (λ _. Firsts n) [
        | inl there ↦ inl (w.middle, w.before, w.one, there)
        | inr none ↦
            (let first : n ≡ h.0 = (let e = none.1.1 in cc) in inr (w.middle, subst (λ l. before entry w.middle l) none.0 w.one, first ∙ w.two.0))
      ]

  lasts_shown : (m : ℕ) → (n : ℕ) × EndsAt before entry n × (m ≡ later n) → LastAt Ahead entry m
  lasts_shown m h = (h.0 + cycles, h.1.0 ++ (h.0 + cycles) ∷ [], shows_on h.0 h.1.0 h.1.1, (h.1.0, ap (λ k. h.1.0 ++ k ∷ []) (sym h.2)))

  shown_lasts : (m : ℕ) → LastAt Ahead entry m → (n : ℕ) × EndsAt before entry n × (m ≡ later n)
  shown_lasts m h =
      let w = h.2 in
      let same = last_is h.3.0 w.before m h.0 (sym h.3.1 ∙ joined_by h.0 h.1 w) in
      (w.middle, (w.before, w.one), same ∙ w.two.0)

  pub shown_cost : (c : Cost) → IsCostOf before entry c →
      IsCostOf Ahead entry (record { total = later c.total; first = greater c.first (moved_by later c.quiet); last = Some (later c.total); quiet = None })
  shown_cost c h = record {
    total =
        same_greatest (λ m. (n : ℕ) × EndsAt before entry n × (m ≡ later n)) (EndsAt Ahead entry) ends_shown shown_ends (Some (later c.total))
        (greatest_moved (EndsAt before entry) later (λ n m l. omega arith) (Some c.total) h.total);
    first =
        same_greatest Firsts (FirstAt Ahead entry) firsts_shown shown_firsts (greater c.first (moved_by later c.quiet))
        (greatest_of_two (FirstAt before entry) (λ m. (q : ℕ) × before entry q [] × (m ≡ later q)) c.first (moved_by later c.quiet) h.first
        (greatest_moved (λ q. before entry q []) later (λ n m l. omega arith) c.quiet h.quiet));
    last =
        same_greatest (λ m. (n : ℕ) × EndsAt before entry n × (m ≡ later n)) (LastAt Ahead entry) lasts_shown shown_lasts (Some (later c.total))
        (greatest_moved (EndsAt before entry) later (λ n m l. omega arith) (Some c.total) h.total);
    quiet = λ n w. not_empty w.before n (joined_by n [] w);
  }
