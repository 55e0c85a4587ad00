-- Entries that keep one behavior keep another that does the same in all frames released before the end.
use Rattle.std.proofs.Common.{◌≡◌, ℕ, zero, suc, ◌+◌, ◌-◌, ◌*◌, ◌<◌, ◌≤◌, ℤ, List, [], ◌∷◌, ◌++◌, length, map, take, Some, refl, sym, ap, ◌∙◌, subst, ⊎_elim, arith, length-append}
use Rattle.std.specs.Prelude.{slice_get}
use Rattle.std.specs.List.{AllByRecursion, AllZip}
use Rattle.std.proofs.lemmas.Bool.{cases_lt}
use Rattle.std.proofs.lemmas.List.{length-take, take-append-le}
use Rattle.std.proofs.lemmas.Option.{none-some, same_Some}
use Rattle.std.proofs.Math.Nat.{mul-le-mul_right}
use Rattle.tcel_core.specs.declared.event.Event.{Event}
use Rattle.tcel_core.specs.Frames.{Frame}
use Rattle.tcel_core.specs.Meets.{IsInTime, Keeps, promised, told}
use Rattle.tcel_core.specs.Promises.{Behavior, Promise, end_promise, event_promise, first_promise, first_promises, frame_promises, promises}
use Rattle.tcel_core.proofs.PromiseLaws.{length-frame_promises, promises_enough}
use Rattle.tcel_num.specs.Entry.{Entry, What}

-- ---- lists

module _ {X : Type 0} (P : X → Type 0) where
  pub all_left : (xs ys : List X) → AllByRecursion P (xs ++ ys) → AllByRecursion P xs
  all_left [] ys h = tt
  all_left (x ∷ xs) ys h = (h.0, all_left xs ys h.1)

  pub all_right : (xs ys : List X) → AllByRecursion P (xs ++ ys) → AllByRecursion P ys
  all_right [] ys h = h
  all_right (x ∷ xs) ys h = all_right xs ys h.1

  pub all_both : (xs ys : List X) → AllByRecursion P xs → AllByRecursion P ys → AllByRecursion P (xs ++ ys)
  all_both [] ys h k = k
  all_both (x ∷ xs) ys h k = (h.0, all_both xs ys h.1 k)

  pub all_first : (n : ℕ) (xs : List X) → AllByRecursion P xs → AllByRecursion P (take n xs)
  all_first zero xs h = tt
  all_first (suc n) [] h = tt
  all_first (suc n) (x ∷ xs) h = (h.0, all_first n xs h.1)

  pub all_at : (xs : List X) (i : ℕ) (x : X) → slice_get xs i ≡ Some x → AllByRecursion P xs → P x
  all_at [] i x e h = absurd (none-some x e)
  all_at (y ∷ xs) zero x e h = subst P (same_Some y x e) h.0
  all_at (y ∷ xs) (suc i) x e h = all_at xs i x e h.1

pub take_joined : {X : Type 0} (n : ℕ) (xs ys : List X) → take n (xs ++ ys) ≡ take n xs ++ take (n - length xs) ys
take_joined zero xs ys = let none : 0 ≡ 0 - length xs = omega arith in ap (λ k. take k ys) none
take_joined (suc n) [] ys = let same : suc n ≡ suc n - 0 = omega arith in ap (λ k. take k ys) same
take_joined {X = X} (suc n) (x ∷ xs) ys =
    let less : n - length xs ≡ suc n - length (x ∷ xs) = omega arith in
    ap (λ (l : List X). x ∷ l) (take_joined n xs ys) ∙ ap (λ k. x ∷ (take n xs ++ take k ys)) less

abbrev pub rest_of : {X : Type 0} → List X → List X
rest_of [] = []
rest_of (x ∷ xs) = xs

-- ---- frames that are released before the end

module _ (period deadline : ℕ) where
  -- what a task does in these frames
  abbrev pub doing : (ℕ → Frame) → Behavior
  doing frames = record { period = period; deadline = deadline; frames = frames }

  module _ (ticks : ℕ) where
    abbrev pub AreReleased : List Promise → Type 0
    AreReleased = AllByRecursion (λ (p : Promise). p.frame * period < ticks)

    begins : (f k : ℕ) (events : List Event) (state : List ℤ)
        → AreReleased (take (suc k) (map (event_promise f (f * period)) events ++ (first_promise f (f * period) deadline ∷ end_promise f state ∷ []))) → f * period < ticks
    begins f k [] state h = h.0
    begins f k (e ∷ events) state h = h.0

    begun_by : (f k : ℕ) (F : ℕ → Frame) → 0 < k → AreReleased (take k (frame_promises (doing F) f)) → f * period < ticks
    begun_by f zero F some h = absurd (omega (arith, some))
    begun_by f (suc k) F some h = begins f k (F f).events (F f).state h

    -- where entries stand behind those of the frames before it, a frame is released
    pub frame_released : (n m f : ℕ) (F : ℕ → Frame) → f < m → length (promises (doing F) f) < n → AreReleased (take n (promises (doing F) m)) → f * period < ticks
    frame_released n zero f F lt long h = absurd (omega (arith, lt))
    frame_released n (suc m) f F lt long h =
        let before = promises (doing F) m in
        let last = frame_promises (doing F) m in
        let parts = subst AreReleased (take_joined n before last) h in
        ⊎_elim (λ (less : f < m). frame_released n m f F less long (all_left (λ (p : Promise). p.frame * period < ticks) (take n before) (take (n - length before) last) parts))
        (λ (same : m ≤ f).
        let is : f ≡ m = omega (arith, same, lt) in
        let some : 0 < n - length before = omega (arith, long, ap (λ k. length (promises (doing F) k)) is) in
        subst (λ k. k * period < ticks) (sym is) (begun_by m (n - length before) F some (all_right (λ (p : Promise). p.frame * period < ticks) (take n before) (take (n - length before) last) parts)))
        (cases_lt f m)

    -- entries of a trace that tell these promises, where each is of a released frame
    abbrev pub HaveReleased : List Entry → Type 0
    HaveReleased = AllByRecursion (λ (e : Entry). e.frame * period < ticks)

    pub told_released : (es : List Entry) (ps : List Promise) → map told es ≡ map promised ps → HaveReleased es → AreReleased ps
    told_released [] [] e h = tt
    told_released [] (p ∷ ps) e h = absurd cc
    told_released (x ∷ es) [] e h = absurd cc
    told_released (x ∷ es) (p ∷ ps) e h =
        let one : x.frame ≡ p.frame = ap (λ (l : List (ℕ × What)). head_frame l) e in
        (subst (λ f. f * period < ticks) one h.0, told_released es ps (ap rest_of e) h.1)
      where
        head_frame : List (ℕ × What) → ℕ
        head_frame [] = 0
        head_frame (t ∷ ts) = t.0

    -- ---- two that do the same in released frames

    module _ (F G : ℕ → Frame) (same : (f : ℕ) → f * period < ticks → F f ≡ G f) where
      pub same_frame : (f : ℕ) → f * period < ticks → frame_promises (doing F) f ≡ frame_promises (doing G) f
      same_frame f early =
          ap (λ (x : Frame). map (event_promise f (f * period)) x.events ++ (first_promise f (f * period) deadline ∷ end_promise f x.state ∷ [])) (same f early)

      pub same_promises : (n f : ℕ) → n ≤ suc f → f * period < ticks → promises (doing F) n ≡ promises (doing G) n
      same_promises zero f within early = refl
      same_promises (suc n) f within early =
          let less : n ≤ f = omega (arith, within) in
          let earlier : n * period < ticks = omega (arith, mul-le-mul_right period less, early) in
          ap (λ (ps : List Promise). ps ++ frame_promises (doing F) n) (same_promises n f (omega (arith, within)) early)
          ∙ ap (λ (ps : List Promise). promises (doing G) n ++ ps) (same_frame n earlier)

      same_first : (n m : ℕ) → AreReleased (take n (promises (doing F) m)) → take n (promises (doing F) m) ≡ take n (promises (doing G) m)
      same_first n zero h = refl
      same_first n (suc m) h =
          let before = promises (doing F) m in
          let last = frame_promises (doing F) m in
          let parts = subst AreReleased (take_joined n before last) h in
          ⊎_elim (λ (more : length before < n).
          let some : 0 < n - length before = omega (arith, more) in
          let early = begun_by m (n - length before) F some (all_right (λ (p : Promise). p.frame * period < ticks) (take n before) (take (n - length before) last) parts) in
          ap (take n) (same_promises (suc m) m (omega arith) early))
          (λ (few : n ≤ length before).
          let shorter = same_first n m (all_left (λ (p : Promise). p.frame * period < ticks) (take n before) (take (n - length before) last) parts) in
          let long : n ≤ length (promises (doing G) m) =
          omega (arith, few, ap (λ (ps : List Promise). length ps) shorter, length-take n before, length-take n (promises (doing G) m)) in
          take-append-le n before last few ∙ shorter ∙ sym (take-append-le n (promises (doing G) m) (frame_promises (doing G) m) long)) (cases_lt (length before) n)

      -- what is kept of one is kept of the other, where no window of a frame that isn't released has closed
      pub keeps_same : (es : List Entry) → HaveReleased es → Keeps (doing F) ticks es
          → ((f k : ℕ) (p : Promise) (latest : ℕ) → ticks ≤ f * period → slice_get (frame_promises (doing G) f) k ≡ Some p → p.latest ≡ Some latest → latest ≤ ticks → ⊥)
          → Keeps (doing G) ticks es
      keeps_same es released kept none =
          let n = length es in
          let all = same_first n n (told_released es (first_promises (doing F) n) kept.follows released) in
          record {
            follows = kept.follows ∙ ap (map promised) all;
            in_time = subst (AllZip IsInTime es) all kept.in_time;
            complete = λ f k p latest is closes within.
                ⊎_elim (λ (early : f * period < ticks).
                subst (λ (ps : List Promise). length ps + k < n) (same_promises f f (omega arith) early)
                (kept.complete f k p latest (ap (λ (ps : List Promise). slice_get ps k) (same_frame f early) ∙ is) closes within))
                (λ (late : ticks ≤ f * period). absurd (none f k p latest late is closes within)) (cases_lt (f * period) ticks);
          }

      -- a frame that has ended is the same
      pub ended_same : (es : List Entry) (f : ℕ) → HaveReleased es → Keeps (doing F) ticks es → length (promises (doing F) (suc f)) ≤ length es
          → length (promises (doing G) (suc f)) ≤ length es
      ended_same es f released kept long =
          let n = length es in
          let more = length-append (promises (doing F) f) (frame_promises (doing F) f) in
          let two = length-frame_promises (doing F) f in
          let enough = promises_enough (doing F) (suc f) in
          let early = frame_released n n f F (omega (arith, enough, long)) (omega (arith, more, two, long)) (told_released es (first_promises (doing F) n) kept.follows released) in
          subst (λ (ps : List Promise). length ps ≤ n) (same_promises (suc f) f (omega arith) early) long

  -- ---- windows that have closed

  abbrev IsNotBefore : ℕ → Promise → Type 0
  IsNotBefore release p = (latest : ℕ) → p.latest ≡ Some latest → release ≤ latest

  -- no window of a frame closes before its release
  none_before : (f : ℕ) (events : List Event) (state : List ℤ)
      → AllByRecursion (IsNotBefore (f * period)) (map (event_promise f (f * period)) events ++ (first_promise f (f * period) deadline ∷ end_promise f state ∷ []))
  none_before f [] state =
      (λ latest e. let is = same_Some (f * period + deadline) latest e in omega (arith, is), (λ latest e. absurd (none-some latest e), tt))
  none_before f (e ∷ events) state = (λ latest h. let is = same_Some (f * period + e.latest) latest h in omega (arith, is), none_before f events state)

  -- none of a frame that is released at the end or later has closed: a trace that ends a tick later would show it
  pub none_closed : (ticks : ℕ) (H G : ℕ → Frame) → ((f : ℕ) → f * period < ticks + 1 → H f ≡ G f) → (es : List Entry) → HaveReleased ticks es → Keeps (doing H) ticks es
      → (f k : ℕ) (p : Promise) (latest : ℕ) → ticks ≤ f * period → slice_get (frame_promises (doing G) f) k ≡ Some p → p.latest ≡ Some latest → latest ≤ ticks → ⊥
  none_closed ticks H G same es released kept f k p latest late is closes within =
      let low = all_at (IsNotBefore (f * period)) (frame_promises (doing G) f) k p is (none_before f (G f).events (G f).state) latest closes in
      let early : f * period < ticks + 1 = omega (arith, low, within) in
      let here = kept.complete f k p latest (ap (λ (ps : List Promise). slice_get ps k) (same_frame (ticks + 1) H G same f early) ∙ is) closes within in
      let enough = promises_enough (doing H) f in
      let n = length es in
      let soon = frame_released ticks n n f H (omega (arith, enough, here)) (omega (arith, here)) (told_released ticks es (first_promises (doing H) n) kept.follows released) in
      omega (arith, soon, late)
