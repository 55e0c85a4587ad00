-- A task that is as far as its progress says keeps its promises.
use Rattle.std.proofs.Common.{◌≡◌, ℕ, zero, suc, ◌+◌, ◌-◌, ◌*◌, ◌<◌, ◌≤◌, ℤ, List, [], ◌∷◌, ◌++◌, length, map, refl, sym, ap, ◌∙◌, subst, arith, append_assoc, length-append, Option, None, Some, inl, inr}
use Rattle.std.specs.Prelude.{IfSome, slice_get}
use Rattle.std.specs.List.{AllZip}
use Rattle.std.proofs.Math.Nat.{mul-le-mul_right}
use Rattle.std.proofs.lemmas.Bool.{cases_lt}
use Rattle.std.proofs.lemmas.List.{length-map, map-append}
use Rattle.std.proofs.lemmas.Option.{same_Some, slice_get_within}
use Rattle.tcel_num.specs.Entry.{Entry}
use Rattle.tcel_core.specs.Meets.{Keeps, IsInTime, told, promised}
use Rattle.tcel_core.specs.Promises.{Behavior, Promise, frame_promises, promises, first_promises}
use Rattle.tcel_core.proofs.PromiseLaws.{promises-add, first_promises-prefix}
use Rattle.tcel_target.specs.declared.costs.Costs.{Costs}
use Rattle.tcel_image.specs.declared.image.ImageTask.{ImageTask}
use Rattle.tcel_image.specs.Machine.{Running}
use Rattle.tcel_num.specs.Plan.{Plan, Point, PointName, before, within}
use Rattle.tcel_num.specs.Schedule.{served}
use Rattle.tcel_core.specs.Outcome.{EnclosingBlock, Occurrence}
use Rattle.tcel_core.specs.Windows.{start_bound}
use Rattle.tcel_code.specs.Domination.{AreBoundBy, HasPointBy, IsAbreast}
use Rattle.tcel_code.proofs.Ahead.{Due}
use Rattle.tcel_code.proofs.Progress.{Frames, promise_of, Progress, still_due, not_ended}

-- an element of a mapped list comes from one of the list
pub map_got : {A B : Type 0} (f : A → B) (xs : List A) (k : ℕ) (y : B) → slice_get (map f xs) k ≡ Some y → (x : A) × (slice_get xs k ≡ Some x) × (f x ≡ y)
map_got f [] k y e = absurd cc
map_got f (x ∷ xs) zero y e = (x, refl, same_Some (f x) y e)
map_got f (x ∷ xs) (suc k) y e = map_got f xs k y e

module _ (Timed : Type 0) (costs : Costs) (task : ImageTask) (inputs : List (List ℤ)) (b : Behavior) (total : ℕ) (service : ℕ → ℕ) (frames : Frames Timed costs task inputs b total service)
    (now count ran : ℕ) (r : Running) (past : List Entry) (p : Progress Timed costs task inputs b total service frames now count ran r past) where
  -- what is promised up to here
  abbrev so_far : List Promise
  so_far = promises b p.frame ++ map promise_of p.done

  many : length past ≡ length so_far
  many = sym (length-map past told) ∙ ap length p.told_so_far ∙ length-map so_far promised

  made_many : length past ≡ length (promises b p.frame) + length p.done
  made_many = many ∙ length-append (promises b p.frame) (map promise_of p.done) ∙ ap (λ n. length (promises b p.frame) + n) (length-map p.done promise_of)

  -- later frames' entries come behind
  earlier_frames : (f : ℕ) → f ≤ p.frame → length (promises b f) ≤ length (promises b p.frame)
  earlier_frames f h =
      let more : ℕ = p.frame - f in
      let e : f + more ≡ p.frame = omega arith in
      let later = promises-add b f more in
      let long = ap length later.1 ∙ length-append (promises b f) later.0 in
      let same = ap (λ n. length (promises b n)) e in
      omega arith

  -- so many cycles of whole frames are at most those of its ended frames
  frames_ended : (f cycles : ℕ) → f * total + cycles ≤ p.frame * total + ran → f ≤ p.frame
  frames_ended f cycles h =
      elim (cases_lt p.frame f) [
        | inl less ↦
            let more : suc p.frame * total ≤ f * total = mul-le-mul_right total less in
            let short = not_ended Timed costs task inputs b total service frames now count ran r past p in
            absurd (omega arith)
        | inr most ↦ most
      ]

  -- an entry is made once its frame has run as many ticks as it is due by
  made_by : (f k : ℕ) (due : Due) → slice_get (frames.dues f) k ≡ Some due → f * total + due.by ≤ p.frame * total + ran → length (promises b f) + k < length past
  made_by f k due e h =
      elim (cases_lt f p.frame) [
        | inl less ↦
            let within = slice_get_within (frames.dues f) k due e in
            let long = length-append (promises b f) (frame_promises b f) in
            let frame_long = sym (length-map (frames.dues f) promise_of) ∙ ap length (frames.made f) in
            let before = earlier_frames (suc f) less in
            omega (arith, made_many)
        | inr most ↦
            let same : f ≡ p.frame = omega (arith, frames_ended f due.by h) in
            elim (cases_lt k (length p.done)) [
              | inl made ↦ let long = ap (λ n. length (promises b n)) same in omega (arith, made_many)
              | inr missing ↦
                  let j : ℕ = k - length p.done in
                  let at : length p.done + j ≡ k = omega arith in
                  let there = ap (λ n. slice_get (frames.dues n) (length p.done + j)) (sym same) ∙ ap (slice_get (frames.dues f)) at ∙ e in
                  let late = still_due Timed costs task inputs b total service frames now count ran r past p j due there in
                  let whole = ap (λ n. n * total) same in
                  absurd (omega arith)
            ]
      ]

  prefix : first_promises b (length past) ≡ so_far
  prefix =
      let e : promises b (suc p.frame) ≡ so_far ++ map promise_of p.left =
      ap (λ l. promises b p.frame ++ l) (sym (frames.made p.frame) ∙ ap (map promise_of) p.split ∙ map-append promise_of p.done p.left)
      ∙ sym (append_assoc (promises b p.frame) (map promise_of p.done) (map promise_of p.left)) in
      ap (first_promises b) many ∙ first_promises-prefix b (suc p.frame) so_far (map promise_of p.left) e

  module _ (rises : (early late : ℕ) → early ≤ late → service early ≤ service late) (is : count ≡ service now) where
    complete : Timed → (f k : ℕ) (promise : Promise) (latest : ℕ) → slice_get (frame_promises b f) k ≡ Some promise → promise.latest ≡ Some latest → latest ≤ now →
        length (promises b f) + k < length past
    complete timed f k promise latest e closes over =
        let got = map_got promise_of (frames.dues f) k promise (ap (λ l. slice_get l k) (frames.made f) ∙ e) in
        let due = frames.each f k got.0 got.1 in
        let reached = due.reached timed latest (ap (λ (q : Promise). q.latest) got.2 ∙ closes) in
        let more = rises latest now over in
        let most = p.dominates in
        made_by f k got.0 got.1 (omega arith)

    -- it keeps its promises
    pub keeps : Timed → Keeps b now past
    keeps timed = record {
      follows = p.told_so_far ∙ ap (map promised) (sym prefix);
      in_time = subst (AllZip IsInTime past) (sym prefix) (p.in_time timed);
      complete = complete timed;
    }

    -- a frame that the demand schedule has served whole has ended
    pub ended : (f : ℕ) → (f + 1) * total ≤ service now → length (promises b (f + 1)) ≤ length past
    ended f h =
        let most = p.dominates in
        let whole = frames_ended (f + 1) 0 (omega arith) in
        omega (arith, earlier_frames (f + 1) whole, made_many)

  -- each bound of the blocks around an event that is due by a count has a point by which the event is made
  made_at : (plan : Plan) (f k : ℕ) (due : Due) → slice_get (frames.dues f) k ≡ Some due → f ≡ r.ended → (around : List EnclosingBlock) → AreBoundBy plan.points (λ prefix. due.by ≤ prefix) around →
      AreBoundBy plan.points (λ prefix. prefix ≤ ran → length (promises b r.ended) + k < length past) around
  made_at plan f k due e at [] bound = tt
  made_at plan f k due e at (x ∷ around) bound = (each_if (within x.number) x.window.within bound.0, each_if (before x.number) (start_bound x) bound.1, made_at plan f k due e at around bound.2)
    where
      each_if : (name : PointName) (o : Option ℕ) → IfSome o (HasPointBy plan.points (λ prefix. due.by ≤ prefix) name) →
          IfSome o (HasPointBy plan.points (λ prefix. prefix ≤ ran → length (promises b r.ended) + k < length past) name)
      each_if name None h = tt
      each_if name (Some bound') h = record {
        number = h.number;
        point = h.point;
        there = h.there;
        named = h.named;
        bounded = h.bounded;
        so =
            λ reached.
            let soon = h.so in
            let same = ap (λ n. n * total) (at ∙ p.at) in
            subst (λ n. length (promises b n) + k < length past) at (made_by f k due e (omega arith));
      }

  -- it is abreast of the demand schedule
  pub abreast : (plans : List Plan) (plan : Plan) (events : ℕ → List Occurrence) (number : ℕ) → count ≡ served plans now number → plan.total ≡ total →
      ((point : Point) → slice_get plan.points 0 ≡ Some point → frames.mark ≤ point.prefix) →
      ((f k : ℕ) (e : Occurrence) → slice_get (events f) k ≡ Some e → (due : Due) × (slice_get (frames.dues f) k ≡ Some due) × AreBoundBy plan.points (λ prefix. due.by ≤ prefix) e.around) →
      IsAbreast plans plan b events now number r ran past
  abreast plans plan events number is same point_of binds = record {
    follows = p.told_so_far ∙ ap (map promised) (sym prefix);
    dominates =
        let most = p.dominates in
        let all = ap (λ f. f * total) p.at in
        let each = ap (λ n. r.ended * n) same in
        omega arith;
    unfinished = let short = not_ended Timed costs task inputs b total service frames now count ran r past p in omega arith;
    ended = let at = ap (λ f. length (promises b f)) p.at in omega (arith, made_many);
    marked =
        λ point is_point reached.
        let own = frames.marks p.frame in
        let by = own.2 in
        let soon = point_of point is_point in
        let done = made_by p.frame (length (b.frames p.frame).events) own.0 own.1 (omega arith) in
        subst (λ f. length (promises b f) + length (b.frames f).events < length past) (sym p.at) done;
    bound = λ k e here. let own = binds r.ended k e here in made_at plan r.ended k own.0 own.1 refl e.around own.2;
  }
