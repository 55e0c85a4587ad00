-- What sets of sliced tasks have in common: their size, and the plans of all tasks.
use Rattle.std.proofs.Common.{◌≡◌, ℕ, zero, suc, ◌+◌, ◌-◌, ◌<◌, ◌≤◌, Bool, true, false, List, [], ◌∷◌, ◌++◌, All, length, get_or, drop, if◌then◌else◌, refl, sym, ap, ◌∙◌, subst, arith, lit≤, inl, inr}
use mir.Val.{bool_byte}
use Rattle.std.proofs.lemmas.List.{append-nil, append_assoc, drop_all, drop_more, length-drop}
use Rattle.std.proofs.lemmas.List.Elements.{All-cons, All-head, All-tail}
use Rattle.tcel_num.specs.Hyperperiod.{IsLeastCommonMultiple, periods_of}
use Rattle.tcel_num.specs.Plan.{Plan}
use Rattle.tcel_demand.specs.Sound.{AreWithin, IsSoundPlan}
use Rattle.tcel_driver.specs.Steps.{ArePaired}
use Rattle.tcel_driver.proofs.Joint.{periods_long, same_frames}
use Rattle.tcel_fewest.specs.Sets.{Precedes, has, plans_of, size_of}

-- two sets aren't in order, where neither their sizes are nor their numbers
pub decided : (tasks a b p q : ℕ) → size_of tasks a ≡ p → size_of tasks b ≡ q → (p < q → ⊥) → (p ≡ q → a < b → ⊥) → Precedes tasks a b → ⊥
decided tasks a b p q e f smaller same (inl less) = let less = less in smaller (omega arith)
decided tasks a b p q e f smaller same (inr h) = let at = h.0 in same (omega arith) h.1

at_most_one : (b : Bool) → (if b then 1 else 0) ≤ 1
at_most_one true = lit≤ tt
at_most_one false = lit≤ tt

-- no set of so many tasks has more
pub size_most : (tasks set : ℕ) → size_of tasks set ≤ tasks
unfolding size_of
size_most zero set = lit≤ tt
size_most (suc below) set = let most = size_most below set in let one = at_most_one (has set below) in omega arith

-- ---- plans

one_period : (b : Bool) (plan other : Plan) → other.period ≡ plan.period → (if b then other else plan).period ≡ plan.period
one_period true plan other e = e
one_period false plan other e = refl

-- releases are as in both forms
pub plans_periods : (set : ℕ) (whole sliced : List Plan) → periods_of sliced ≡ periods_of whole → periods_of (plans_of set whole sliced) ≡ periods_of whole
unfolding plans_of
plans_periods set [] sliced e = refl
plans_periods set (plan ∷ whole) [] e = e
plans_periods set (plan ∷ whole) (other ∷ sliced) e =
    let front : other.period ≡ plan.period = cc in
    let rest : periods_of sliced ≡ periods_of whole = cc in
    λ i. one_period (has set (length whole)) plan other front i ∷ plans_periods set whole sliced rest i

one_sound : (P : Plan → Type 0) (b : Bool) (plan other : Plan) → P plan → P other → P (if b then other else plan)
one_sound P true plan other h g = g
one_sound P false plan other h g = h

pub plans_sound : (P : Plan → Type 0) (set : ℕ) (whole sliced : List Plan) → All P whole → All P sliced → All P (plans_of set whole sliced)
unfolding plans_of
plans_sound P set [] sliced h g = h
plans_sound P set (plan ∷ whole) [] h g = g
plans_sound P set (plan ∷ whole) (other ∷ sliced) h g =
    All-cons P (if has set (length whole) then other else plan) (plans_of set whole sliced)
    (one_sound P (has set (length whole)) plan other (All-head P plan whole h) (All-head P other sliced g)) (plans_sound P set whole sliced (All-tail P plan whole h) (All-tail P other sliced g))

-- so they are within the limits
pub plans_within : (set : ℕ) (whole sliced : List Plan) (hyper : ℕ) → ArePaired whole sliced hyper → AreWithin (plans_of set whole sliced) hyper
plans_within set whole sliced hyper h =
    let same = plans_periods set whole sliced h.same in
    let long = periods_long (plans_of set whole sliced) whole same in
    let frames = same_frames (plans_of set whole sliced) whole hyper same in
    let few = h.at_once.frames in
    let some = h.at_once.sound.some in
    let most = h.at_once.sound.most in
    record {
      sound = record { some = omega arith; most = omega arith; each = plans_sound IsSoundPlan set whole sliced h.at_once.sound.each h.in_parts.sound.each };
      period = subst (λ periods. IsLeastCommonMultiple periods hyper) (sym same) h.at_once.period;
      frames = omega arith;
    }

-- the plan of one task more
pub plans_next : (set : ℕ) (whole sliced : List Plan) (task : ℕ) (plan other : Plan) → task < length whole → length sliced ≡ length whole → plan ≡ get_or whole task plan → other ≡ get_or sliced task other
    → plans_of set (drop task whole) (drop task sliced) ≡ (if has set (length whole - 1 - task) then other else plan) ∷ plans_of set (drop (task + 1) whole) (drop (task + 1) sliced)
unfolding plans_of
plans_next set whole sliced task plan other within long is at =
    let front : drop task whole ≡ plan ∷ drop (task + 1) whole = drop_more whole task plan within ∙ ap (λ x. x ∷ drop (task + 1) whole) (sym is) in
    let beside : drop task sliced ≡ other ∷ drop (task + 1) sliced = drop_more sliced task other (omega arith) ∙ ap (λ x. x ∷ drop (task + 1) sliced) (sym at) in
    let count = length-drop (task + 1) whole in
    let left : length (drop (task + 1) whole) ≡ length whole - 1 - task = omega arith in
    (λ i. plans_of set (front i) (beside i)) ∙ ap (λ n. (if has set n then other else plan) ∷ plans_of set (drop (task + 1) whole) (drop (task + 1) sliced)) left

-- none are left
pub plans_end : (set : ℕ) (plans whole sliced : List Plan) (task : ℕ) → length whole ≤ task → plans ++ plans_of set (drop task whole) (drop task sliced) ≡ plans_of set whole sliced → plans ≡ plans_of set whole sliced
unfolding plans_of
plans_end set plans whole sliced task past h =
    sym (append-nil plans) ∙ (ap (λ l. plans ++ plans_of set l (drop task sliced)) (sym (drop_all task whole past)) ∙ h)

-- the plan of one task more is put behind those before it
pub plans_pushed : (set : ℕ) (plans whole sliced : List Plan) (task : ℕ) (plan other one : Plan) → task < length whole → length sliced ≡ length whole → plan ≡ get_or whole task plan → other ≡ get_or sliced task other
    → one ≡ (if has set (length whole - 1 - task) then other else plan) → plans ++ plans_of set (drop task whole) (drop task sliced) ≡ plans_of set whole sliced
    → (plans ++ one ∷ []) ++ plans_of set (drop (task + 1) whole) (drop (task + 1) sliced) ≡ plans_of set whole sliced
plans_pushed set plans whole sliced task plan other one within long is at chosen h =
    append_assoc plans (one ∷ []) (plans_of set (drop (task + 1) whole) (drop (task + 1) sliced))
    ∙ (ap (λ x. plans ++ x ∷ plans_of set (drop (task + 1) whole) (drop (task + 1) sliced)) chosen ∙ (ap (λ l. plans ++ l) (sym (plans_next set whole sliced task plan other within long is at)) ∙ h))

pub plans_start : (set : ℕ) (whole sliced : List Plan) → length sliced ≡ length whole → [] ++ plans_of set (drop 0 whole) (drop 0 sliced) ≡ plans_of set whole sliced
plans_start set whole sliced e = refl

-- ---- sizes

pub byte_is : (b : Bool) → bool_byte b ≡ (if b then 1 else 0)
byte_is true = refl
byte_is false = refl

pub size_start : (set : ℕ) → 0 ≡ size_of 0 set
unfolding size_of
size_start set = refl

pub size_next : (below set size : ℕ) (b : Bool) → size ≡ size_of below set → b ≡ has set below → size + bool_byte b ≡ size_of (below + 1) set
unfolding size_of
size_next below set size b e is =
    (λ i. e i + byte_is b i) ∙ (ap (λ a. size_of below set + (if a then 1 else 0)) is ∙ ap (λ n. size_of n set) (let next : suc below ≡ below + 1 = omega arith in next))

pub size_least : (below size : ℕ) (b : Bool) → size ≤ below → size + bool_byte b ≤ below + 1
size_least below size b h = let one = at_most_one b in let same = byte_is b in omega arith
