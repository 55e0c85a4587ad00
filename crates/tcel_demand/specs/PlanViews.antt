-- The plain plans, points and late points of the values that the program has.
use Rattle.std.specs.Prelude.{◌≡◌, refl}
use Rattle.std.proofs.Common.{ap}
use Rattle.tcel_demand.specs.declared.plan.PointName as given
use Rattle.tcel_demand.specs.declared.plan.PointName.TheVariants.{Frame, Before, Within}
use Rattle.tcel_demand.specs.declared.plan.Point.TheInside as point
use Rattle.tcel_demand.specs.declared.plan.TaskPlan.TheInside as task_plan
use Rattle.tcel_demand.specs.declared.plan.Late.TheInside as late
use Rattle.tcel_num.specs.Lateness.{Lateness}
use Rattle.tcel_num.specs.Plan.{Plan, Point, PointName, frame, before, within}

abbrev pub name_of : given.PointName → PointName
name_of Frame = frame
name_of (Before n) = before n
name_of (Within n) = within n

abbrev pub given_name : PointName → given.PointName
given_name frame = Frame
given_name (before n) = Before n
given_name (within n) = Within n

pub given_name-name_of : (name : given.PointName) → given_name (name_of name) ≡ name
given_name-name_of Frame = refl
given_name-name_of (Before n) = refl
given_name-name_of (Within n) = refl

abbrev pub point_of : point.Inside → Point
point_of a = record { prefix = a.prefix; bound = a.bound; name = name_of a.name }

abbrev pub point_inside : Point → point.Inside
point_inside p = record { prefix = p.prefix; bound = p.bound; name = given_name p.name }

pub point_inside-point_of : (a : point.Inside) → point_inside (point_of a) ≡ a
point_inside-point_of a = ap (λ (n : given.PointName). let b : point.Inside = record { prefix = a.prefix; bound = a.bound; name = n } in b) (given_name-name_of a.name)

abbrev pub plan_of : task_plan.Inside → Plan
plan_of a = record { period = a.period; total = a.total; points = a.points }

abbrev pub lateness_of : late.Inside → Lateness
lateness_of a = record { task = a.task; frame = a.frame; point = a.point; name = name_of a.name; response = a.response; bound = a.bound }

abbrev pub late_inside : Lateness → late.Inside
late_inside l = record { task = l.task; frame = l.frame; point = l.point; name = given_name l.name; response = l.response; bound = l.bound }

pub late_inside-lateness_of : (a : late.Inside) → late_inside (lateness_of a) ≡ a
late_inside-lateness_of a = ap (λ (n : given.PointName). let b : late.Inside = record { task = a.task; frame = a.frame; point = a.point; name = n; response = a.response; bound = a.bound } in b) (given_name-name_of a.name)
