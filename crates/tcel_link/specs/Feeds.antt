-- Links on their way through the frames: what each has carried, and what it still holds back.
use Rattle.std.specs.Prelude.{◌≡◌, ℕ, ◌<◌, ◌==◌, nat_le, Bool, false, if◌then◌else◌, ℤ, List, [], ◌∷◌, ◌++◌, length, Option, None, Some, option_map, option_to_list, replicate, slice_set}
use Rattle.tcel_core.specs.declared.event.Event.{Event}
use Rattle.tcel_link.specs.declared.feed.Feed.{Feed}
use Rattle.tcel_link.specs.declared.feed.Sent.{Sent}
use Rattle.tcel_link.specs.declared.link.Link.{Link}
use Rattle.tcel_link.specs.Linked.{received, sent}
use Rattle.tcel_script.specs.Script.{Streams, with_stream}

-- the sample, the values whose deadline hasn't come, how often a frame may receive the sample, and what was received
pub record Carried : Type 0 where
  pub link : Link
  pub sample : ℤ
  pub pending : List Sent
  pub copies : ℕ
  pub received : List ℤ

abbrev pub carried : Feed → Carried
carried feed =
    record {
      link = feed.link;
      sample = feed.sample;
      pending = feed.pending.items;
      copies = length feed.words.items;
      received = feed.received.items;
    }

-- whether the deadline of the first value has come
abbrev pub is_due : ℕ → List Sent → Bool
is_due time [] = false
is_due time (first ∷ rest) = nat_le first.due time

-- the sample at a time, and the values whose deadline hasn't come then
abbrev pub sample_at : ℕ → ℤ → List Sent → ℤ
sample_at time sample [] = sample
sample_at time sample (first ∷ rest) = if nat_le first.due time then sample_at time first.value rest else sample

abbrev pub pending_at : ℕ → List Sent → List Sent
pending_at time [] = []
pending_at time (first ∷ rest) = if nat_le first.due time then pending_at time rest else first ∷ rest

abbrev pub advanced : ℕ → Carried → Carried
advanced time c =
    record {
      link = c.link;
      sample = sample_at time c.sample c.pending;
      pending = pending_at time c.pending;
      copies = c.copies;
      received = c.received;
    }

-- a frame of a task begins at a time: its inputs are given the samples of the links that lead to it
abbrev pub begun : ℕ → ℕ → Carried → Carried
begun number time c = if c.link.to == number then advanced time c else c

abbrev pub given : ℕ → ℕ → Carried → List (List ℤ) → List (List ℤ)
given number time c inputs = if c.link.to == number then slice_set inputs c.link.input (replicate c.copies (sample_at time c.sample c.pending)) else inputs

abbrev pub all_given : ℕ → ℕ → List Carried → List (List ℤ) → List (List ℤ)
all_given number time [] inputs = inputs
all_given number time (c ∷ more) inputs = all_given number time more (given number time c inputs)

-- a frame of a task made these events: the links that lead to it have heard its receives
abbrev pub heard : ℕ → List Event → Carried → Carried
heard number events c =
    record {
      link = c.link;
      sample = c.sample;
      pending = c.pending;
      copies = c.copies;
      received = if c.link.to == number then c.received ++ received c.link.input events else c.received;
    }

-- the last of values, or another, if there is one
abbrev pub last_of : Option ℤ → List ℤ → Option ℤ
last_of other [] = other
last_of other (value ∷ more) = last_of (Some value) more

-- the last of these values is due at a time, if there is one
abbrev pub held_back : ℕ → List ℤ → List Sent
held_back due values = option_to_list (option_map (λ value. record { due = due; value = value }) (last_of None values))

abbrev pub with_sent : ℕ → List ℤ → Carried → Carried
with_sent due values c = record { link = c.link; sample = c.sample; pending = c.pending ++ held_back due values; copies = c.copies; received = c.received }

-- a frame of a task was released at a time and made these events: the links that lead from it hold the last value back until its deadline
abbrev pub told : ℕ → ℕ → ℕ → List Event → Carried → Carried
told number time due events c = if c.link.from == number then with_sent due (sent c.link.output events) (advanced time c) else c

abbrev pub ended : ℕ → ℕ → ℕ → List Event → Carried → Carried
ended number time due events c = told number time due events (heard number events c)

-- where the link leads to this task, the task has such an input among so many
abbrev pub LeadsWithin : ℕ → ℕ → Carried → Type 0
LeadsWithin number inputs c = c.link.to ≡ number → c.link.input < inputs

-- what the links received, put into a script
abbrev pub all_written : List Carried → Streams → Streams
all_written [] streams = streams
all_written (c ∷ more) streams = all_written more (with_stream streams c.link.to c.link.input c.received)
