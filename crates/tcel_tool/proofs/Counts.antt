-- What a run shows, counted tick by tick.
use Rattle.std.proofs.Common.{◌≡◌, ◌∙◌, ◌+◌, ◌-◌, ◌<◌, ℕ, zero, suc, ℤ, ◌+ℤ◌, List, [], ◌∷◌, cond, ◌++◌, Option, Some, ap, arith, subst, sym}
use Rattle.std.proofs.Math.IntN.{+ℤ_assoc, +ℤ_idl, +ℤ_idr}
use Rattle.std.proofs.lemmas.Int.{SFits-int_wrap, int_wrap-add_same, int_wrap_fits}
use Rattle.std.proofs.lemmas.List.Sums.{sum_by-append}
use Rattle.std.specs.Int.{w64}
use Rattle.std.specs.Prelude.{FitsSigned, length, option_to_list}
use Rattle.tcel_image.specs.Machine.{Streams, trace}
use Rattle.tcel_image.specs.declared.image.Image.{Image}
use Rattle.tcel_image.specs.declared.image.ImageTask.{ImageTask}
use Rattle.tcel_image.specs.Machine.{Running}
use Rattle.tcel_machine.specs.Run.{Run, Tells, after_tick, entry_seen, loaded, state_in, tick_of}
use Rattle.tcel_machine.specs.Seen.{seen}
use Rattle.tcel_machine.specs.declared.entry.Entry as declared
use Rattle.tcel_num.specs.Arithmetic.{wrapped}
use Rattle.tcel_num.specs.Entry.{Entry}
use Rattle.tcel_tool.specs.Counting.{Adds, Counted, counts_text, entries_ahead, none_counted}
use Rattle.tcel_tool.specs.Headline.{image_for}
use Rattle.tcel_tool.specs.SetChoice.{Choice}
use Rattle.tcel_tool.specs.Summary.{entries_text, events_in, frames_in, is_end, is_event, sent, sent_in, summary_text}
use Rattle.tcel_tool.specs.declared.summary.Counts.{Counts}

zero_first : (n : ℕ) → 0 + n ≡ n
zero_first n = omega arith

sent_both : (a b : List Entry) → sent_in (a ++ b) ≡ sent_in a +ℤ sent_in b
sent_both [] b = sym (+ℤ_idl (sent_in b))
sent_both (entry ∷ a) b = ap (λ (n : ℤ). sent entry.what +ℤ n) (sent_both a b) ∙ sym (+ℤ_assoc (sent entry.what) (sent_in a) (sent_in b))

-- no entries add nothing
pub counted_none : (counts : Counts) → Counted [] counts counts
counted_none counts = record { events = omega arith; frames = omega arith; sum = ap wrapped (sym (+ℤ_idr counts.sum)) }

-- entries, and then those behind them
pub counted_then : (a b : List Entry) (old middle new : Counts) → Counted a old middle → Counted b middle new → Counted (a ++ b) old new
counted_then a b old middle new first rest =
    record {
      events = omega (arith, first.events, rest.events, sum_by-append (λ (e : Entry). cond (is_event e.what) 1 0) a b);
      frames = omega (arith, first.frames, rest.frames, sum_by-append (λ (e : Entry). cond (is_end e.what) 1 0) a b);
      sum =
          rest.sum ∙ int_wrap-add_same w64 middle.sum (old.sum +ℤ sent_in a) (sent_in b) first.sum
          ∙ ap wrapped (+ℤ_assoc old.sum (sent_in a) (sent_in b) ∙ ap (λ (n : ℤ). old.sum +ℤ n) (sym (sent_both a b)));
    }

-- the next tick's entries, and then those of the ticks behind it
pub ticks_counted : (run next : Run) (left : ℕ) (old middle new : Counts) → 0 < left → next ≡ after_tick run → Counted (option_to_list (tick_of run).entry) old middle
    → Counted (entries_ahead next (left - 1)) middle new → Counted (entries_ahead run left) old new
ticks_counted run next zero old middle new some is first rest = absurd (omega (arith, some))
ticks_counted run next (suc left) old middle new some is first rest =
    let one_less : suc left - 1 ≡ left = omega arith in
    let behind = subst (λ (k : ℕ). Counted (entries_ahead (after_tick run) k) middle new) one_less (subst (λ (r : Run). Counted (entries_ahead r (suc left - 1)) middle new) is rest) in
    counted_then (option_to_list (tick_of run).entry) (entries_ahead (after_tick run) left) old middle new first behind

again : (z : ℤ) → wrapped (wrapped z) ≡ wrapped z
again z = int_wrap_fits w64 (wrapped z) (SFits-int_wrap w64 z)

-- what a tick showed
pub one_counted : (tasks : List ImageTask) (running : List Running) (entry : declared.Entry) (told : Option Entry) (old new : Counts)
    → Tells (Some entry) tasks running told → ((state : List ℤ) → Adds (seen state entry.what) old new) → Counted (option_to_list told) old new
one_counted tasks running entry told old new tells adds =
    let added = adds (state_in tasks running entry.task) in
    let own : Entry = entry_seen tasks running entry in
    let one : Counted (own ∷ []) old new = record {
      events = added.events ∙ ap (λ n. old.events + n) (sym (zero_first _));
      frames = added.frames ∙ ap (λ n. old.frames + n) (sym (zero_first _));
      sum = ap wrapped added.sum ∙ again _ ∙ ap (λ (n : ℤ). wrapped (old.sum +ℤ n)) (sym (+ℤ_idr (sent own.what)));
    } in
    subst (λ (t : Option Entry). Counted (option_to_list t) old new) tells one

-- the counts of a whole run are its summary
pub summed_up : (c : Choice) (streams : Streams) (ticks : ℕ) (ready : Image) (machine : Run) (counts : Counts) (tasks : ℕ) → ready ≡ image_for c
    → machine ≡ loaded ready streams → Counted (entries_ahead machine ticks) none_counted counts → FitsSigned w64 counts.sum → tasks ≡ length c.set
    → counts_text tasks c.sliced ticks counts ≡ summary_text c streams ticks
summed_up c streams ticks ready machine counts tasks image is counted fits number =
    let start : machine ≡ loaded (image_for c) streams = is ∙ ap (λ (i : Image). loaded i streams) image in
    let all = subst (λ (run : Run). Counted (entries_ahead run ticks) none_counted counts) start counted in
    let shown = trace (image_for c) streams ticks in
    let events : counts.events ≡ events_in shown = all.events ∙ zero_first (events_in shown) in
    let frames : counts.frames ≡ frames_in shown = all.frames ∙ zero_first (frames_in shown) in
    let sum : counts.sum ≡ wrapped (sent_in shown) =
    sym (int_wrap_fits w64 counts.sum fits) ∙ all.sum ∙ ap wrapped (+ℤ_idl (sent_in shown)) in
    let counted_is : counts ≡ record { events = events_in shown; frames = frames_in shown; sum = wrapped (sent_in shown) } =
    λ i. let r : Counts = record { events = events i; frames = frames i; sum = sum i } in r in
    ap (counts_text tasks c.sliced ticks) counted_is ∙ ap (λ n. entries_text n c.sliced ticks shown) number
