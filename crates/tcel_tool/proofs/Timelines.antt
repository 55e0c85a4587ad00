-- The lines of a choice's schedule are what `timeline` writes.
use Rattle.std.proofs.Common.{◌≡◌, ◌∙◌, ℕ, List, ap, sym, subst}
use Rattle.tcel_demand.specs.Sound.{AreSound}
use Rattle.tcel_num.specs.Plan.{Plan}
use Rattle.tcel_tool.specs.CommandLine.{number_at}
use Rattle.tcel_tool.specs.SetChoice.{Choice, IsChoiceFor}
use Rattle.tcel_tool.specs.Spans.{AreLines}
use Rattle.tcel_tool.specs.Stage.{Call}
use Rattle.tcel_tool.specs.TimelineCommand.{IsText}

-- the plans of a choice are sound
pub sound_plans : (program target : List ℕ) (c : Choice) (plans : List Plan) → IsChoiceFor program target c → plans ≡ c.plans → AreSound plans
sound_plans program target c plans for same = subst AreSound (sym same) for.best.fit.within.sound

pub are_text : (last : Call) (words : List (List ℕ)) (c : Choice) (plans : List Plan) (ticks : ℕ) (lines : List (List ℕ)) → last.words ≡ words
    → IsChoiceFor (last.read 1) (last.read 2) c → plans ≡ c.plans → ticks ≡ number_at words 3 → AreLines c.set plans 0 ticks lines → IsText last lines
are_text last words c plans ticks lines same for plans_are ticks_are are =
    let number : ticks ≡ number_at last.words 3 = ticks_are ∙ ap (λ ws. number_at ws 3) (sym same) in
    record {
      choice = c;
      for = for;
      lines = subst (λ n. AreLines c.set c.plans 0 n lines) number (subst (λ (ps : List Plan). AreLines c.set ps 0 ticks lines) plans_are are);
    }
