use Rattle.tcel_tool.proofs.JudgedRuns.{judge_accepts, runs_accepted, written_accepted}
use Rattle.tcel_tool.proofs.headline.runs_are_accepted.Goals as goal

pub returns : goal.returns
returns c = record { headline = runs_accepted; written = written_accepted; judged = judge_accepts }
