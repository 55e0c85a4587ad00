-- What Ok of `compile` says of every run of the written image.
use Rattle.std.proofs.Common.{◌≡◌, ℕ, List, [], ◌∷◌, Option, Some, None, refl, sym, ap, ◌∙◌, subst}
use Rattle.std.specs.Prelude.{IfSome}
use Rattle.tcel_io.specs.InTurn.{AreTaken}
use Rattle.tcel_io.specs.Seen.{Seen}
use Rattle.tcel_io.specs.Shelf.{SeenShelf}
use Rattle.tcel_io.specs.Taken.{Takes}
use Rattle.tcel_tool.specs.Answer.{Does, Ended, begun}
use Rattle.tcel_tool.specs.CheckCommand.{IsFaultless}
use Rattle.tcel_tool.specs.CommandLine.{word_at}
use Rattle.tcel_tool.specs.Commands.{stages_of}
use Rattle.tcel_tool.specs.CompileCommand.{IsCompiled, image_bytes}
use Rattle.tcel_tool.specs.Stage.{Call}
use Rattle.tcel_tool.specs.TargetText.{GivesCosts}
use Rattle.tcel_tool.specs.declared.command.Command.TheVariants.{Compile}
use Rattle.tcel_tool.specs.declared.status.Status.{Status}
use Rattle.tcel_tool.specs.declared.status.Status.TheVariants.{Ok}
use Rattle.tcel_tool.proofs.CallLaws.{Finished, finished}
use Rattle.tcel_tool.proofs.Promise.{bytes_most, promise}

-- what is so of the bytes read is so of the told ones
as_told : (told : Option (List ℕ)) (P : List ℕ → Type 0) (bytes read : List ℕ) → IfSome told (λ all. bytes ≡ all) → read ≡ bytes → P read → IfSome told P
as_told None P bytes read is same h = tt
as_told (Some all) P bytes read is same h = subst P (same ∙ is) h

-- a single piece was taken
one_taken : (piece : List ℕ) (pieces : List (List ℕ)) (old new : Seen) → pieces ≡ piece ∷ [] → AreTaken pieces old new → Takes piece old.taken new.taken
one_taken piece pieces old new one taken =
    let t : AreTaken (piece ∷ []) old new = subst (λ (ps : List (List ℕ)). AreTaken ps old new) one taken in
    subst (λ (s : Seen). Takes piece old.taken s.taken) (sym t.2) t.1.whole

pub compiled : (words : List (List ℕ)) (shelf shelf' : SeenShelf) (before after : Seen) (status : Status) (task : Option (List ℕ))
    → Does Compile words shelf shelf' before after status task → status ≡ Ok
    → IsCompiled (shelf.told (word_at words 1)) (shelf.told (word_at words 2)) before.taken after.taken
compiled words shelf shelf' before after status task does e =
    let end : Ended = record { shelf = shelf'; before = before; after = after; status = status; task = task } in
    let f : Finished Compile end shelf.told (stages_of Compile) (begun words) = finished Compile end shelf.told (stages_of Compile) (begun words) shelf refl does e in
    let text = f.text in
    let c = text.choice in
    let first = f.reads.0 in
    let second = f.reads.2.0 in
    let first_is : f.last.read 1 ≡ first = ap (λ (call : Call). call.read 1) f.reads.2.2 in
    let second_is : f.last.read 2 ≡ second = ap (λ (call : Call). call.read 2) f.reads.2.2 in
    record {
      tasks = text.for.tasks;
      choice = c;
      text = as_told (shelf.told (word_at words 1)) (λ bytes. IsFaultless bytes text.for.tasks) first (f.last.read 1) f.reads.1 first_is text.for.faultless;
      set = text.for.is;
      given = as_told (shelf.told (word_at words 2)) (λ bytes. GivesCosts bytes c.costs) second (f.last.read 2) f.reads.2.1 second_is text.for.gives;
      best = text.for.best;
      taken = one_taken (image_bytes c) f.pieces before after text.is f.taken;
      loadable = bytes_most c text.for.best;
      promise = promise c text.for.best;
    }
