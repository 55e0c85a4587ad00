-- A stack as the list of its words, its top first.
use Rattle.std.specs.Prelude.{◌≡◌, ◌≤◌, ℤ, List, reverse, take, length}
use Rattle.tcel_machine.specs.declared.stack.Stack.TheInside.{Inside}

abbrev pub words_of : Inside → List ℤ
words_of stack = reverse (take stack.depth stack.words)

abbrev pub IsKept : Inside → Type 0
IsKept stack = (length stack.words ≡ 128) × (stack.depth ≤ 128)
