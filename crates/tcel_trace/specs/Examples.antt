-- Worked examples of traces.
use Rattle.std.specs.Prelude.{ℕ, ◌++◌, pos, Bool, true, false, List, [], ◌∷◌, codes}
use Rattle.std.specs.List.{flat_map}
use Rattle.tcel_trace.specs.declared.trace_line.TraceLine.{TraceLine}
use Rattle.tcel_trace.specs.declared.trace_line.LineWhat.{LineWhat}
use Rattle.tcel_trace.specs.declared.trace_line.LineWhat.TheVariants.{Receive, Send, First, End}

-- a line of the frame 0 of the task `t`
abbrev pub of_t : ℕ → LineWhat → TraceLine
of_t time what = record { time = time; task = codes "t"; frame = 0; what = what }

abbrev pub ended : List (List ℕ) → List ℕ
ended lines = flat_map (λ line. line ++ 10 ∷ []) lines

-- a frame of a task that sends on what it receives, and counts its frames
abbrev pub run_lines : List TraceLine
run_lines = of_t 1 (Receive (codes "s") (pos 5)) ∷ of_t 3 (Send (codes "o") (pos 5)) ∷ of_t 8 First ∷ of_t 9 (End (codes " n=1")) ∷ []

abbrev pub run_text : List ℕ
run_text = ended (codes "1 t 0 receive s 5" ∷ codes "3 t 0 send o 5" ∷ codes "8 t 0 first" ∷ codes "9 t 0 end n=1" ∷ [])

abbrev pub two_lines : List TraceLine
two_lines = of_t 8 First ∷ of_t 9 (End []) ∷ []

-- a line without its line feed behind one that has it
abbrev pub unended_text : List ℕ
unended_text = codes "8 t 0 first\n9 t 0 end n=1"

-- a line of spaces behind two lines
abbrev pub spaced_text : List ℕ
spaced_text = codes "8 t 0 first\n9 t 0 end\n  \n9 t 0 end\n"

-- texts, and whether each has the form of a line
abbrev pub texts : List (List ℕ × Bool)
texts =
    (codes "18446744073709551615 t 18446744073709551615 receive s -9223372036854775808", true)
    ∷ (codes "3 t 0 send o 9223372036854775807", true)
    ∷ (codes "20 v 3 end a=[-1,0] b=false n=-12", true)
    ∷ (codes "9 t 0 end", true)
    ∷ ([], false)
    ∷ (codes " ", false)
    ∷ (codes "8 t 0 first" ++ 13 ∷ [], false)
    ∷ (codes "08 t 0 first", false)
    ∷ (codes "18446744073709551616 t 0 first", false)
    ∷ (codes "8  t 0 first", false)
    ∷ (codes "8 t 0 first ", false)
    ∷ (codes "8 to 0 first", false)
    ∷ (codes "1 t 0 receive s -0", false)
    ∷ (codes "1 t 0 receive s 9223372036854775808", false)
    ∷ (codes "9 t 0 end a=[]", false)
    ∷ (codes "9 t 0 end a=[1,]", false)
    ∷ (codes "9 t 0 end n=1 ", false) ∷ []
