-- Parts of the worked examples.
use Rattle.std.proofs.Common.{◌<◌, ◌^◌, ◌≡◌, ℕ, true, List, [], ◌∷◌, All, refl, lit<}
use Rattle.std.specs.Prelude.{pos, codes, FitsSigned}
use Rattle.std.specs.Int.{w64}
use Rattle.std.specs.Fmt.{digits}
use Rattle.std.proofs.lemmas.List.Elements.{All-nil, All-cons}
use Rattle.tcel_num.specs.Name.{IsName}
use Rattle.tcel_trace.specs.declared.trace_line.TraceLine.{TraceLine}
use Rattle.tcel_trace.specs.declared.trace_line.LineWhat.TheVariants.{Receive, Send, First, End}
use Rattle.tcel_trace.specs.declared.trace_line.LineWhat.{LineWhat}
use Rattle.tcel_trace.specs.TraceForm.{LineFits, WhatFits, AreStates, IsTrace, IsBadAt}
use Rattle.tcel_trace.specs.Reading.{is_name}
use Rattle.tcel_trace.specs.Examples.{of_t, run_lines, run_text, two_lines, unended_text, spaced_text}
use Rattle.tcel_trace.proofs.WordTexts.{is_name_sound}
use Rattle.tcel_trace.proofs.StateTexts.{states_sound}
use Rattle.tcel_trace.proofs.TraceTexts.{no_feed, no_line}

named : (name : List ℕ) → is_name name ≡ true → IsName name
named name h = is_name_sound name h

five : FitsSigned w64 (pos 5)
five = record { sfits = lit< tt }

states : AreStates (codes " n=1")
unfolding digits
states = states_sound (codes " n=1") refl

fits_at : (time : ℕ) (what : LineWhat) → time < 2 ^ 64 → WhatFits what → LineFits (of_t time what)
fits_at time what small fits = record { time = small; task = named (codes "t") refl; frame = lit< tt; what = fits }

-- one line in front of others that fit
front : (time : ℕ) (what : LineWhat) (more : List TraceLine) → time < 2 ^ 64 → WhatFits what → All LineFits more → All LineFits (of_t time what ∷ more)
front time what more small fits rest = All-cons LineFits (of_t time what) more (fits_at time what small fits) rest

run_fits : All LineFits run_lines
run_fits =
    front 1 (Receive (codes "s") (pos 5)) (of_t 3 (Send (codes "o") (pos 5)) ∷ of_t 8 First ∷ of_t 9 (End (codes " n=1")) ∷ []) (lit< tt)
    (named (codes "s") refl, five)
    (front 3 (Send (codes "o") (pos 5)) (of_t 8 First ∷ of_t 9 (End (codes " n=1")) ∷ []) (lit< tt) (named (codes "o") refl, five)
    (front 8 First (of_t 9 (End (codes " n=1")) ∷ []) (lit< tt) tt (front 9 (End (codes " n=1")) [] (lit< tt) states (All-nil LineFits))))

pub run_read : IsTrace run_lines run_text
unfolding digits
run_read = record { fit = run_fits; text = refl }

two_fit : All LineFits two_lines
two_fit = front 8 First (of_t 9 (End []) ∷ []) (lit< tt) tt (front 9 (End []) [] (lit< tt) (states_sound [] refl) (All-nil LineFits))

one_fits : All LineFits (of_t 8 First ∷ [])
one_fits = front 8 First [] (lit< tt) tt (All-nil LineFits)

pub word_bad : IsBadAt (codes "x") 1
word_bad = record { front = []; rest = codes "x"; fit = All-nil LineFits; text = refl; at = refl; more = lit< tt; bad = no_feed (codes "x") refl }

pub unended_bad : IsBadAt unended_text 2
unfolding digits
unended_bad = record {
  front = of_t 8 First ∷ [];
  rest = codes "9 t 0 end n=1";
  fit = one_fits;
  text = refl;
  at = refl;
  more = lit< tt;
  bad = no_feed (codes "9 t 0 end n=1") refl;
}

pub spaces_bad : IsBadAt spaced_text 3
unfolding digits
spaces_bad = record {
  front = two_lines;
  rest = codes "  \n9 t 0 end\n";
  fit = two_fit;
  text = refl;
  at = refl;
  more = lit< tt;
  bad = no_line (codes "  \n9 t 0 end\n") (codes "  ") (codes "9 t 0 end\n") refl refl;
}
