-- A trace is read line by line.
use Rattle.std.proofs.Common.{◌≡◌, ◌==◌, false, ℕ, ◌<◌, List, [], ◌∷◌, ◌++◌, length, All, Some, None, refl, sym, ap, ◌∙◌, arith, append_assoc, append-nil}
use Rattle.std.specs.Prelude.{codes}
use Rattle.std.specs.List.{flat_map}
use Rattle.std.proofs.lemmas.Grind.{flat_map-append}
use Rattle.std.proofs.lemmas.List.Elements.{All-head, All-tail, All-append, All-cons, All-nil}
use Rattle.tcel_trace.specs.declared.trace_line.TraceLine.{TraceLine}
use Rattle.tcel_trace.specs.TraceForm.{LineFits, body_text, line_text, IsTrace, IsBadAt, BeginWithNone}
use Rattle.tcel_trace.specs.Reading.{cut, line_in}
use Rattle.tcel_trace.proofs.Cutting.{cut_there, cut_sound}
use Rattle.tcel_trace.proofs.LineTexts.{line_sound, line_there, line_lacks}

-- the first line is cut off
pub first_cut : (line : TraceLine) (more : List ℕ) → LineFits line → cut 10 (line_text line ++ more) ≡ Some (body_text line, more)
first_cut line more fits =
    rw (append_assoc (body_text line) (codes "\n") more) (cut_there 10 (body_text line) more (line_lacks line fits))

-- bytes without a line feed begin with no line
pub no_feed : (rest : List ℕ) → cut 10 rest ≡ None → BeginWithNone rest
no_feed rest none = λ line more fits e. let there : cut 10 rest ≡ Some (body_text line, more) = rw e (first_cut line more fits) in absurd cc

same_parts : (a b : List ℕ × List ℕ) → Some a ≡ Some b → a ≡ b
same_parts a b h = cc

some_none : (line : TraceLine) → Some line ≡ None → ⊥
some_none line h = absurd cc

-- nor do bytes whose text up to the first line feed says nothing
pub no_line : (rest text more : List ℕ) → cut 10 rest ≡ Some (text, more) → line_in text ≡ None → BeginWithNone rest
no_line rest text more parts none = λ line behind fits e.
    let there : cut 10 rest ≡ Some (body_text line, behind) = rw e (first_cut line behind fits) in
    let one : text ≡ body_text line = ap (λ (p : List ℕ × List ℕ). p.0) (same_parts (text, more) (body_text line, behind) (sym parts ∙ there)) in
    some_none line (sym (line_there line fits) ∙ ap line_in (sym one) ∙ none)

-- one line more
pub line_more : (bytes rest text more : List ℕ) (lines : List TraceLine) (line : TraceLine) → All LineFits lines
    → bytes ≡ flat_map line_text lines ++ rest → cut 10 rest ≡ Some (text, more) → line_in text ≡ Some line
    → All LineFits (lines ++ line ∷ []) × (bytes ≡ flat_map line_text (lines ++ line ∷ []) ++ more)
line_more bytes rest text more lines line fit so_far parts read =
    let told = line_sound text line read in
    let front = flat_map line_text lines in
    let cut_off : rest ≡ line_text line ++ more = cut_sound 10 rest (text, more) parts ∙ rw (told.1) (sym (append_assoc (body_text line) (codes "\n") more)) in
    let whole : flat_map line_text (lines ++ line ∷ []) ≡ front ++ line_text line = flat_map-append line_text lines (line ∷ []) ∙ ap
    (λ last. front ++ last) (append-nil (line_text line)) in (
      All-append LineFits lines (line ∷ []) fit (All-cons LineFits line [] told.0 (All-nil LineFits)),
      so_far ∙ ap (λ last. front ++ last) cut_off ∙ sym (append_assoc front (line_text line) more) ∙ ap (λ all. all ++ more) (sym whole),
    )

pub some_left : (bytes : List ℕ) → (length bytes == 0) ≡ false → 0 < length bytes
some_left [] h = absurd cc
some_left (b ∷ bytes) h = omega arith

-- ---- one text is that of one trace

same_some : (a b : TraceLine) → Some a ≡ Some b → a ≡ b
same_some a b h = cc

-- two lines with which one text begins are one, and so is what stands behind them
same_line : (a b : TraceLine) (more other : List ℕ) → LineFits a → LineFits b → line_text a ++ more ≡ line_text b ++ other → (a ≡ b) × (more ≡ other)
same_line a b more other f g h =
    let parts = same_parts (body_text a, more) (body_text b, other) (sym (first_cut a more f) ∙ ap (cut 10) h ∙ first_cut b other g) in
    let body : body_text a ≡ body_text b = ap (λ (p : List ℕ × List ℕ). p.0) parts in
    (same_some a b (sym (line_there a f) ∙ ap line_in body ∙ line_there b g), ap (λ (p : List ℕ × List ℕ). p.1) parts)

pub nothing_left : BeginWithNone []
nothing_left = no_feed [] refl

pub same_lines : (a b : List TraceLine) (more other : List ℕ) → All LineFits a → All LineFits b
    → flat_map line_text a ++ more ≡ flat_map line_text b ++ other → BeginWithNone more → BeginWithNone other → (a ≡ b) × (more ≡ other)
same_lines [] [] more other f g h left right = (refl, h)
same_lines [] (y ∷ b) more other f g h left right =
    absurd (left y (flat_map line_text b ++ other) (All-head LineFits y b g) (h ∙ append_assoc (line_text y) (flat_map line_text b) other))
same_lines (x ∷ a) [] more other f g h left right =
    absurd (right x (flat_map line_text a ++ more) (All-head LineFits x a f) (sym h ∙ append_assoc (line_text x) (flat_map line_text a) more))
same_lines (x ∷ a) (y ∷ b) more other f g h left right =
    let first = same_line x y (flat_map line_text a ++ more) (flat_map line_text b ++ other) (All-head LineFits x a f) (All-head LineFits y b g)
    (sym (append_assoc (line_text x) (flat_map line_text a) more) ∙ h ∙ append_assoc (line_text y) (flat_map line_text b) other) in
    let rest = same_lines a b more other (All-tail LineFits x a f) (All-tail LineFits y b g) first.1 left right in
    (ap (λ line. line ∷ a) first.0 ∙ ap (λ lines. y ∷ lines) rest.0, rest.1)

whole_text : (lines : List TraceLine) (bytes : List ℕ) → IsTrace lines bytes → bytes ≡ flat_map line_text lines ++ []
whole_text lines bytes h = h.text ∙ sym (append-nil (flat_map line_text lines))

pub read_once : (lines other : List TraceLine) (bytes : List ℕ) → IsTrace lines bytes → IsTrace other bytes → lines ≡ other
read_once lines other bytes h k =
    (same_lines lines other [] [] h.fit k.fit (sym (whole_text lines bytes h) ∙ whole_text other bytes k) nothing_left nothing_left).0

pub read_or_bad : (lines : List TraceLine) (bytes : List ℕ) (number : ℕ) → IsTrace lines bytes → IsBadAt bytes number → ⊥
read_or_bad lines bytes number h k =
    let rest = (same_lines lines k.front [] k.rest h.fit k.fit (sym (whole_text lines bytes h) ∙ k.text) nothing_left k.bad).1 in
    omega (arith, k.more, ap length rest)

pub bad_once : (bytes : List ℕ) (number other : ℕ) → IsBadAt bytes number → IsBadAt bytes other → number ≡ other
bad_once bytes number other h k =
    let front = (same_lines h.front k.front h.rest k.rest h.fit k.fit (sym h.text ∙ k.text) h.bad k.bad).0 in
    omega (arith, h.at, k.at, ap length front)
