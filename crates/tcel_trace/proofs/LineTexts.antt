-- A line is read as what it is the text of.
use Rattle.std.proofs.Common.{◌≡◌, ℕ, ℤ, ◌<◌, ◌^◌, Bool, true, false, List, ◌∷◌, ◌++◌, Option, Some, None, refl, ap, ◌∙◌}
use Rattle.std.specs.Prelude.{codes, option_map, option_and_then, FitsSigned}
use Rattle.std.specs.Int.{w64}
use Rattle.std.specs.Fmt.{decimal, signed_decimal}
use Rattle.std.proofs.lemmas.Option.{cond_some}
use Rattle.std.proofs.lemmas.Slice.Eq.{bytes_eq-Decides}
use Rattle.tcel_num.specs.Name.{IsName}
use Rattle.tcel_trace.specs.declared.trace_line.TraceLine.{TraceLine}
use Rattle.tcel_trace.specs.declared.trace_line.LineWhat.{LineWhat}
use Rattle.tcel_trace.specs.declared.trace_line.LineWhat.TheVariants.{Receive, Send, First, End}
use Rattle.tcel_trace.specs.TraceForm.{WhatFits, LineFits, what_text, body_text}
use Rattle.tcel_trace.specs.Reading.{cut, behind, number_in, signed_in, name_in, are_states, port_in, send_in, event_in, end_or_event_in, what_in, Head, head_of, head_in, line_in}
use Rattle.tcel_script.specs.Script.{same}
use Rattle.tcel_trace.proofs.WordTexts.{number_sound, number_there, signed_sound, signed_there, name_sound, name_there}
use Rattle.tcel_trace.proofs.Cutting.{has, lacks_both, cut_there, cut_sound, behind_sound}
use Rattle.tcel_trace.proofs.StateTexts.{decimal_lacks, signed_lacks, name_lacks, states_sound, states_there, states_lack_feed}

-- what is in front of a result
bound : {A B : Type 0} (f : A → Option B) (o : Option A) (y : B) → option_and_then f o ≡ Some y → (x : A) × (o ≡ Some x) × (f x ≡ Some y)
bound f (Some x) y h = (x, refl, h)
bound f None y h = absurd cc

mapped : {A B : Type 0} (f : A → B) (o : Option A) (y : B) → option_map f o ≡ Some y → (x : A) × (o ≡ Some x) × (f x ≡ y)
mapped f (Some x) y h = (x, refl, cc)
mapped f None y h = absurd cc

-- ---- what a line shows

abbrev port_text : List ℕ → ℤ → List ℕ
port_text port value = port ++ 32 ∷ signed_decimal value

port_sound : (text : List ℕ) (r : List ℕ × ℤ) → port_in text ≡ Some r → IsName r.0 × FitsSigned w64 r.1 × (text ≡ port_text r.0 r.1)
port_sound text r h =
    let parts = bound _ (cut 32 text) r h in
    let port = bound _ (name_in parts.0.0) r parts.2 in
    let value = mapped _ (signed_in parts.0.1) r port.2 in
    let name = name_sound parts.0.0 port.0 port.1 in
    let number = signed_sound parts.0.1 value.0 value.1 in
    let whole : text ≡ port_text port.0 value.0 = cut_sound 32 text parts.0 parts.1 ∙ ap (λ front. front ++ 32 ∷ parts.0.1) name.1 ∙ ap
    (λ more. port.0 ++ 32 ∷ more) number.1 in
    rw (← value.2) (name.0, number.0, whole)

port_there : (port : List ℕ) (value : ℤ) → IsName port → FitsSigned w64 value → port_in (port_text port value) ≡ Some (port, value)
port_there port value named fits =
    rw (cut_there 32 port (signed_decimal value) (name_lacks 32 port refl named), name_there port named, signed_there value fits) refl

-- the text is that of what is read
abbrev IsWhat : List ℕ → LineWhat → Type 0
IsWhat text what = WhatFits what × (text ≡ what_text what)

send_sound : (text : List ℕ) (o : Option (List ℕ)) (what : LineWhat) → ((rest : List ℕ) → o ≡ Some rest → text ≡ codes "send " ++ rest)
    → send_in o ≡ Some what → IsWhat text what
send_sound text None what front h = absurd cc
send_sound text (Some rest) what front h =
    let found = mapped _ (port_in rest) what h in
    let port = port_sound rest found.0 found.1 in
    rw (← found.2) ((port.0, port.1), front rest refl ∙ ap (λ more. codes "send " ++ more) port.2)

event_sound : (text : List ℕ) (o : Option (List ℕ)) (what : LineWhat) → ((rest : List ℕ) → o ≡ Some rest → text ≡ codes "receive " ++ rest)
    → event_in text o ≡ Some what → IsWhat text what
event_sound text None what front h = send_sound text (behind (codes "send ") text) what (λ rest e. behind_sound (codes "send ") text rest e) h
event_sound text (Some rest) what front h =
    let found = mapped _ (port_in rest) what h in
    let port = port_sound rest found.0 found.1 in
    rw (← found.2) ((port.0, port.1), front rest refl ∙ ap (λ more. codes "receive " ++ more) port.2)

end_sound : (text : List ℕ) (o : Option (List ℕ)) (what : LineWhat) → ((rest : List ℕ) → o ≡ Some rest → text ≡ codes "end" ++ rest)
    → end_or_event_in text o ≡ Some what → IsWhat text what
end_sound text None what front h = event_sound text (behind (codes "receive ") text) what (λ rest e. behind_sound (codes "receive ") text rest e) h
end_sound text (Some rest) what front h =
    let chosen = cond_some (are_states rest) (End rest) what h in
    rw (← chosen.1) (states_sound rest chosen.0, front rest refl)

what_sound : (text : List ℕ) (what : LineWhat) → what_in text ≡ Some what → IsWhat text what
what_sound text what h = by_test (same text (codes "first")) refl
  where
    by_test : (b : Bool) → same text (codes "first") ≡ b → IsWhat text what
    by_test true e =
        let is : text ≡ codes "first" = (bytes_eq-Decides text (codes "first")).0 e in
        let read : what_in text ≡ Some First = rw e refl in
        let shown : First ≡ what = cc in
        rw (← shown) (tt, is)
    by_test false e =
        let read : end_or_event_in text (behind (codes "end") text) ≡ Some what = rw e at h in
        end_sound text (behind (codes "end") text) what (λ rest b. behind_sound (codes "end") text rest b) read

what_there : (what : LineWhat) → WhatFits what → what_in (what_text what) ≡ Some what
what_there (Receive port value) fits = rw (port_there port value fits.0 fits.1) refl
what_there (Send port value) fits = rw (port_there port value fits.0 fits.1) refl
what_there First fits = refl
what_there (End state) fits = rw (states_there state fits) refl

-- ---- lines

-- the text in front of what a head leaves
abbrev head_text : Head → List ℕ
head_text head = decimal head.time ++ 32 ∷ (head.task ++ 32 ∷ (decimal head.frame ++ 32 ∷ head.what))

record HeadFits (head : Head) : Type 0 where
  time : head.time < 2 ^ 64
  task : IsName head.task
  frame : head.frame < 2 ^ 64

same_words : (time task frame what t k f : List ℕ) → time ≡ t → task ≡ k → frame ≡ f
    → time ++ 32 ∷ (task ++ 32 ∷ (frame ++ 32 ∷ what)) ≡ t ++ 32 ∷ (k ++ 32 ∷ (f ++ 32 ∷ what))
same_words time task frame what t k f a b c = rw (a, b, c) refl

words_sound : (time task frame what : List ℕ) (head : Head) → head_of time task frame what ≡ Some head
    → HeadFits head × (time ++ 32 ∷ (task ++ 32 ∷ (frame ++ 32 ∷ what)) ≡ head_text head)
words_sound time task frame what head h =
    let a = bound _ (number_in time) head h in
    let b = bound _ (name_in task) head a.2 in
    let c = mapped _ (number_in frame) head b.2 in
    let at = number_sound time a.0 a.1 in
    let of = name_sound task b.0 b.1 in
    let in_frame = number_sound frame c.0 c.1 in
    rw (← c.2) (record { time = at.0; task = of.0; frame = in_frame.0 }, same_words time task frame what (decimal a.0) b.0 (decimal c.0) at.1 of.1 in_frame.1)

head_sound : (text : List ℕ) (head : Head) → head_in text ≡ Some head → HeadFits head × (text ≡ head_text head)
head_sound text head h =
    let a = bound _ (cut 32 text) head h in
    let b = bound _ (cut 32 a.0.1) head a.2 in
    let c = bound _ (cut 32 b.0.1) head b.2 in
    let words = words_sound a.0.0 b.0.0 c.0.0 c.0.1 head c.2 in
    let whole : text ≡ a.0.0 ++ 32 ∷ (b.0.0 ++ 32 ∷ (c.0.0 ++ 32 ∷ c.0.1)) =
    cut_sound 32 text a.0 a.1
    ∙ ap (λ more. a.0.0 ++ 32 ∷ more) (cut_sound 32 a.0.1 b.0 b.1 ∙ ap (λ more. b.0.0 ++ 32 ∷ more) (cut_sound 32 b.0.1 c.0 c.1)) in
    (words.0, whole ∙ words.1)

head_there : (head : Head) → HeadFits head → head_in (head_text head) ≡ Some head
head_there head fits =
    let third = decimal head.frame ++ 32 ∷ head.what in
    let second = head.task ++ 32 ∷ third in
    rw (
      cut_there 32 (decimal head.time) second (decimal_lacks 32 head.time refl fits.time),
      cut_there 32 head.task third (name_lacks 32 head.task refl fits.task),
      cut_there 32 (decimal head.frame) head.what (decimal_lacks 32 head.frame refl fits.frame),
      number_there head.time fits.time,
      name_there head.task fits.task,
      number_there head.frame fits.frame,
    ) refl

pub line_sound : (text : List ℕ) (line : TraceLine) → line_in text ≡ Some line → LineFits line × (text ≡ body_text line)
line_sound text line h =
    let head = bound _ (head_in text) line h in
    let what = mapped _ (what_in head.0.what) line head.2 in
    let front = head_sound text head.0 head.1 in
    let shown = what_sound head.0.what what.0 what.1 in
    rw (← what.2) (
      record { time = front.0.time; task = front.0.task; frame = front.0.frame; what = shown.0 },
      front.1 ∙ ap (λ more. decimal head.0.time ++ 32 ∷ (head.0.task ++ 32 ∷ (decimal head.0.frame ++ 32 ∷ more))) shown.1,
    )

pub line_there : (line : TraceLine) → LineFits line → line_in (body_text line) ≡ Some line
line_there line fits =
    let head : Head = record { time = line.time; task = line.task; frame = line.frame; what = what_text line.what } in
    rw (head_there head (record { time = fits.time; task = fits.task; frame = fits.frame }), what_there line.what fits.what) refl

-- ---- a line ends at its line feed

port_lacks : (port : List ℕ) (value : ℤ) → IsName port → FitsSigned w64 value → has 10 (port_text port value) ≡ false
port_lacks port value named fits = lacks_both 10 port (32 ∷ signed_decimal value) (name_lacks 10 port refl named) (signed_lacks 10 value refl refl fits)

what_lacks : (what : LineWhat) → WhatFits what → has 10 (what_text what) ≡ false
what_lacks (Receive port value) fits = port_lacks port value fits.0 fits.1
what_lacks (Send port value) fits = port_lacks port value fits.0 fits.1
what_lacks First fits = refl
what_lacks (End state) fits = states_lack_feed state fits

pub line_lacks : (line : TraceLine) → LineFits line → has 10 (body_text line) ≡ false
line_lacks line fits =
    let shown = what_text line.what in
    let third = decimal line.frame ++ 32 ∷ shown in
    let second = line.task ++ 32 ∷ third in
    lacks_both 10 (decimal line.time) (32 ∷ second) (decimal_lacks 10 line.time refl fits.time)
    (lacks_both 10 line.task (32 ∷ third) (name_lacks 10 line.task refl fits.task)
    (lacks_both 10 (decimal line.frame) (32 ∷ shown) (decimal_lacks 10 line.frame refl fits.frame) (what_lacks line.what fits.what)))
