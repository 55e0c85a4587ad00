-- The words of a task's states, in its image and in its frames.
use Rattle.std.proofs.Common.{◌≡◌, ℕ, ◌+◌, cond, List, [], ◌∷◌, ◌++◌, map, refl, sym, ap, ◌∙◌, arith}
use Rattle.std.specs.Prelude.{filter}
use Rattle.std.specs.List.{flat_map}
use Rattle.std.proofs.lemmas.Bool.{cond_both}
use Rattle.std.proofs.lemmas.List.Sums.{sum_by-cons}
use Rattle.tcel_core.specs.declared.var.Var.{Var}
use Rattle.tcel_core.specs.Cells.{words_of}
use Rattle.tcel_core.specs.Frames.{is_state, first_words, declared_state, state_words}
use Rattle.tcel_image.specs.declared.image.ImageState.{ImageState}
use Rattle.tcel_image.specs.Spelling.{state_words as image_words}
use Rattle.tcel_code.specs.Layout.{state_of, states_of}

-- the image's states hold the declared values
pub states_first : (vars : List Var) → flat_map (λ (s : ImageState). s.first) (states_of vars) ≡ declared_state vars
states_first [] = refl
states_first (v ∷ vs) =
    let rest = states_first vs in
    cond_both (is_state v.keep) (v ∷ filter (λ (v : Var). is_state v.keep) vs) (filter (λ (v : Var). is_state v.keep) vs)
    (λ kept. flat_map (λ (s : ImageState). s.first) (map state_of kept) ≡ cond (is_state v.keep) (first_words v.kind v.first) [] ++ declared_state vs)
    (λ is. ap (λ l. first_words v.kind v.first ++ l) rest ∙ ap (λ b. cond b (first_words v.kind v.first) [] ++ declared_state vs) (sym is))
    (λ is. rest ∙ ap (λ b. cond b (first_words v.kind v.first) [] ++ declared_state vs) (sym is))

-- the image counts the words of its states as the frames do
pub states_words : (vars : List Var) → image_words (states_of vars) ≡ state_words vars
states_words [] = refl
states_words (v ∷ vs) =
    let rest = states_words vs in
    let words : ImageState → ℕ = λ s. s.words in
    cond_both (is_state v.keep) (v ∷ filter (λ (v : Var). is_state v.keep) vs) (filter (λ (v : Var). is_state v.keep) vs)
    (λ kept. image_words (map state_of kept) ≡ cond (is_state v.keep) (words_of v.kind) 0 + state_words vs)
    (λ is. sum_by-cons words (state_of v) (states_of vs) ∙ ap (λ n. words_of v.kind + n) rest ∙ ap (λ b. cond b (words_of v.kind) 0 + state_words vs) (sym is))
    (λ is. rest ∙ omega arith ∙ ap (λ b. cond b (words_of v.kind) 0 + state_words vs) (sym is))
