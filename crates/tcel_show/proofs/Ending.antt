-- A text that was put from its start.
use Rattle.std.proofs.Common.{◌≡◌, ℕ, Result, Ok, Err, false, List, [], ◌∷◌, ◌++◌, refl, sym, ap, ◌∙◌}
use Rattle.std.specs.Prelude.{if◌then◌else◌, flat_map, map, IfOk}
use Rattle.std.proofs.lemmas.List.{append-nil}
use Rattle.tcel_token.specs.declared.keyword.Keyword.{Keyword}
use Rattle.tcel_token.specs.declared.sign.Sign.{Sign}
use Rattle.tcel_token.specs.declared.token.TokenKind.{TokenKind}
use Rattle.tcel_show.specs.declared.writer.Before.{Before}
use Rattle.tcel_show.specs.declared.writer.Writer.{Writer}
use Rattle.tcel_show.specs.Layout.{Layout, start, laid, behind, behind_all, is_nothing, kind_before, minus_before, sign_before, whole_text}
use Rattle.tcel_show.specs.Puts.{Puts, layout}
use Rattle.tcel_show.specs.Canonical.{task_tokens}
use Rattle.tcel_show.specs.Text.{canonical_text}
use Rattle.tcel_tree.specs.declared.task.Task as tree
use Rattle.tcel_tree.specs.Plain.{plain_task}
use Rattle.tcel_show.proofs.Putting.{flat_map_map}

minus_some : (b : Before) → is_nothing (minus_before b) ≡ false
minus_some Before.Operand = refl
minus_some _ = refl

sign_some : (b : Before) (s : Sign) → is_nothing (sign_before b s) ≡ false
sign_some b Sign.Minus = minus_some b
sign_some b _ = refl

word_some : (b : Before) (w : Keyword) → is_nothing (kind_before b (TokenKind.Word w)) ≡ false
word_some b Keyword.True = refl
word_some b _ = refl

pub kind_some : (b : Before) (kind : TokenKind) → is_nothing (kind_before b kind) ≡ false
kind_some b (TokenKind.Word w) = word_some b w
kind_some b (TokenKind.Name name) = refl
kind_some b (TokenKind.Number n) = refl
kind_some b (TokenKind.Sign s) = sign_some b s

-- behind a token something stands
behind_some : (kinds : List TokenKind) (kind : TokenKind) (l : Layout) → is_nothing (behind_all l (kind ∷ kinds)).before ≡ false
behind_some [] kind l = kind_some l.before kind
behind_some (k ∷ kinds) kind l = behind_some kinds k (behind l kind)

-- the text is whole once its last line ends
pub put_whole : (a b : Writer) (kinds : List TokenKind) → a.text.items ≡ [] → layout a ≡ start → Puts a b kinds →
    (if is_nothing b.before then b.text.items else b.text.items ++ 10 ∷ []) ≡ whole_text kinds
put_whole a b [] empty first p =
    let nothing = ap (λ (l : Layout). is_nothing l.before) (p.layout ∙ first) in
    let text : b.text.items ≡ [] = p.text ∙ append-nil a.text.items ∙ empty in
    rw (nothing, text) refl
put_whole a b (k ∷ kinds) empty first p =
    let some = ap (λ (l : Layout). is_nothing l.before) p.layout ∙ behind_some kinds k (layout a) in
    let text : b.text.items ≡ laid start (k ∷ kinds) =
    p.text ∙ ap (λ (xs : List ℕ). xs ++ laid (layout a) (k ∷ kinds)) empty ∙ ap (λ (l : Layout). laid l (k ∷ kinds)) first
    in
    rw (some, text) refl

-- the text of a program whose tasks were put
pub put_program : {a b : Writer} {text : List ℕ} (tasks slice : List tree.Task) → a.text.items ≡ [] → a.depth ≡ 0 → a.before ≡ Before.Nothing →
    slice ≡ tasks → Puts a b (flat_map (λ t. task_tokens (plain_task t)) slice) →
    text ≡ (if is_nothing b.before then b.text.items else b.text.items ++ 10 ∷ []) → text ≡ canonical_text (map plain_task tasks)
put_program {a} {b} tasks slice empty depth before same p text =
    let first : layout a ≡ start = cc in
    text ∙ put_whole a b _ empty first p ∙ ap whole_text (ap (flat_map (λ t. task_tokens (plain_task t))) same ∙ sym (flat_map_map task_tokens plain_task tasks))

pub if_ok : {X E : Type 0} {P Q : X → Type 0} (r : Result X E) → ((x : X) → P x → Q x) → IfOk r P → IfOk r Q
if_ok (Ok x) f p = f x p
if_ok (Err e) f p = tt
