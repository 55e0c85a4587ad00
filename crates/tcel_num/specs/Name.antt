-- Names of tasks, variables and ports.
use Rattle.std.specs.Prelude.{◌≡◌, ◌≤◌, ◌==◌, ◌||◌, ◌&&◌, ℕ, Bool, true, false, List, [], ◌∷◌, length, nat_le, nat_eq, codes}
use Rattle.std.specs.List.{list_any, list_all}
use Rattle.std.specs.Cmp.Lexicographic.{pointwise}

-- a letter or an underscore
abbrev pub may_start : ℕ → Bool
may_start b = (nat_le 97 b && nat_le b 122) || ((nat_le 65 b && nat_le b 90) || b == 95)

-- a letter, an underscore or a digit
abbrev pub may_follow : ℕ → Bool
may_follow b = may_start b || (nat_le 48 b && nat_le b 57)

-- a letter or an underscore, then letters, digits and underscores
abbrev pub is_word : List ℕ → Bool
is_word [] = false
is_word (b ∷ bs) = may_start b && list_all may_follow bs

-- the words of the language, which are no names
abbrev pub reserved_words : List (List ℕ)
reserved_words =
    codes "task" ∷ codes "priority" ∷ codes "input" ∷ codes "output" ∷ codes "state" ∷ codes "local" ∷ codes "int" ∷ codes "bool"
    ∷ codes "every" ∷ codes "finish" ∷ codes "within" ∷ codes "start" ∷ codes "after" ∷ codes "before" ∷ codes "do" ∷ codes "receive"
    ∷ codes "from" ∷ codes "send" ∷ codes "to" ∷ codes "if" ∷ codes "else" ∷ codes "for" ∷ codes "while" ∷ codes "limit"
    ∷ codes "true" ∷ codes "false" ∷ codes "and" ∷ codes "or" ∷ codes "not" ∷ []

-- one of the reserved words
abbrev pub is_reserved : List ℕ → Bool
is_reserved bytes = list_any (pointwise nat_eq bytes) reserved_words

-- a word of 1 to 32 bytes that isn't reserved
pub record IsName (bytes : List ℕ) : Type 0 where
  pub word : is_word bytes ≡ true
  pub short : length bytes ≤ 32
  pub free : is_reserved bytes ≡ false
