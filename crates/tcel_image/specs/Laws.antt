-- Laws of the spelling of images.
use Rattle.std.specs.Prelude.{◌≡◌, ℕ, ◌<◌, ◌≤◌, List, [], ◌∷◌, ◌++◌, length, Ok, Err, All}
use Rattle.tcel_image.specs.declared.fault.ImageFail.TheVariants as fails
use Rattle.tcel_image.specs.declared.image.Image.{Image}
use Rattle.tcel_image.specs.Spelling.{spelling, InRange}
use Rattle.tcel_image.specs.Reading.{reading}

-- two images with one spelling are the same image
abbrev pub IsTold : Type 0
IsTold = (i j : Image) → InRange i → InRange j → spelling i ≡ spelling j → i ≡ j

-- no spelling goes on where another ends
abbrev pub IsPrefixFree : Type 0
IsPrefixFree = (i j : Image) (more : List ℕ) → InRange i → InRange j → spelling j ≡ spelling i ++ more → more ≡ []

-- a spelling is read as its image
abbrev pub IsReadAgain : Type 0
IsReadAgain = (i : Image) → InRange i → reading (spelling i) ≡ Ok i

-- nothing but spellings is read
abbrev pub IsReadOnlySo : Type 0
IsReadOnlySo = (bytes : List ℕ) (i : Image) → All (λ b. b < 256) bytes → reading bytes ≡ Ok i → InRange i × (bytes ≡ spelling i)

-- bytes behind a spelling are extra, from the first of them on
abbrev pub IsExtraBehind : Type 0
IsExtraBehind = (i : Image) (b : ℕ) (more : List ℕ) → InRange i → reading (spelling i ++ b ∷ more) ≡ Err (fails.Extra (length (spelling i)))

-- a front of a spelling, of four bytes and more, is short of the rest
abbrev pub IsShortFront : Type 0
IsShortFront = (i : Image) (front : List ℕ) (b : ℕ) (more : List ℕ) → InRange i → spelling i ≡ front ++ b ∷ more → 4 ≤ length front → reading front ≡ Err (fails.Short (length front))
