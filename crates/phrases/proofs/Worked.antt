-- The line that document 02 writes out, byte for byte.
use mathlib.Core.Path.{◌≡◌, refl}
use mathlib.Core.List.{[], ◌∷◌}
use Rattle.refusals.specs.declared.Fault.TheVariants.{Rest}
use Rattle.refusals.specs.declared.Refusal.TheVariants.{Length, Record}
use Rattle.refusals.specs.Numbers.{told}
use Rattle.text.specs.Text.{digits, decimal}
use Rattle.phrases.specs.Phrases.{refused_text}

-- "refused 4 at 17 byte 9"
pub byte_9_of_17 :
    refused_text (told (Record (Rest 9) 17)) ≡ 114 ∷ 101 ∷ 102 ∷ 117 ∷ 115 ∷ 101 ∷ 100 ∷ 32 ∷ 52 ∷ 32 ∷ 97 ∷ 116 ∷ 32 ∷ 49 ∷ 55 ∷ 32 ∷ 98 ∷ 121 ∷ 116 ∷ 101 ∷ 32 ∷ 57 ∷ 10 ∷ []
unfolding digits decimal refused_text
byte_9_of_17 = refl

-- "refused 1 at 0": no byte is named
pub no_byte_of_length :
    refused_text (told Length) ≡ 114 ∷ 101 ∷ 102 ∷ 117 ∷ 115 ∷ 101 ∷ 100 ∷ 32 ∷ 49 ∷ 32 ∷ 97 ∷ 116 ∷ 32 ∷ 48 ∷ 10 ∷ []
unfolding digits decimal refused_text
no_byte_of_length = refl
