-- What was written stands within the buffer.
use mathlib.Core.Path.{◌≡◌, ap, subst}
use mathlib.Core.List.{List}
use Prim.Native.Nat.{ℕ, ◌≤◌}
use native.Mathlib.Omega.{arith}
use lib.ListN.{length, drop, length-append}
use Rattle.std.proofs.Common.{Result, Ok}
use Rattle.refusals.specs.declared.Refusal.{Refusal}
use Rattle.phrases.specs.Handed.{Writes}

module _ {Such : List ℕ → Type 0} where
  length_of : {before after : List ℕ} {len : ℕ} → Writes Such before after (Ok len) → len ≤ length after
  length_of {before} (Writes.written {text = text} {len = len} _ e _ h) =
      omega (arith, e, ap length h, length-append text (drop len before))

  pub length_within : {before after : List ℕ} {x : Result ℕ Refusal} {len : ℕ} → Writes Such before after x → x ≡ Ok len → len ≤ length after
  length_within {before} {after} w e = length_of (subst (Writes Such before after) e w)
