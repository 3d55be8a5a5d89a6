-- Those that took from each source so far.
use mathlib.Core.Path.{◌≡◌}
use mathlib.Core.List.{List}
use mathlib.Core.Logic.{◌⊎◌}
use Prim.Native.Nat.{ℕ, ◌+◌}
use native.Mathlib.Omega.{arith}
use Rattle.rows.proofs.Noted.{below_or}
use Rattle.pairs.specs.Tokens.{Taken}

module _ {kind source : List ℕ} {q : ℕ} where
  pub taken_up : (p s : ℕ) → Taken q kind source p s → Taken (q + 1) kind source p s
  taken_up p s t = record { low = omega (arith, t.low); takes = t.takes; from = t.from }

  pub taken_down : (p s : ℕ) → Taken (q + 1) kind source p s → Taken q kind source p s ⊎ (p ≡ q)
  taken_down p s t = below_or p q t.low (λ l. record { low = l; takes = t.takes; from = t.from })
