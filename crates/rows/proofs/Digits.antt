-- The bits of a word. The operations on words work bit by bit, whatever the words.
use mathlib.Core.Path.{◌≡◌, refl, ap, ap₂, ◌∙◌}
use mathlib.Core.Logic.{◌⊎◌, inl, inr, ⊎_elim}
use Prim.Native.Nat.{ℕ, zero, suc, ◌+◌, ◌-◌, ◌*◌, ◌/◌, ◌%◌, ◌^◌, ◌<◌}
use native.Mathlib.Nat.{mod-lt, div-eq_of_lt, zero-lt-suc, one-mul}
use mir.Syntax.{w64}
use Rattle.std.proofs.lemmas.Nat.Bits.{bit_at-zero, bit_at_not}
use native.Mathlib.Omega.{arith}
use lib.Bits.{bit_and, bit_or, or_shr, or_mod, and_shr, and_mod, shifted_even}
use lib.Pow.{pow-add, pow-lt, shl_exact, shl-shr, shr-shr}
use Rattle.laws.proofs.Closure.{tri}
use Rattle.rows.specs.Sets.{digit}

-- a bit is 1 where P holds, else 0
pub data Bit (P : Type 0) (x : ℕ) : Type 0 where
  on : x ≡ 1 → P → Bit P x
  off : x ≡ 0 → ¬ P → Bit P x

pub bit_iff : {P Q : Type 0} {x : ℕ} → (P → Q) → (Q → P) → Bit P x → Bit Q x
bit_iff f g (on e p) = on e (f p)
bit_iff f g (off e n) = off e (λ q. n (g q))

pub bit_at : {P : Type 0} {x y : ℕ} → y ≡ x → Bit P x → Bit P y
bit_at e (on h p) = on (e ∙ h) p
bit_at e (off h n) = off (e ∙ h) n

-- what a bit that is 1 says
pub bit_yes : {P : Type 0} {x : ℕ} → Bit P x → x ≡ 1 → P
bit_yes (on e p) h = p
bit_yes (off e n) h = absurd (omega arith)

pub bit_is : {P : Type 0} {x : ℕ} → Bit P x → P → x ≡ 1
bit_is (on e p) q = e
bit_is (off e n) q = absurd (n q)

-- a bit is 0 or 1
pub digit_is : (x i : ℕ) → Bit (digit x i ≡ 1) (digit x i)
digit_is x i = by (digit x i) (mod-lt (x / 2 ^ i) (zero-lt-suc 1))
  where
    by : (d : ℕ) → d < 2 → Bit (d ≡ 1) d
    by zero l = off refl (λ e. omega (arith, e))
    by (suc zero) l = on refl refl
    by (suc (suc d)) l = absurd (omega arith)

pub digit_dec : (x i : ℕ) → Dec (digit x i ≡ 1)
digit_dec x i = by (digit_is x i)
  where
    by : Bit (digit x i ≡ 1) (digit x i) → Dec (digit x i ≡ 1)
    by (on e p) = yes p
    by (off e n) = no n

-- the bits from s on
pub digit_shr : (x s i : ℕ) → digit (x / 2 ^ s) i ≡ digit x (s + i)
digit_shr x s i = ap (λ (z : ℕ). z % 2) (shr-shr x s i)

module _ {P Q : Type 0} (x y i : ℕ) (p : Bit P (digit x i)) (q : Bit Q (digit y i)) where
  pub digit_or : Bit (P ⊎ Q) (digit (bit_or x y) i)
  digit_or = bit_at (ap (λ (z : ℕ). z % 2) (or_shr x y i) ∙ or_mod (x / 2 ^ i) (y / 2 ^ i) 1) (by p q)
    where
      by : {d e : ℕ} → Bit P d → Bit Q e → Bit (P ⊎ Q) (bit_or d e)
      by (on e p) (on h q) = on (ap₂ bit_or e h) (inl p)
      by (on e p) (off h q) = on (ap₂ bit_or e h) (inl p)
      by (off e p) (on h q) = on (ap₂ bit_or e h) (inr q)
      by (off e p) (off h q) = off (ap₂ bit_or e h) (⊎_elim p q)

  pub digit_and : Bit (P × Q) (digit (bit_and x y) i)
  digit_and = bit_at (ap (λ (z : ℕ). z % 2) (and_shr x y i) ∙ and_mod (x / 2 ^ i) (y / 2 ^ i) 1) (by p q)
    where
      by : {d e : ℕ} → Bit P d → Bit Q e → Bit (P × Q) (bit_and d e)
      by (on e p) (on h q) = on (ap₂ bit_and e h) (p, q)
      by (on e p) (off h q) = off (ap₂ bit_and e h) (λ z. q z.1)
      by (off e p) (on h q) = off (ap₂ bit_and e h) (λ z. p z.0)
      by (off e p) (off h q) = off (ap₂ bit_and e h) (λ z. p z.0)

-- `x & !y`
pub digit_less :
    {P Q : Type 0} (x y i : ℕ) → Bit P (digit x i) → Bit Q (digit y i) → y < 2 ^ 64 → i < 64 → Bit (P × (¬ Q)) (digit (bit_and x (2 ^ 64 - 1 - y)) i)
digit_less x y i p q fits low = digit_and x (2 ^ 64 - 1 - y) i p (not_of q)
  where
    not_of : {Q : Type 0} → Bit Q (digit y i) → Bit (¬ Q) (digit (2 ^ 64 - 1 - y) i)
    not_of (on e q) = off (bit_at_not w64 y i fits low ∙ ap (λ (z : ℕ). 1 - z) e) (λ n. n q)
    not_of (off e n) = on (bit_at_not w64 y i fits low ∙ ap (λ (z : ℕ). 1 - z) e) n

pub never_in_zero : (i : ℕ) → ¬ (digit 0 i ≡ 1)
never_in_zero i e = let z = bit_at-zero i in omega (arith, z, e)

-- `1 << s`
pub digit_one : (s i : ℕ) → s < 64 → Bit (i ≡ s) (digit (1 * 2 ^ s % 2 ^ 64) i)
digit_one s i l =
    bit_at (ap (λ (z : ℕ). digit z i) (shl_exact {a = 1} 1 s 64 (omega arith) (omega arith)))
    (tri i s (λ h. off (low (s - suc i) (omega arith)) (λ e. omega (arith, e)))
    (λ e. on (ap (digit (1 * 2 ^ s)) e ∙ ap (λ (z : ℕ). z % 2) (shl-shr 1 s)) e)
    (λ h. off (ap (λ (z : ℕ). z % 2) (div-eq_of_lt (rw one-mul (pow-lt h)))) (λ e. omega (arith, e))))
  where
    low : (d : ℕ) → s ≡ suc d + i → digit (1 * 2 ^ s) i ≡ 0
    low d e =
        ap (λ (z : ℕ). z % 2)
        (ap (λ (z : ℕ). 1 * 2 ^ z / 2 ^ i) e ∙ rw (one-mul, pow-add) (shl-shr (2 ^ suc d) i))
        ∙ (rw one-mul at (shifted_even 1 d))
