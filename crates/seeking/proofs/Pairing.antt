-- The least pair that rows tell is the least pair that shows a finding.
use mathlib.Core.Path.{sym, subst}
use mathlib.Core.List.{List}
use Prim.Native.Nat.{ℕ, ◌<◌}
use native.Mathlib.Omega.{arith}
use Rattle.laws.specs.Steps.{Rel}
use Rattle.laws.specs.Least.{Least}
use Rattle.laws.specs.Witness.{Witness, PairWith, pair_with}
use Rattle.laws.proofs.Steps.{Within}
use Rattle.findings.specs.declared.Found.{Found}
use Rattle.findings.specs.declared.Found.TheVariants.{Nothing}
use Rattle.findings.specs.Meant.{Finds}
use Rattle.findings.proofs.Meant.{finds_iff, found_no_pair}
use Rattle.rows.specs.Rows.{Cell, Made}
use Rattle.pairs.specs.Tokens.{TwoTaken, TakenTwice}
use Rattle.model.specs.Table.{Table}
use Rattle.model.specs.Findings.{ShowsA2, ShowsA3, ShowsA5, ShowsW}
use Rattle.model.proofs.Within.{within_by, hb_within, race_within, one_source_within}
use Rattle.columns.specs.Columns.{Known}

-- of a matrix whose rows are the pairs of S
pub pair_found :
    {w n : ℕ} {Q S : Rel} {m₀ m : List (List ℕ)} {r : Found} → Made w n Q m₀ m → ((p q : ℕ) → q < n → Q p q → S p q) → ((p q : ℕ) → q < n → S p q → Q p q) → Within n S
    → Finds (PairWith (λ p q. (p < n) × Cell w n m p q)) r → Finds (PairWith S) r
pair_found {w} {n} {Q} {S} {m₀} {m} made to from within = finds_iff (λ z. there) (λ z. back)
  where
    there : {z : Witness} → PairWith (λ p q. (p < n) × Cell w n m p q) z → PairWith S z
    there (pair_with {p = p} (l, c)) = pair_with (to _ _ c.row (made.holds.only _ _ c.row c.on))

    back : {z : Witness} → PairWith S z → PairWith (λ p q. (p < n) × Cell w n m p q) z
    back (pair_with {p = p} s) =
        let l = within.right s in
        pair_with (within.left s, record { row = l; on = made.holds.all _ _ l (from _ _ l s) })

-- where no pair is one of S
pub no_pair_found : {n : ℕ} {S : Rel} → ((p q : ℕ) → q < n → ¬ S p q) → Within n S → Finds (PairWith S) Nothing
no_pair_found never within = found_no_pair (Least.absent (λ z s. never z.first z.second (within.right s) s))

-- told by another relation
pub taken_by : {kind source : List ℕ} {A B : Rel} {p q : ℕ} → (B p q → A p q) → TwoTaken kind source A p q → TwoTaken kind source B p q
taken_by f x =
    record { in_order = x.in_order; takes_p = x.takes_p; takes_q = x.takes_q; s = x.s; from_p = x.from_p; from_q = x.from_q; apart = λ b. x.apart (f b) }

-- two that the relation keeps apart are two
pub two_twice : {n p q : ℕ} {kind source : List ℕ} {A : Rel} → q < n → TwoTaken kind source A p q → TakenTwice n kind source
two_twice l x = record {
  s = x.s;
  p = _;
  q = _;
  in_order = x.in_order;
  by_p = record { low = omega (arith, l, x.in_order); takes = x.takes_p; from = x.from_p };
  by_q = record { low = l; takes = x.takes_q; from = x.from_q };
}

module _ {t : Table} {n : ℕ} (k : Known t n) where
  within_known : {R : Rel} → Within t.count R → Within n R
  within_known {R} = subst (λ (c : ℕ). Within c R) (sym k.all)

  pub a2_within : Within n (ShowsA2 t)
  a2_within = within_by (λ p q s. s.before) (within_known (hb_within k.formed))

  pub a3_within : Within n (ShowsA3 t)
  a3_within = within_by (λ p q s. s.before) (within_known (hb_within k.formed))

  pub a5_within : Within n (ShowsA5 t)
  a5_within = within_known (one_source_within k.formed)

  pub w_within : Within n (ShowsW t)
  w_within = within_by (λ p q s. s.race) (within_known (race_within k.formed))
