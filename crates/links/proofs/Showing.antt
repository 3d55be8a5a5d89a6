-- What it is for two records to show a finding.
use mathlib.Core.Path.{◌≡◌, refl, subst}
use mathlib.Core.Bool.{Bool, false}
use lib.Dec.{eqb}
use mathlib.Core.List.{List}
use Prim.Native.Nat.{ℕ, ◌<◌}
use native.Mathlib.Omega.{arith}
use Rattle.laws.specs.Says.{Says}
use Rattle.laws.specs.Least.{Pair}
use Rattle.laws.specs.Witness.{Witness, a_pair, RecordWith, record_with, PairWith, pair_with, CycleWith, cycle_with}
use Rattle.laws.proofs.Says.{says_no, says_eq, says_iff}
use Rattle.model.specs.Table.{Table, IsUpdate, Source, NoSource}
use Rattle.model.specs.Relations.{Conflict, Hb}
use Rattle.model.specs.Findings.{ShowsA3, ShowsA5}
use Rattle.model.proofs.Fields.{absent_to}
use Rattle.model.proofs.Facts.{one_source}
use Rattle.links.specs.Sourced.{FromSource}

-- a pair is no record, and no cycle
module _ {p : Pair} where
  pub no_record : {P : ℕ → Type 0} → ¬ RecordWith P (a_pair p)
  no_record {P} z = go z refl
    where
      go : {w : Witness} → RecordWith P w → ¬ (w ≡ a_pair p)
      go (record_with s) e =
          let z : ◌≡◌ {A = ℕ} 0 1 = cc in
          omega arith

  pub no_cycle : {P : List ℕ → Type 0} → ¬ CycleWith P (a_pair p)
  no_cycle {P} z = go z refl
    where
      go : {w : Witness} → CycleWith P w → ¬ (w ≡ a_pair p)
      go (cycle_with s) e =
          let z : ◌≡◌ {A = ℕ} 0 1 = cc in
          omega arith

pub says_pair : {R : ℕ → ℕ → Type 0} {p q : ℕ} {x : Bool} → Says x (R p q) → Says x (PairWith R (a_pair (record { first = p; second = q })))
says_pair {R} {p} {q} = says_iff pair_with back
  where
    back : PairWith R (a_pair (record { first = p; second = q })) → R p q
    back (pair_with s) = s

-- A3, asked of the later record's source
pub says_A3 :
    {t : Table} {p q : ℕ} {x : Bool} → Says x (FromSource t (λ s r. Hb t r q × FromSource t (Conflict t) r s) q p) → Says x (ShowsA3 t p q)
says_A3 =
    says_iff
    (λ z. record { before = z.related.0; s' = z.related.1.s; s = z.s; source' = z.related.1.source; source = z.source; conflict = z.related.1.related })
    (λ z. record { s = z.s; source = z.source; related = (z.before, record { s = z.s'; source = z.source'; related = z.conflict }) })

-- whether a record has a certain source
pub says_the_source : {t : Table} {of s r : ℕ} → Source t of r → Says (eqb of s) (Source t s r)
says_the_source {t} {of} {s} {r} source =
    says_iff (λ e. subst (λ (x : ℕ). Source t x r) e source) (λ z. one_source t source z) (says_eq of s)

pub says_never_source : {t : Table} {s r : ℕ} → NoSource t r → Says false (Source t s r)
says_never_source none = says_no (λ z. absent_to none z.is)

-- A5, asked of the earlier update's source
pub says_A5 :
    {t : Table} {p q : ℕ} {x : Bool} → Says x (FromSource t (λ s b. ((((p < b) × IsUpdate t p) × IsUpdate t b) × Source t s b) × ¬ Conflict t p b) p q)
    → Says x (ShowsA5 t p q)
says_A5 =
    says_iff
    (λ z.
    let ((((in_order, update_p), update_q), source_q), no_conflict) = z.related in
    record { in_order = in_order; update_p = update_p; update_q = update_q; s = z.s; source_p = z.source; source_q = source_q; no_conflict = no_conflict })
    (λ z. record { s = z.s; source = z.source_p; related = ((((z.in_order, z.update_p), z.update_q), z.source_q), z.no_conflict) })
