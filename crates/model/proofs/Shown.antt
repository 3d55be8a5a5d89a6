-- What shows a finding: records of the table, and a cycle only where it has a buffer of its own.
use mathlib.Core.Path.{◌≡◌, refl}
use mathlib.Core.Bool.{cond}
use mathlib.Core.List.{List}
use Prim.Native.Nat.{ℕ}
use Rattle.laws.specs.Least.{Pair}
use Rattle.laws.specs.Witness.{Witness, a_record, a_pair, a_cycle, record_with, pair_with, cycle_with}
use Rattle.laws.proofs.Steps.{Within}
use Rattle.laws.proofs.Fits.{Fits, one_inside, two_inside, cycle_inside, first_inside, second_inside}
use Rattle.findings.specs.declared.Finding.{Finding}
use Rattle.findings.specs.declared.Finding.TheVariants.{R, A1, A2, A3, A4, A5, W}
use Rattle.findings.specs.Family.{in_second}
use Rattle.model.specs.Table.{Table}
use Rattle.model.specs.WellFormed.{WellFormed}
use Rattle.model.specs.Findings.{Shows}
use Rattle.model.proofs.Facts.{read_inside}
use Rattle.model.proofs.Within.{hb_within, race_within, wb0_within, sc_step_within, one_source_within}

module _ {t : Table} (ok : WellFormed t) where
  -- what shows a finding is made of records of the table
  pub witness_fits : (f : Finding) {w : Witness} → Shows t f w → Fits t.count w
  witness_fits R (record_with {n = r} s) = one_inside (read_inside ok r s.reads)
  witness_fits A1 (cycle_with {c = c} s) = cycle_inside (wb0_within ok) c s
  witness_fits A2 (pair_with s) = two_inside ((hb_within ok).left s.before) ((hb_within ok).right s.before)
  witness_fits A3 (pair_with s) = two_inside ((hb_within ok).left s.before) ((hb_within ok).right s.before)
  witness_fits A4 (cycle_with {c = c} s) = cycle_inside (sc_step_within ok) c s
  witness_fits A5 (pair_with s) = two_inside ((one_source_within ok).left s) ((one_source_within ok).right s)
  witness_fits W (pair_with s) = two_inside ((race_within ok).left s.race) ((race_within ok).right s.race)

  pub pair_within : (f : Finding) → Within t.count (λ p q. Shows t f (a_pair (record { first = p; second = q })))
  pair_within f = record { left = λ s. first_inside (witness_fits f s); right = λ s. second_inside (witness_fits f s) }

-- a witness of f that is a cycle is the one of its buffer: that of A1 of the first, that of A4 of the second
pub data Stands (f : Finding) : Witness → Type 0 where
  no_buffer_for_one : {n : ℕ} → Stands f (a_record n)
  no_buffer_for_two : {p : Pair} → Stands f (a_pair p)
  in_its_buffer : {c : List ℕ} → f ≡ cond (in_second f) A4 A1 → Stands f (a_cycle c)

pub stands : (t : Table) (f : Finding) {w : Witness} → Shows t f w → Stands f w
stands t R (record_with s) = no_buffer_for_one
stands t A1 (cycle_with s) = in_its_buffer refl
stands t A2 (pair_with s) = no_buffer_for_two
stands t A3 (pair_with s) = no_buffer_for_two
stands t A4 (cycle_with s) = in_its_buffer refl
stands t A5 (pair_with s) = no_buffer_for_two
stands t W (pair_with s) = no_buffer_for_two
