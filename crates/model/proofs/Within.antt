-- Each relation of a well-formed table stays inside it; po and hb lead to larger numbers; a cycle has no more records than the table.
use Prim.Native.Nat.{ℕ, ◌<◌}
use native.Mathlib.Omega.{arith}
use Rattle.laws.proofs.Steps.{Within, plus_within, plus_rises}
use Rattle.model.specs.Table.{Table, Inside, Parent, Source}
use Rattle.model.specs.Relations.{Po, AtOrAbove, equal, above, Sw, PoOrSw, by_po, by_sw, Hb, Race, Wb0, ScStep}
use Rattle.model.specs.WellFormed.{WellFormed}
use Rattle.model.specs.Findings.{ShowsA5}
use Rattle.model.proofs.Facts.{location_left, location_right, write_inside, sc_inside, parent_inside, parent_earlier, source_inside, source_is_earlier_write}

-- what comes with a relation that stays inside stays inside
pub within_by : {n : ℕ} {R S : ℕ → ℕ → Type 0} → ((a b : ℕ) → S a b → R a b) → Within n R → Within n S
within_by f w = record { left = λ {a} {b} s. w.left (f a b s); right = λ {a} {b} s. w.right (f a b s) }

module _ {t : Table} (ok : WellFormed t) where
  pub parent_within : Within t.count (Parent t)
  parent_within =
      record { left = λ {a} {b} e. omega (arith, parent_inside ok a b e, parent_earlier ok a b e); right = λ {a} {b} e. parent_inside ok a b e }

  pub po_within : Within t.count (Po t)
  po_within = plus_within parent_within

  pub source_within : Within t.count (Source t)
  source_within =
      record { left = λ {a} c. write_inside ok a (source_is_earlier_write ok c).write; right = λ c. source_inside ok c }

  pub sw_within : Within t.count (Sw t)
  sw_within = within_by (λ a b s. s.source) source_within

  pub po_or_sw_within : Within t.count (PoOrSw t)
  po_or_sw_within = record { left = left; right = right }
    where
      left : {a b : ℕ} → PoOrSw t a b → Inside t a
      left (by_po u) = po_within.left u
      left (by_sw s) = sw_within.left s

      right : {a b : ℕ} → PoOrSw t a b → Inside t b
      right (by_po u) = po_within.right u
      right (by_sw s) = sw_within.right s

  pub hb_within : Within t.count (Hb t)
  hb_within = plus_within po_or_sw_within

  pub above_within : Within t.count (AtOrAbove t)
  above_within = record { left = left; right = right }
    where
      left : {a b : ℕ} → AtOrAbove t a b → Inside t a
      left (equal h) = h
      left (above u) = po_within.left u

      right : {a b : ℕ} → AtOrAbove t a b → Inside t b
      right (equal h) = h
      right (above u) = po_within.right u

  pub race_within : Within t.count (Race t)
  race_within =
      record { left = λ {a} {b} r. location_left ok a b r.one_location; right = λ {a} {b} r. location_right ok a b r.one_location }

  pub wb0_within : Within t.count (Wb0 t)
  wb0_within = record { left = λ {a} s. write_inside ok a s.write; right = λ {a} {b} s. write_inside ok b s.write' }

  pub sc_step_within : Within t.count (ScStep t)
  sc_step_within = record { left = λ {a} s. sc_inside ok a s.sc_a; right = λ {a} {b} s. sc_inside ok b s.sc_b }

  pub one_source_within : Within t.count (ShowsA5 t)
  one_source_within =
      record { left = λ s. source_within.right s.source_p; right = λ s. source_within.right s.source_q }

  -- ---- po and hb lead to larger numbers

  pub po_rises : {a b : ℕ} → Po t a b → a < b
  po_rises = plus_rises (parent_earlier ok)

  pub hb_rises : {a b : ℕ} → Hb t a b → a < b
  hb_rises = plus_rises by
    where
      by : (a b : ℕ) → PoOrSw t a b → a < b
      by a b (by_po u) = po_rises u
      by a b (by_sw s) = (source_is_earlier_write ok s.source).earlier
