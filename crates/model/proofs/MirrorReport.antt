-- The mirror's witness of each finding, in the order of the report, is on a well-formed table the one that the definitions ask for.
use Rattle.std.specs.Prelude.{Option, None}
use mathlib.Core.List.{List, [], ◌∷◌}
use lib.ListN.{get_or}
use Rattle.findings.specs.declared.Finding.{Finding}
use Rattle.findings.specs.declared.Finding.TheVariants.{R, A1, A2, A3, A4, A5, W}
use Rattle.findings.specs.Family.{place_of}
use Rattle.laws.specs.Witness.{Witness, a_record, a_pair, a_cycle, LeastWitness}
use Rattle.laws.proofs.Witness.{sorted, least_record, least_pair, least_cycle}
use Rattle.model.specs.Table.{Table}
use Rattle.model.specs.WellFormed.{WellFormed}
use Rattle.model.specs.Findings.{Shows}
use Rattle.model.proofs.Facts.{read_inside}
use Rattle.model.proofs.Within.{within_by, hb_within, race_within, wb0_within, sc_step_within, one_source_within}
use Rattle.model.proofs.MirrorRows.{Rows, rows, look, plus, plus_tells}
use Rattle.model.proofs.Search.{first_below, first_pair, first_least, first_pair_least}
use Rattle.model.proofs.Cycles.{first_cycle, cycle_least}
use Rattle.model.proofs.Mirror.{po_rows, conflict?, po_or_sw?, race?, wb0?, sc_step?, conflict_rows, hb_rows, race_rows, shows_r?, shows_a2?, shows_a3?, shows_a5?, shows_w?}
use Rattle.model.proofs.MirrorTells.{po_tells, conflict_told, hb_told, race_told, A2_tells, A3_tells, A5_tells, wb0_tells, says_R, W_tells, sc_tells}

unfoldable pub mirrored : Table → List (Option Witness)
mirrored t =
    let n = t.count in
    let po = po_rows t in
    let cf = rows n (conflict? t po) in
    let hb = plus n (po_or_sw? t po) in
    let race = rows n (race? t cf hb) in
    let wb0 = rows n (wb0? t hb) in
    let wb = plus n (look wb0) in
    let sc = rows n (sc_step? t po hb wb) in
    sorted a_record (first_below n (shows_r? t hb race))
    ∷ sorted a_cycle (first_cycle n (look wb0))
    ∷ sorted a_pair (first_pair n (shows_a2? t cf hb))
    ∷ sorted a_pair (first_pair n (shows_a3? t cf hb))
    ∷ sorted a_cycle (first_cycle n (look sc))
    ∷ sorted a_pair (first_pair n (shows_a5? t cf))
    ∷ sorted a_pair (first_pair n (shows_w? t race))
    ∷ []

module _ {t : Table} (ok : WellFormed t) where
  abbrev hb : Rows
  hb = hb_rows t

  abbrev cf : Rows
  cf = conflict_rows t

  abbrev race : Rows
  race = race_rows t

  abbrev wb : Rows
  wb = plus t.count (look (rows t.count (wb0? t hb)))

  pub mirrored_least : (f : Finding) → LeastWitness (Shows t f) (get_or (mirrored t) (place_of f) None)
  unfolding mirrored
  mirrored_least R =
      least_record
      (first_least t.count (λ r c. read_inside ok r c.reads) (says_R ok hb (hb_told ok) race (race_told ok)))
  mirrored_least A1 = least_cycle (cycle_least (wb0_tells ok hb (hb_told ok)) (wb0_within ok))
  mirrored_least A2 =
      least_pair
      (first_pair_least (A2_tells ok cf hb (conflict_told ok) (hb_told ok)) (within_by (λ p q s. s.before) (hb_within ok)))
  mirrored_least A3 =
      least_pair
      (first_pair_least (A3_tells ok cf hb (conflict_told ok) (hb_told ok)) (within_by (λ p q s. s.before) (hb_within ok)))
  mirrored_least A4 =
      let wb_ok = plus_tells (wb0_tells ok hb (hb_told ok)) (wb0_within ok) in
      least_cycle
      (cycle_least (sc_tells ok (po_rows t) hb wb (po_tells ok) (hb_told ok) wb_ok) (sc_step_within ok))
  mirrored_least A5 =
      least_pair (first_pair_least (A5_tells ok cf hb (conflict_told ok) (hb_told ok)) (one_source_within ok))
  mirrored_least W =
      least_pair
      (first_pair_least (W_tells ok hb (hb_told ok) race (race_told ok)) (within_by (λ p q s. s.race) (race_within ok)))
