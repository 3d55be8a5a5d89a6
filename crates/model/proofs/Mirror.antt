-- The definitions' computed mirror: each relation, and each finding that is no cycle, as a test over record numbers. Nobody has to
-- believe it: MirrorTells proves that each test tells its definition.
use Rattle.std.specs.Prelude.{None, Some}
use mathlib.Core.Bool.{Bool, not, ◌&&◌, ◌||◌}
use Prim.Native.Nat.{ℕ}
use lib.Dec.{eqb, ltb}
use Rattle.laws.specs.Says.{any_below}
use Rattle.model.specs.Table.{Table, thread}
use Rattle.model.proofs.Fields.{same_link, read?, write?, update?, na?, sc?, acquiring?, releasing?, at_one_location?, source_that}
use Rattle.model.proofs.MirrorRows.{Rows, rows, look, plus}

module _ (t : Table) where
  abbrev pub parent? : ℕ → ℕ → Bool
  parent? p n = same_link (t.at n).parent (Some p)

  abbrev pub source? : ℕ → ℕ → Bool
  source? s r = read? t r && same_link (t.at r).source (Some s)

  abbrev pub no_source? : ℕ → Bool
  no_source? r = same_link (t.at r).source None

  -- ---- the relations, over the rows of those before

  abbrev pub po_rows : Rows
  po_rows = plus t.count parent?

  abbrev pub at_or_above? : Rows → ℕ → ℕ → Bool
  at_or_above? po a b = eqb a b || look po a b

  abbrev pub apart? : Rows → ℕ → ℕ → Bool
  apart? po a b = eqb (thread t a) (thread t b) && (not (eqb a b) && (not (look po a b) && not (look po b a)))

  abbrev pub conflict? : Rows → ℕ → ℕ → Bool
  conflict? po a b =
      any_below (λ x. at_or_above? po x a && any_below (λ y. at_or_above? po y b && apart? po x y) t.count) t.count

  abbrev pub conflict_rows : Rows
  conflict_rows = let po = po_rows in rows t.count (conflict? po)

  abbrev pub sw? : ℕ → ℕ → Bool
  sw? s r = source? s r && (releasing? t s && acquiring? t r)

  abbrev pub po_or_sw? : Rows → ℕ → ℕ → Bool
  po_or_sw? po a b = look po a b || sw? a b

  abbrev pub hb_rows : Rows
  hb_rows = let po = po_rows in plus t.count (po_or_sw? po)

  abbrev pub race? : Rows → Rows → ℕ → ℕ → Bool
  race? cf hb a b =
      not (eqb a b) && (at_one_location? t a b && ((write? t a || write? t b) && ((na? t a || na? t b) && (not (look hb a b) && (not (look hb b a) && not (look cf a b))))))

  abbrev pub race_rows : Rows
  race_rows =
      let cf = conflict_rows in
      let hb = hb_rows in
      rows t.count (race? cf hb)

  abbrev pub write_or_reader? : ℕ → ℕ → Bool
  write_or_reader? w x = eqb w x || source? w x

  abbrev pub wb0? : Rows → ℕ → ℕ → Bool
  wb0? hb w w' =
      write? t w && (write? t w' && (not (eqb w w') && (at_one_location? t w w' && any_below (λ x. write_or_reader? w x && any_below (λ y. write_or_reader? w' y && look hb x y) t.count) t.count)))

  abbrev pub fr? : Rows → ℕ → ℕ → Bool
  fr? wb r w = not (eqb r w) && source_that t r (λ s. look wb s w)

  abbrev pub po_diff? : Rows → ℕ → ℕ → Bool
  po_diff? po a b = look po a b && not (at_one_location? t a b)

  abbrev pub po_hb_po? : Rows → Rows → ℕ → ℕ → Bool
  po_hb_po? po hb a b =
      any_below (λ c. po_diff? po a c && any_below (λ d. look hb c d && po_diff? po d b) t.count) t.count

  abbrev pub hbsc? : Rows → Rows → ℕ → ℕ → Bool
  hbsc? po hb a b = (look hb a b && at_one_location? t a b) || (po_diff? po a b || po_hb_po? po hb a b)

  abbrev pub sc_step? : Rows → Rows → Rows → ℕ → ℕ → Bool
  sc_step? po hb wb a b = sc? t a && (sc? t b && (hbsc? po hb a b || (look wb a b || fr? wb a b)))

  -- ---- the findings

  abbrev pub earlier_race? : Rows → ℕ → Bool
  earlier_race? race r = any_below (λ w. write? t w && look race w r) r

  abbrev pub write_before? : Rows → ℕ → Bool
  write_before? hb r = any_below (λ w. write? t w && (at_one_location? t w r && look hb w r)) t.count

  abbrev pub justified? : Rows → Rows → ℕ → Bool
  justified? hb race r =
      source_that t r (λ s. look hb s r && not (earlier_race? race r))
      || ((no_source? r && not (write_before? hb r)) || (no_source? r && earlier_race? race r))

  abbrev pub shows_r? : Rows → Rows → ℕ → Bool
  shows_r? hb race r = read? t r && not (justified? hb race r)

  abbrev pub shows_a2? : Rows → Rows → ℕ → ℕ → Bool
  shows_a2? cf hb p q = look cf p q && look hb p q

  abbrev pub shows_a3? : Rows → Rows → ℕ → ℕ → Bool
  shows_a3? cf hb r' r = look hb r' r && source_that t r' (λ s'. source_that t r (λ s. look cf s' s))

  abbrev pub shows_a5? : Rows → ℕ → ℕ → Bool
  shows_a5? cf p q =
      ltb p q && (update? t p && (update? t q && (source_that t p (λ s. source? s q) && not (look cf p q))))

  abbrev pub shows_w? : Rows → ℕ → ℕ → Bool
  shows_w? race p q = ltb p q && (write? t p && (write? t q && look race p q))
