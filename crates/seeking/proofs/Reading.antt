-- What rows and columns tell of a read.
use Rattle.std.specs.Prelude.{Option, None, Some}
use mathlib.Core.Path.{◌≡◌, refl, ap, ◌∙◌}
use mathlib.Core.Bool.{Bool, not, ◌&&◌}
use mathlib.Core.List.{List}
use Prim.Native.Nat.{ℕ, ◌%◌, ◌<◌, ◌≤◌}
use native.Mathlib.Omega.{arith}
use lib.Dec.{eqb}
use lib.ListN.{get_or}
use Rattle.laws.specs.Says.{Says}
use Rattle.laws.proofs.Says.{says_iff, says_not, says_and, says_is}
use Rattle.rows.specs.declared.set.Set.{Set}
use Rattle.rows.specs.Sets.{In, Is}
use Rattle.rows.specs.Rows.{On}
use Rattle.rows.proofs.Sets.{some_in}
use Rattle.events.specs.declared.Event.{Event}
use Rattle.events.specs.declared.Event.TheVariants.{Init, Load, Store, Update}
use Rattle.events.specs.Words.{is_read}
use Rattle.model.specs.Table.{Table, Source, NoSource, Read}
use Rattle.model.specs.Relations.{SomeEarlierRace, WriteBefore, SomeWriteBefore, StandsOnRace}
use Rattle.model.proofs.Facts.{has_source, write_inside}
use Rattle.columns.specs.Columns.{link_number, kind_of}
use Rattle.columns.proofs.Facts.{below, write_located, kind_writes, writes_kind_lem, led_by_source, source_leads, one_place, one_location}
use Rattle.seeking.specs.Reads.{Reading}
use Rattle.seeking.proofs.Places.{place_low}

-- a set that is not empty has a number
pub says_some : {W : ℕ} {x : Set W} {P : ℕ → Type 0} {r : Bool} → Is x P → Says r ((a : ℕ) → ¬ In x a) → Says (not r) ((a : ℕ) × P a)
says_some {x} {P} i s = says_iff (λ n. let (a, h) = some_in x n in (a, i.only a h)) (λ (a, p) n. n a (i.all a p)) (says_not s)

odd_reads : (e : Event) → eqb (kind_of e % 2) 1 ≡ is_read e
odd_reads Init = refl
odd_reads (Load o x v) = refl
odd_reads (Store o x w) = refl
odd_reads (Update o x v w) = refl

module _ {t : Table} {w n : ℕ} {kind source place : List ℕ} {at hb race : List (List ℕ)} (g : Reading t w n kind source place at hb race) {b : ℕ} (l : b < n) where
  pub raced_told : {r : Bool} → Says r ((a : ℕ) × On w race a b) → Says r (SomeEarlierRace t b)
  raced_told = says_iff (λ (a, o). (a, g.by_race.only a b l o)) (λ (a, e). (a, g.by_race.all a b l e))

  abbrev low : get_or place b 0 < 33
  low = place_low g.known g.places b l

  write_before : (a : ℕ) → On w hb a b → On w at a (get_or place b 0) → WriteBefore t a b
  write_before a o p =
      let x = g.by_at.only a (get_or place b 0) low p in
      let u = kind_writes g.known g.kinds x.low x.writes in
      record {
        write = u;
        one_location = one_location g.known g.places x.low l (write_located g.known g.places x.low u) x.at;
        before = g.by_hb.only a b l o;
      }

  pub written_told : {r : Bool} → Says r ((a : ℕ) × (On w hb a b × On w at a (get_or place b 0))) → Says r (SomeWriteBefore t b)
  written_told =
      says_iff (λ (a, (o, p)). (a, write_before a o p))
      (λ (a, x).
      let i = below g.known (write_inside g.known.formed a x.write) in
      (a, (g.by_hb.all a b l x.before, g.by_at.all a (get_or place b 0) low (record { low = i; writes = writes_kind_lem g.known g.kinds i x.write; at = one_place g.known g.places i l x.one_location }))))

  -- the column leads from the source
  pub the_source : get_or source b 0 < b → Source t (get_or source b 0) b
  the_source h = led_by_source g.known g.sources l (record { is = refl; falls = h })

  pub no_source : b ≤ get_or source b 0 → NoSource t b
  no_source h = by (t.at b).source refl
    where
      by : (s : Option ℕ) → (t.at b).source ≡ s → (t.at b).source ≡ None
      by None e = e
      by (Some s) e =
          let x = source_leads g.known g.sources l (has_source g.known.formed s b e) in
          absurd (omega (arith, h, x.is, x.falls))

  -- a record with a source does not stand on a race
  pub not_without : get_or source b 0 < b → ¬ StandsOnRace t b
  not_without h x = let e = g.sources.says b l ∙ ap link_number x.no_source in omega (arith, h, e, l, g.known.few)

  -- one without a source does where it reads, some write is before it, and one races with it
  pub stands_told : b ≤ get_or source b 0 → {d w r : Bool} → Says d (Read t b) → Says w (SomeWriteBefore t b) → Says r (SomeEarlierRace t b) → Says (d && w && r) (StandsOnRace t b)
  stands_told h d w r =
      says_iff (λ ((d, w), r). record { reads = d; no_source = no_source h; write_before = w; race = r }) (λ x. ((x.reads, x.write_before), x.race))
      (says_and (says_and d w) r)

  -- a kind that reads is odd
  pub reads_told : Says (eqb (get_or kind b 0 % 2) 1) (Read t b)
  reads_told = says_is (ap (λ (z : ℕ). eqb (z % 2) 1) (g.kinds.says b l) ∙ odd_reads (t.at b).event)
