-- What shows a finding, by columns and by relations that are held.
use mathlib.Core.List.{List}
use Prim.Native.Nat.{ℕ, ◌<◌, ◌≤◌}
use native.Mathlib.Omega.{arith}
use lib.ListN.{get_or}
use Rattle.laws.specs.Steps.{Rel}
use Rattle.rows.specs.Steps.{Leads, Then}
use Rattle.pairs.specs.Tokens.{TwoTaken}
use Rattle.model.specs.Table.{Table, Source}
use Rattle.model.specs.Relations.{Hb, Conflict, EarlierRace}
use Rattle.model.specs.Findings.{ShowsA3, ShowsA5, ShowsW}
use Rattle.model.proofs.Within.{source_within}
use Rattle.columns.specs.Columns.{source_number, kind_number, Column, Known}
use Rattle.columns.proofs.Facts.{below, led_by_source, source_leads, kind_writes, writes_kind_lem, kind_updates, updates_kind}
use Rattle.columns.proofs.Apart.{AndConflict}

-- a is a reader of s
abbrev pub ReaderOf : Table → Rel
ReaderOf t a s = Source t s a

module _ {t : Table} {n : ℕ} (k : Known t n) where
  module _ {source : List ℕ} (s : Column n (source_number t) source) {p q : ℕ} (l : q < n) where
    -- A3: "r' hb r, both have sources, and the two sources conflict", with p for r' and q for r
    pub a3_told : Hb t p q → Then (AndConflict t n (ReaderOf t)) (Leads source) p q → ShowsA3 t p q
    a3_told h x = record {
      before = h;
      s' = x.first.with;
      s = x.mid;
      source' = x.first.related;
      source = led_by_source k s l x.next;
      conflict = x.first.conflict;
    }

    pub told_a3 : ShowsA3 t p q → Hb t p q × Then (AndConflict t n (ReaderOf t)) (Leads source) p q
    told_a3 x = (
      x.before,
      record {
        mid = x.s;
        first = record { with = x.s'; low = below k ((source_within k.formed).left x.source'); related = x.source'; conflict = x.conflict };
        next = source_leads k s l x.source;
      },
    )

    module _ {kind : List ℕ} (d : Column n (kind_number t) kind) where
      -- A5: "two different updates, not in conflict, have the same source"
      pub a5_told : TwoTaken kind source (Conflict t) p q → ShowsA5 t p q
      a5_told x =
          let i : p < n = omega (arith, x.in_order) in
          record {
            in_order = x.in_order;
            update_p = kind_updates k d i x.takes_p;
            update_q = kind_updates k d l x.takes_q;
            s = x.s;
            source_p = led_by_source k s i x.from_p;
            source_q = led_by_source k s l x.from_q;
            no_conflict = x.apart;
          }

      pub told_a5 : ShowsA5 t p q → TwoTaken kind source (Conflict t) p q
      told_a5 x =
          let i : p < n = omega (arith, x.in_order) in
          record {
            in_order = x.in_order;
            takes_p = updates_kind k d i x.update_p;
            takes_q = updates_kind k d l x.update_q;
            s = x.s;
            from_p = source_leads k s i x.source_p;
            from_q = source_leads k s l x.source_q;
            apart = x.no_conflict;
          }

  -- W: "two writes race", "p before q in the table"
  module _ {kind : List ℕ} (d : Column n (kind_number t) kind) {p q : ℕ} (l : q < n) where
    pub w_told : 2 ≤ get_or kind q 0 → EarlierRace t p q → ShowsW t p q
    w_told h r = record { in_order = r.earlier; write_p = r.write; write_q = kind_writes k d l h; race = r.race }

    pub told_w : ShowsW t p q → (2 ≤ get_or kind q 0) × EarlierRace t p q
    told_w x = (writes_kind_lem k d l x.write_q, record { earlier = x.in_order; write = x.write_p; race = x.race })
