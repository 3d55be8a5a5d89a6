-- wb0 by columns: owners, and what is handed on to them.
use mathlib.Core.Path.{◌≡◌, refl, sym, ◌∙◌}
use mathlib.Core.List.{List}
use Prim.Native.Nat.{ℕ, ◌<◌}
use lib.ListN.{get_or}
use Rattle.combined.specs.Columns.{WritesAt}
use Rattle.combined.specs.Writes.{Owning, Owning.itself, Owning.as_source, HandedOn}
use Rattle.model.specs.Table.{Table, Write}
use Rattle.model.specs.Relations.{WriteOrReader, the_write, a_reader, Wb0}
use Rattle.model.proofs.Facts.{source_is_earlier_write, write_inside}
use Rattle.model.proofs.Within.{hb_within}
use Rattle.columns.specs.Columns.{parent_number, sync_number, source_number, place_number, kind_number, Column, Known}
use Rattle.columns.proofs.Facts.{below, write_located, kind_writes, writes_kind_lem, led_by_source, source_leads, one_place, one_location}
use Rattle.columns.proofs.Before.{hb_told, told_hb}

module _
    {t : Table} {n : ℕ} (k : Known t n) {kind source place : List ℕ}
    (d : Column n (kind_number t) kind) (s : Column n (source_number t) source) (p : Column n (place_number t) place)
  where
    -- ---- owners

    owning_write : {o b : ℕ} → b < n → Owning kind source o b → Write t o
    owning_write l (itself h) = kind_writes k d l h
    owning_write l (as_source x) = (source_is_earlier_write k.formed (led_by_source k s l x)).write

    owning_owns : {o b : ℕ} → b < n → Owning kind source o b → WriteOrReader t o b
    owning_owns l (itself h) = the_write
    owning_owns l (as_source x) = a_reader (led_by_source k s l x)

    owns_owning : {o b : ℕ} → b < n → Write t o → WriteOrReader t o b → Owning kind source o b
    owns_owning l w the_write = itself (writes_kind_lem k d l w)
    owns_owning l w (a_reader x) = as_source (source_leads k s l x)

    -- what it owns stands at its own place
    owned_place : {o b : ℕ} → o < n → b < n → WriteOrReader t o b → get_or place o 0 ≡ get_or place b 0
    owned_place i l the_write = refl
    owned_place i l (a_reader x) = one_place k p i l (source_is_earlier_write k.formed x).one_location

    write_low : {w : ℕ} → Write t w → w < n
    write_low {w} h = below k (write_inside k.formed w h)

    -- ---- handed on

    module _ {parent sync : List ℕ} (q : Column n (parent_number t) parent) (y : Column n (sync_number t) sync) {a o : ℕ} where
      pub handed_told : HandedOn n parent sync kind source place (WritesAt n kind place) a o → Wb0 t a o
      handed_told x =
          let i = x.low in
          let v = x.before.mid in
          let h = hb_told k q y i x.before.next in
          let j : v < n = below k ((hb_within k.formed).left h) in
          let w = owning_write i x.owned in
          let u = owning_write j x.before.first in
          let m = write_low w in
          let g = write_low u in
          record {
            write = u;
            write' = w;
            differ = x.differ;
            one_location =
                one_location k p g m (write_located k p g u) (x.one_place.at ∙ sym (owned_place m i (owning_owns i x.owned)));
            from = v;
            to = x.of;
            of_w = owning_owns j x.before.first;
            of_w' = owning_owns i x.owned;
            before = h;
          }

      pub told_handed : Wb0 t a o → HandedOn n parent sync kind source place (WritesAt n kind place) a o
      told_handed z =
          let i = below k ((hb_within k.formed).right z.before) in
          let j = below k ((hb_within k.formed).left z.before) in
          let g = write_low z.write in
          let m = write_low z.write' in
          record {
            of = z.to;
            low = i;
            owned = owns_owning i z.write' z.of_w';
            before = record { mid = z.from; first = owns_owning j z.write z.of_w; next = told_hb k q y i z.before };
            one_place = record {
              low = g;
              writes = writes_kind_lem k d g z.write;
              at = one_place k p g m z.one_location ∙ owned_place m i z.of_w';
            };
            differ = z.differ;
          }
