-- `searching::find_each` meets its contract: each finding by the search that asks for it.
use mathlib.Core.Path.{◌∙◌}
use native.Mathlib.Omega.{arith}
use Rattle.findings.specs.declared.Finding.TheVariants.{R, A1, A2, A3, A4, A5, W}
use Rattle.findings.specs.Family.{found_of}
use Rattle.findings.specs.Meant.{Finds}
use Rattle.model.specs.Findings.{Shows}
use Rattle.rows.proofs.Rows.{room_kept}
use Rattle.judge.proofs.Grounds.{placed, reading, conflicting, rounding}
use Rattle.judge.proofs.searching.find_each.Goals as goal

pub find_cycles-cycles-requires : goal.find_cycles-cycles-requires
find_cycles-cycles-requires g c = let (rooms, outs, (t, g)) = c.requires in
    let columns = g.columns in
    let shape_of-shows = c.find_in_conflict-pairs.auto.shows ∙ (c.find_token_taken_twice-a5.auto.shows ∙ c.find_racing_writes-w.auto.shows) in
    let held = c.sorted.ensures.holds in (
      omega (arith, rooms.for_own.width.most),
      (
        record {
          placed = placed columns.known columns.places;
          parents = columns.parents.long;
          syncs = columns.syncs.long;
          for_at = rooms.for_writes;
          owning = record { kinds = columns.kinds.long; sources = columns.sources.long; for_owners = rooms.for_owners; for_out = rooms.for_wb0 };
        },
        record {
          turning = record {
            parents = columns.parents.long;
            syncs = columns.syncs.long;
            placed = placed columns.known columns.places;
            for_at = rooms.for_at;
            for_po = room_kept c.find_in_conflict-pairs.auto.conflicting rooms.for_own;
            for_other = rooms.for_race;
            for_around = room_kept shape_of-shows rooms.for_shows;
            for_detour = rooms.for_cf;
          };
          orders = columns.orders.long;
          for_hb = rooms.for_hb;
          for_writes = rooms.for_writes;
          for_readers = room_kept (c.sorted.auto.out ∙ c.find_token_taken_twice-a5.auto.takers) rooms.for_readers;
          for_wb0 = rooms.for_wb0;
          for_wb = room_kept c.find_in_conflict-pairs.auto.below rooms.for_below;
          for_over = room_kept c.find_in_conflict-pairs.auto.arms rooms.for_arms;
          for_layers = room_kept shape_of-shows rooms.for_layers;
          for_out = outs.for_second;
        },
        outs.for_first,
        (t, rounding g held),
      ),
    )

pub returns : goal.returns
returns g c = λ t g.
    let known = g.columns.known in
    let held = c.sorted.ensures.holds in
    let in-conflict = c.find_in_conflict-pairs.ensures t (conflicting g held) in
    let cycles = c.find_cycles-cycles.ensures t (rounding g held) in
    record {
      each = λ f. elim f as (λ k. Finds (Shows t k) (found_of _ k)) [
        | R ↦ c.find_read-r.ensures t (reading g)
        | A1 ↦ cycles.of_writes.finds
        | A2 ↦ in-conflict.before
        | A3 ↦ in-conflict.sources
        | A4 ↦ cycles.of_steps.finds
        | A5 ↦ c.find_token_taken_twice-a5.ensures t known g.columns.kinds g.columns.sources g.by_cf
        | W ↦ c.find_racing_writes-w.ensures t known g.columns.kinds g.by_race
      ];
      first = cycles.of_writes.bytes;
      second = cycles.of_steps.bytes;
    }
