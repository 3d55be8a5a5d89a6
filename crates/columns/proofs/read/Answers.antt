-- `read` meets its contract: of the first b records the columns say what the bytes do.
use mathlib.Core.Path.{◌≡◌, ap₂, ◌∙◌}
use Prim.Native.Nat.{ℕ}
use native.Mathlib.Omega.{arith}
use Rattle.record.specs.Form.{order_byte, part}
use Rattle.facts.proofs.Records.{few, one_of}
use Rattle.columns.specs.Codes.{place_from, arm_from, sync_from}
use Rattle.columns.proofs.BytesTell.{parent_byte_lem, arm_bytes, source_byte_lem, sync_bytes, place_byte, kind_byte_lem, order_byte_lem, known}
use Rattle.columns.proofs.Filling.{filled_none, filled_more, filled_column, filled_rest}
use Rattle.columns.proofs.read.Goals as goal

pub loop-b-preserved : goal.loop-b-preserved
loop-b-preserved c = let low = c.loop-b-test.true in
    let counted = c.requires in
    let inside = few counted in
    let this = one_of counted low in
    let f = c.loop-b.invariant in
    let table = c.args.table.now in
    let at = c.loop-b.b in
    let k = c.byte-k.ensures in
    let o = c.byte-o.ensures in
    let p = c.byte-p.ensures in
    let s = c.byte-s.ensures in
    let x = c.byte-x.ensures in
    record {
      parents = filled_more _ (omega (arith, low, inside)) (p ∙ parent_byte_lem this) f.parents;
      arms = filled_more _ (omega (arith, low, inside)) (c.arm_from.ensures ∙ (ap₂ arm_from k p ∙ arm_bytes this)) f.arms;
      sources = filled_more _ (omega (arith, low, inside)) (s ∙ source_byte_lem this) f.sources;
      syncs = filled_more _ (omega (arith, low, inside)) (c.sync_of.ensures ∙ (ap₂ (λ (u v : ℕ). sync_from at u v (order_byte (part table u))) s o ∙ sync_bytes counted at low)) f.syncs;
      places = filled_more _ (omega (arith, low, inside)) (c.place_from.ensures ∙ (ap₂ place_from k x ∙ place_byte this)) f.places;
      kinds = filled_more _ (omega (arith, low, inside)) (k ∙ kind_byte_lem this) f.kinds;
      orders = filled_more _ (omega (arith, low, inside)) (o ∙ order_byte_lem this) f.orders;
    }

pub returns : goal.returns
returns c = let counted = c.requires in
    let inside = few counted in
    let end : c.loop-b.b ≡ c.args.n = omega (arith, c.loop-b-test.false) in
    let f = c.loop-b.invariant in
    record {
      columns = record {
        known = known counted;
        parents = filled_column end inside f.parents;
        arms = filled_column end inside f.arms;
        sources = filled_column end inside f.sources;
        syncs = filled_column end inside f.syncs;
        places = filled_column end inside f.places;
        kinds = filled_column end inside f.kinds;
        orders = filled_column end inside f.orders;
      };
      rest = record {
        of_parent = filled_rest end f.parents;
        of_arm = filled_rest end f.arms;
        of_source = filled_rest end f.sources;
        of_sync = filled_rest end f.syncs;
        of_place = filled_rest end f.places;
        of_kind = filled_rest end f.kinds;
        of_order = filled_rest end f.orders;
      };
    }

pub loop-b-init : goal.loop-b-init
loop-b-init c = record {
  parents = filled_none;
  arms = filled_none;
  sources = filled_none;
  syncs = filled_none;
  places = filled_none;
  kinds = filled_none;
  orders = filled_none;
}
