-- `lay` meets its contract: hb by steps, conflict, and with both the races.
use Rattle.rows.proofs.Rows.{made_iff}
use Rattle.columns.proofs.Before.{hb_told, told_hb}
use Rattle.columns.proofs.Races.{races_told, told_races, races_by}
use Rattle.basis.proofs.lay.Goals as goal

pub returns : goal.returns
returns g c = λ t g.
    let hb = made_iff (λ a b l. hb_told g.known g.parents g.syncs l) (λ a b l. told_hb g.known g.parents g.syncs l) c.before-2.ensures in
    let cf = c.lay_conflict.ensures t g.known g.parents g.arms in
    record {
      by_hb = hb;
      by_cf = cf;
      by_at = c.races.ensures.0;
      by_race =
          made_iff (λ a b l r. races_told g.known g.places g.kinds g.orders l (races_by (hb.holds.all a b l) (cf.holds.all a b l) r))
          (λ a b l r. races_by (hb.holds.only a b l) (cf.holds.only a b l) (told_races g.known g.places g.kinds g.orders l r)) c.races.ensures.2;
    }
