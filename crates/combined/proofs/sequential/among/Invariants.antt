-- `sequential::among` meets its contract: the first b rows have the steps among SC records.
use Rattle.rows.specs.Rows.{On, Made}
use Rattle.combined.specs.Sequential.{Among}
use Rattle.combined.proofs.sequential.among.Given as goal

abbrev pub invariant-loop-b : goal.invariant-loop-b
invariant-loop-b g l =
    let on = On g.row.W in
    Made g.row.W l.b (Among l.order l.place (on l.orders) (on l.at) (on l.hb) (on l.detour) (on l.wb) (on l.over)) l.fn.out l.out
