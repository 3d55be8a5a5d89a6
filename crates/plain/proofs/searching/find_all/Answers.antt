-- `searching::find_all` meets its contract: each finding by the search that asks for it.
use Rattle.std.proofs.Common.{rules}
use Rattle.findings.specs.declared.Finding.TheVariants.{R, A1, A2, A3, A4, A5, W}
use Rattle.findings.specs.Family.{found_of}
use Rattle.findings.specs.Meant.{Finds}
use Rattle.model.specs.Findings.{Shows}
use Rattle.model.proofs.Shown.{pair_within}
use Rattle.table.specs.Events.{events_of}
use Rattle.facts.proofs.Records.{formed, within_count}
use Rattle.plain.proofs.Pairing.{pairs_found}
use Rattle.plain.proofs.searching.find_all.Goals as goal

pub returns : goal.returns
returns c = let counted = c.requires.0 in
    let cycle-of-writes = c.least_cycle-a1.ensures in
    let cycle-of-steps = c.least_cycle-a4.ensures in
    record {
      each = λ f. elim f as (λ k. Finds (Shows (events_of c.args.table.now) k) (found_of _ k)) [
        | R ↦ c.find_read-r.ensures
        | A1 ↦ cycle-of-writes.finds
        | A2 ↦ pairs_found (within_count counted (pair_within (formed counted) A2)) (λ p q b l m k. search rules) c.find_pair-a2.ensures
        | A3 ↦ pairs_found (within_count counted (pair_within (formed counted) A3)) (λ p q b l m k. search rules) c.find_pair-a3.ensures
        | A4 ↦ cycle-of-steps.finds
        | A5 ↦ pairs_found (within_count counted (pair_within (formed counted) A5)) (λ p q b l m k. search rules) c.find_pair-a5.ensures
        | W ↦ pairs_found (within_count counted (pair_within (formed counted) W)) (λ p q b l m k. search rules) c.find_pair-w.ensures
      ];
      first = cycle-of-writes.bytes;
      second = cycle-of-steps.bytes;
    }
