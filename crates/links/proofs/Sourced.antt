-- What the link to a source tells.
use Rattle.std.specs.Prelude.{Option, Some}
use mathlib.Core.Path.{◌≡◌, sym, subst, ◌∙◌}
use mathlib.Core.Bool.{Bool, false}
use mathlib.Core.List.{List}
use Prim.Native.Nat.{ℕ, ◌<◌}
use Rattle.laws.specs.Says.{Says}
use Rattle.laws.proofs.Says.{says_no, says_iff}
use Rattle.model.specs.Table.{Table, Source, NoSource}
use Rattle.model.proofs.Fields.{absent_to}
use Rattle.model.proofs.Facts.{one_source, has_source}
use Rattle.model.proofs.Within.{source_within}
use Rattle.table.specs.Events.{events_of}
use Rattle.facts.specs.Sound.{Counted}
use Rattle.facts.proofs.Records.{formed, within_count}
use Rattle.links.specs.Sourced.{FromSource}

-- a link that is that of record r's source
module _ {bytes : List ℕ} {n : ℕ} (r : ℕ) {link : Option ℕ} (counted : Counted bytes n) (is : link ≡ ((events_of bytes).at r).source) where
  pub the_source : {s : ℕ} → link ≡ Some s → Source (events_of bytes) s r
  the_source {s} e = has_source (formed counted) s r (sym is ∙ e)

  pub source_low : {s : ℕ} → link ≡ Some s → s < n
  source_low e = (within_count counted (source_within (formed counted))).left (the_source e)

module _ {t : Table} {R : ℕ → ℕ → Type 0} {r b : ℕ} where
  pub says_by_source : {s : ℕ} {x : Bool} → Source t s r → Says x (R s b) → Says x (FromSource t R r b)
  says_by_source {s} source =
      says_iff (λ z. record { s = s; source = source; related = z })
      (λ z. subst (λ (q : ℕ). R q b) (one_source t z.source source) z.related)

  pub says_no_source : NoSource t r → Says false (FromSource t R r b)
  says_no_source none = says_no (λ z. absent_to none z.source.is)
