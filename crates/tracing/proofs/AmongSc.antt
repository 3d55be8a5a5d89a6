-- What steps among SC records are told by: entries of wb0 tell wb and fr.
use Rattle.std.specs.Prelude.{Option, Some}
use mathlib.Core.Path.{◌≡◌, sym, subst, ◌∙◌}
use mathlib.Core.Bool.{Bool, not}
use mathlib.Core.List.{List}
use mathlib.Core.Logic.{◌⊎◌, inl, inr}
use Prim.Native.Nat.{ℕ, ◌<◌}
use lib.Dec.{eqb}
use Rattle.laws.specs.Says.{Says}
use Rattle.laws.proofs.Says.{says_iff}
use Rattle.model.specs.Table.{Table, SC}
use Rattle.model.specs.Relations.{Wb0, Wb, Fr, HbscBy, ScStepBy, by_hbsc, by_wb, by_fr}
use Rattle.model.proofs.Facts.{has_source}
use Rattle.model.proofs.Fields.{one_end}
use Rattle.model.proofs.Within.{source_within}
use Rattle.table.specs.Events.{events_of}
use Rattle.facts.specs.Sound.{Counted}
use Rattle.facts.proofs.Records.{formed, within_count}
use Rattle.tracing.specs.Layers.{entry, StepsTo}
use Rattle.tracing.proofs.StepsBack.{says_wb}

module _ {t : Table} {a b : ℕ} where
  pub says_any_step : {r : Bool} → SC t a → SC t b → Says r ((Wb t a b ⊎ Fr t a b) ⊎ HbscBy t a b) → Says r (ScStepBy t a b)
  says_any_step sc_a sc_b =
      says_iff (λ z. elim z [ inl (inl h) ↦ by_wb h | inl (inr h) ↦ by_fr h | inr h ↦ by_hbsc (record { sc_a = sc_a; sc_b = sc_b; by = h }) ])
      (λ z. elim z [ by_wb h ↦ inl (inl h) | by_fr h ↦ inl (inr h) | by_hbsc h ↦ inr h.by ])

module _ {bytes : List ℕ} {n : ℕ} (counted : Counted bytes n) (a : ℕ) {link : Option ℕ} {s : ℕ} (is : link ≡ ((events_of bytes).at a).source) (leads : link ≡ Some s) where
  pub source_low : s < n
  source_low = (within_count counted (source_within (formed counted))).left (has_source (formed counted) s a (sym is ∙ leads))

  pub says_fr : {b : ℕ} {d : List ℕ} → ¬ (a ≡ b) → StepsTo (Wb0 (events_of bytes)) n b d → Says (not (eqb (entry d s) 255)) (Fr (events_of bytes) a b)
  says_fr {b} ne steps = says_iff
      (λ w. record { s = s; source = has_source (formed counted) s a (sym is ∙ leads); before = w; differ = ne })
      (λ z. subst (λ (v : ℕ). Wb (events_of bytes) v b) (one_end leads (is ∙ z.source.is)) z.before)
      (says_wb counted steps source_low)
