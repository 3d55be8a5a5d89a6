-- sw to a record, by the link to its source.
use Rattle.std.specs.Prelude.{Option, None, Some}
use mathlib.Core.Path.{◌≡◌, refl, sym, subst, ◌∙◌}
use Prim.Native.Nat.{ℕ}
use Rattle.model.specs.Table.{Table, Acquiring, Releasing}
use Rattle.model.specs.Relations.{Sw}
use Rattle.model.specs.WellFormed.{WellFormed}
use Rattle.model.proofs.Fields.{absent_to, one_end}
use Rattle.model.proofs.Facts.{has_source, source_is_earlier_write}
use Rattle.links.specs.Links.{Leads}
use Rattle.links.proofs.Linking.{Falls}

module _ {t : Table} {b : ℕ} {link : Option ℕ} where
  pub sw_falls : WellFormed t → Leads link (λ s. Sw t s b) → Falls link b
  sw_falls ok l = record { below = λ s e. (source_is_earlier_write ok (l.has s e).source).earlier }

  pub source_falls : WellFormed t → link ≡ (t.at b).source → Falls link b
  source_falls ok e = record { below = λ s f. (source_is_earlier_write ok (has_source ok s b (sym e ∙ f))).earlier }

module _ {t : Table} {b : ℕ} {link : Option ℕ} (e : link ≡ (t.at b).source) where
  nowhere : ((s : ℕ) → ¬ Sw t s b) → Leads None (λ s. Sw t s b)
  nowhere n = record { has = λ s f. absurd (absent_to refl f); only = λ s w. absurd (n s w) }

  pub sw_none : link ≡ None → Leads None (λ s. Sw t s b)
  sw_none f = nowhere (λ s w. absent_to f (e ∙ w.source.is))

  pub sw_from : {s : ℕ} → WellFormed t → link ≡ Some s → Acquiring t b × Releasing t s → Leads (Some s) (λ s. Sw t s b)
  sw_from {s} ok f (acquiring, releasing) = record { has = λ r g. has r (f ∙ g); only = λ r w. sym f ∙ (e ∙ w.source.is) }
    where
      has : (r : ℕ) → link ≡ Some r → Sw t r b
      has r g = record { source = has_source ok r b (sym e ∙ g); releasing = subst (Releasing t) (sym (one_end f g)) releasing; acquiring = acquiring }

  pub sw_not_from : {s : ℕ} → link ≡ Some s → ¬ (Acquiring t b × Releasing t s) → Leads None (λ s. Sw t s b)
  sw_not_from f n = nowhere (λ r w. n (w.acquiring, subst (Releasing t) (one_end f (e ∙ w.source.is)) w.releasing))
