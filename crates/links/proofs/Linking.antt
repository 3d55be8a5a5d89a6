-- What links lead to, and that the link to a parent falls.
use Rattle.std.specs.Prelude.{Option, Some}
use mathlib.Core.Path.{◌≡◌, sym, subst, ◌∙◌}
use Prim.Native.Nat.{ℕ, ◌<◌}
use Rattle.model.specs.Table.{Table, Parent}
use Rattle.model.specs.WellFormed.{WellFormed}
use Rattle.model.proofs.Fields.{one_end}
use Rattle.model.proofs.Facts.{parent_earlier}
use Rattle.links.specs.Links.{Linked, Leads}

module _ {link : Option ℕ} {P : ℕ → Type 0} where
  pub to_linked : {s : ℕ} → link ≡ Some s → P s → Linked link P
  to_linked {s} e p = record { to = s; is = e; has = p }

  pub of_linked : {s : ℕ} → link ≡ Some s → Linked link P → P s
  of_linked e l = subst P (one_end e l.is) l.has

-- the link leads to numbers below k only
pub record Falls (link : Option ℕ) (k : ℕ) : Type 0 where
  pub below : (s : ℕ) → link ≡ Some s → s < k

module _ (t : Table) {b : ℕ} {link : Option ℕ} (e : link ≡ (t.at b).parent) where
  pub parent_leads : Leads link (λ p. Parent t p b)
  parent_leads = record { has = λ p f. sym e ∙ f; only = λ p f. e ∙ f }

  pub parent_falls : WellFormed t → Falls link b
  parent_falls ok = record { below = λ p f. parent_earlier ok p b (sym e ∙ f) }
