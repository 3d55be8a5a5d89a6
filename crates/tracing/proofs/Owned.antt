-- A write owns itself and its readers: what the answers on a record's source tell.
use Rattle.std.specs.Prelude.{Option, Some}
use mathlib.Core.Path.{◌≡◌, refl, sym, subst, ◌∙◌}
use mathlib.Core.Logic.{◌⊎◌, inl, inr}
use Prim.Native.Nat.{ℕ}
use lib.Dec.{eqb}
use Rattle.laws.specs.Says.{Says}
use Rattle.laws.proofs.Says.{says_iff, says_eq}
use Rattle.model.specs.Table.{Table, Source}
use Rattle.model.specs.Relations.{WriteOrReader, the_write, a_reader}
use Rattle.model.specs.WellFormed.{WellFormed}
use Rattle.model.proofs.Facts.{has_source}
use Rattle.model.proofs.Fields.{one_end}

cases : {t : Table} {w x : ℕ} → WriteOrReader t w x → (w ≡ x) ⊎ Source t w x
cases the_write = inl refl
cases (a_reader c) = inr c

module _ {t : Table} {w x : ℕ} where
  pub owns_itself : w ≡ x → Says (eqb w x) (WriteOrReader t w x)
  owns_itself e = says_iff (λ _. subst (WriteOrReader t w) e the_write) (λ _. e) (says_eq w x)

  module _ (n : ¬ (w ≡ x)) {link : Option ℕ} (is : link ≡ (t.at x).source) where
    only_source : WriteOrReader t w x → link ≡ Some w
    only_source z = elim (cases z) [ inl e ↦ absurd (n e) | inr c ↦ is ∙ c.is ]

    pub owns_by_source : {s : ℕ} → WellFormed t → link ≡ Some s → Says (eqb s w) (WriteOrReader t w x)
    owns_by_source {s} ok e =
        says_iff (λ q. a_reader (has_source ok w x (sym is ∙ (e ∙ (λ i. Some (q i)))))) (λ z. sym (one_end e (only_source z)))
        (says_eq s w)
