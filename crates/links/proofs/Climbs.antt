-- po by climbing: what the link to the parent of b tells of what is above b.
use Rattle.std.specs.Prelude.{Option, None, Some}
use mathlib.Core.Path.{◌≡◌, sym, ◌∙◌}
use mathlib.Core.Logic.{⊎_elim}
use mathlib.Core.Bool.{Bool, true, false}
use Prim.Native.Nat.{ℕ}
use Rattle.laws.specs.Says.{Says}
use Rattle.laws.specs.Steps.{one, more}
use Rattle.laws.proofs.Says.{says_yes, says_no, says_iff}
use Rattle.laws.proofs.Steps.{plus_last}
use Rattle.model.specs.Table.{Table, Parent}
use Rattle.model.specs.Relations.{Po}
use Rattle.model.proofs.Fields.{absent_to}
use Rattle.model.proofs.Laws.{po_iff_parent}

module _ (t : Table) {a b : ℕ} {link : Option ℕ} (is : link ≡ (t.at b).parent) where
  pub climb_none : link ≡ None → Says false (Po t a b)
  climb_none e = says_no (λ u. absent_to e (is ∙ (plus_last u).step))

  pub climb_found : {p : ℕ} → link ≡ Some p → p ≡ a → Says true (Po t a b)
  climb_found e h = says_yes (one cc)

  pub climb_on : {p : ℕ} {r : Bool} → link ≡ Some p → ¬ (p ≡ a) → Says r (Po t a p) → Says r (Po t a b)
  climb_on {p} e h =
      let f : Parent t p b = sym is ∙ e in
      says_iff (λ u. more u f) (λ u. ⊎_elim (λ q. absurd (h (sym q))) (λ v. v) ((po_iff_parent t a p b f).0 u))
