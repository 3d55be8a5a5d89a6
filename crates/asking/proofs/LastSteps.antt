-- A last step of either kind, by the link that leads to it: one law for both questions.
use Rattle.std.specs.Prelude.{Option, Some}
use mathlib.Core.Path.{◌≡◌, sym, subst}
use mathlib.Core.Logic.{◌⊎◌, inl, inr, ⊎_elim}
use mathlib.Core.Bool.{Bool, false}
use Prim.Native.Nat.{ℕ, ◌<◌, ◌≤◌}
use native.Mathlib.Omega.{arith}
use lib.Dec.{eqb}
use Rattle.laws.specs.Says.{Says}
use Rattle.laws.specs.Steps.{more}
use Rattle.laws.proofs.Says.{says_no, says_eq, says_iff}
use Rattle.laws.proofs.Steps.{plus_last}
use Rattle.model.specs.Table.{Table}
use Rattle.model.specs.Relations.{Po, by_po, Hb}
use Rattle.model.specs.WellFormed.{WellFormed}
use Rattle.model.proofs.Laws.{hb_iff_last}
use Rattle.model.proofs.Within.{hb_rises}
use Rattle.links.specs.Links.{Leads}
use Rattle.model.proofs.Fields.{one_end}
use Rattle.asking.specs.LastStep.{LastBy, ByPo, BySw}

-- hb is a last step of po or one of sw
module _ {t : Table} {a b : ℕ} where
  po_hb : ByPo t a b → Hb t a b
  po_hb l = hb_iff_last.1 (record { from = l.from; step = inl l.step; rest = l.rest })

  sw_hb : BySw t a b → Hb t a b
  sw_hb l = hb_iff_last.1 (record { from = l.from; step = inr l.step; rest = l.rest })

  hb_last : Hb t a b → ByPo t a b ⊎ BySw t a b
  hb_last h =
      let l = (hb_iff_last {t = t}).0 h in
      ⊎_elim (λ e. inl (record { from = l.from; step = e; rest = l.rest })) (λ s. inr (record { from = l.from; step = s; rest = l.rest })) l.step

  pub says_hb : {r : Bool} → Says r (ByPo t a b ⊎ BySw t a b) → Says r (Hb t a b)
  says_hb = says_iff (⊎_elim po_hb sw_hb) hb_last

-- what happens before a record above b happens before the parent of b
by_parent : {t : Table} {a s b : ℕ} → Hb t a s → Po t s b → ByPo t a b
by_parent {t} {a} u up =
    let l = plus_last up in
    record { from = l.from; step = l.step; rest = inr (⊎_elim (λ e. subst (Hb t a) e u) (λ p. more u (by_po p)) l.rest) }

-- what steps to b by S is what the link leads to
module _ {t : Table} {S : ℕ → ℕ → Type 0} {a b : ℕ} {link : Option ℕ} (leads : Leads link (λ s. S s b)) where
  module _ {s : ℕ} (e : link ≡ Some s) where
    rest_of : LastBy t S a b → (a ≡ s) ⊎ Hb t a s
    rest_of l = subst (λ (x : ℕ). (a ≡ x) ⊎ Hb t a x) (one_end e (leads.only l.from l.step)) l.rest

    last_of : (a ≡ s) ⊎ Hb t a s → LastBy t S a b
    last_of r = record { from = s; step = leads.has s e; rest = r }

    -- no later record happens before s
    pub last_here : WellFormed t → s ≤ a → Says (eqb s a) (LastBy t S a b)
    last_here ok h =
        says_iff (λ q. last_of (inl (sym q))) (λ l. ⊎_elim (λ q. sym q) (λ u. absurd (omega (arith, hb_rises ok u))) (rest_of l)) (says_eq s a)

    pub last_on : {r : Bool} → a < s → Says r (Hb t a s) → Says r (LastBy t S a b)
    last_on h = says_iff (λ u. last_of (inr u)) (λ l. ⊎_elim (λ q. absurd (omega arith)) (λ u. u) (rest_of l))

    -- what happens before a record above b has been asked about with the parent
    pub last_above : Po t s b → a < s → ¬ ByPo t a b → Says false (LastBy t S a b)
    last_above up h n = says_no (λ l. ⊎_elim (λ q. absurd (omega arith)) (λ u. n (by_parent u up)) (rest_of l))
