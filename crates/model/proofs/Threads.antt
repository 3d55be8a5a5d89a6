-- The Init of a thread: there is one, and every record of the thread is it or stands below it.
use mathlib.Core.Path.{◌≡◌, refl, sym, subst, ◌∙◌}
use Prim.Native.Nat.{ℕ, zero, suc, ◌<◌}
use native.Mathlib.Omega.{arith}
use native.Mathlib.Nat.{not-suc-le-zero}
use Rattle.events.specs.Words.{is_init}
use Rattle.laws.specs.Steps.{one, more}
use Rattle.laws.proofs.Says.{says_dec, says_T}
use Rattle.laws.proofs.Closure.{tri}
use Rattle.model.specs.Table.{Table, Inside, thread, Parent, IsInit}
use Rattle.model.specs.Relations.{Po, AtOrAbove, equal, above}
use Rattle.model.specs.WellFormed.{WellFormed}
use Rattle.model.proofs.Facts.{root, has_parent, parent_earlier, thread_of_parent, new_thread}

-- where parents are earlier, so is everything above
pub po_earlier :
    (t : Table) → ((n p : ℕ) → Inside t n → Parent t p n → p < n) → {a b : ℕ} → Inside t b → Po t a b → a < b
po_earlier t h {a} {b} i (one e) = h b a i e
po_earlier t h {a} {b} i (more {m = m} o e) =
    let l = h b m i e in
    let k = po_earlier t h (omega arith) o in
    omega arith

-- the Init of the thread of record n
pub record InitOf (t : Table) (n : ℕ) : Type 0 where
  pub number : ℕ
  pub inside : Inside t number
  pub at_or_above : AtOrAbove t number n
  pub init : IsInit t number
  pub one_thread : thread t number ≡ thread t n

module _ {t : Table} (ok : WellFormed t) where
  -- a thread has one Init
  pub one_init : {a b : ℕ} → Inside t a → Inside t b → IsInit t a → IsInit t b → thread t a ≡ thread t b → a ≡ b
  one_init {a} {b} i j x y e =
      tri a b (λ l. absurd (new_thread ok a b j y l e)) (λ q. q) (λ g. absurd (new_thread ok b a i x g (sym e)))

  -- and every record of the thread stands below it, or is it
  init_within : (m n : ℕ) → n < m → Inside t n → InitOf t n
  init_within zero n l i = absurd (not-suc-le-zero l)
  init_within (suc m) n l i = go (says_dec (says_T (is_init (t.at n).event))) (init_within m)
    where
      below : {c p : ℕ} → AtOrAbove t c p → Parent t p n → AtOrAbove t c n
      below (equal h) e = above (one e)
      below (above o) e = above (more o e)

      itself : IsInit t n → InitOf t n
      itself x = record { number = n; inside = i; at_or_above = equal i; init = x; one_thread = refl }

      parents : ¬ IsInit t n → {p : ℕ} → Parent t p n → InitOf t p → InitOf t n
      parents ni {p} e c = record {
        number = c.number;
        inside = c.inside;
        at_or_above = below c.at_or_above e;
        init = c.init;
        one_thread = c.one_thread ∙ sym (thread_of_parent ok p n e ni);
      }

      go : Dec (IsInit t n) → ((p : ℕ) → p < m → Inside t p → InitOf t p) → InitOf t n
      go (yes x) ih = itself x
      go (no ni) ih =
          let (p, e) = has_parent ok n i (λ z. ni (subst (IsInit t) (sym z) (root ok).init)) in
          let k = parent_earlier ok p n e in
          parents ni e (ih p (omega arith) (omega arith))

  pub init_of : (n : ℕ) → Inside t n → InitOf t n
  init_of n i = init_within (suc n) n (omega arith) i
