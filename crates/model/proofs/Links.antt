-- Records whose links are renumbered.
use Rattle.std.specs.Prelude.{Option, None, Some}
use mathlib.Core.Path.{◌≡◌, refl, sym, ap}
use Prim.Native.Nat.{ℕ}
use Rattle.events.specs.declared.Record.{Record}
use Rattle.model.specs.Cut.{link_by, renumbered}
use Rattle.model.proofs.Fields.{absent_to}

-- a link that is the image of another
pub record LinkBack (f : ℕ → ℕ) (l : Option ℕ) (x : ℕ) : Type 0 where
  pub a : ℕ
  pub image : f a ≡ x
  pub is : l ≡ Some a

pub link_back_lem : (f : ℕ → ℕ) (l : Option ℕ) (x : ℕ) → link_by f l ≡ Some x → LinkBack f l x
link_back_lem f None x e = absurd (absent_to refl e)
link_back_lem f (Some a) x e = record { a = a; image = cc; is = refl }

pub absent_back : (f : ℕ → ℕ) (l : Option ℕ) → link_by f l ≡ None → l ≡ None
absent_back f None e = refl
absent_back f (Some a) e = absurd (absent_to refl (sym e))

-- renumbered by g, and back again by f
link_back_again : (f g : ℕ → ℕ) (l : Option ℕ) → ((n : ℕ) → l ≡ Some n → f (g n) ≡ n) → l ≡ link_by f (link_by g l)
link_back_again f g None h = refl
link_back_again f g (Some n) h = ap Some (sym (h n refl))

pub record_back_again :
    (f g : ℕ → ℕ) (r : Record) → ((n : ℕ) → r.parent ≡ Some n → f (g n) ≡ n) → ((n : ℕ) → r.source ≡ Some n → f (g n) ≡ n) → r ≡ renumbered f (renumbered g r)
record_back_again f g r parent source = λ j. record {
  thread = r.thread;
  parent = link_back_again f g r.parent parent j;
  source = link_back_again f g r.source source j;
  event = r.event;
}
