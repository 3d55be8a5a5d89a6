-- What answers on a read tell: whether it is justified.
use mathlib.Core.Path.{subst}
use mathlib.Core.Bool.{Bool, not, ◌&&◌, ◌||◌}
use mathlib.Core.Logic.{◌⊎◌, inl, inr, ⊎_elim}
use Prim.Native.Nat.{ℕ}
use Rattle.laws.specs.Says.{Says}
use Rattle.laws.proofs.Says.{says_not, says_and, says_or, says_iff}
use Rattle.model.specs.Table.{Table, Source, NoSource}
use Rattle.model.specs.Relations.{Hb, SomeEarlierRace, SomeWriteBefore, Justified, with_source, no_write_before, races_earlier}
use Rattle.model.proofs.Fields.{absent_to}
use Rattle.model.proofs.Facts.{one_source}

module _ {t : Table} {r : ℕ} {raced : Bool} (by_race : Says raced (SomeEarlierRace t r)) where
  -- "A read with a source"
  pub says_justified : {s : ℕ} {x : Bool} → Source t s r → Says x (Hb t s r) → Says (x && not raced) (Justified t r)
  says_justified {s} source by_hb = says_iff (λ (h, e). with_source source h e) back (says_and by_hb (says_not by_race))
    where
      back : Justified t r → Hb t s r × ¬ SomeEarlierRace t r
      back (with_source c h e) = (subst (λ (q : ℕ). Hb t q r) (one_source t c source) h, e)
      back (no_write_before e n) = absurd (absent_to e source.is)
      back (races_earlier e z) = absurd (absent_to e source.is)

  -- "A read without a source"
  pub says_justified_without : {x : Bool} → NoSource t r → Says x (SomeWriteBefore t r) → Says (not x || raced) (Justified t r)
  says_justified_without none by_write = says_iff (⊎_elim (no_write_before none) (races_earlier none)) back (says_or (says_not by_write) by_race)
    where
      back : Justified t r → (¬ SomeWriteBefore t r) ⊎ SomeEarlierRace t r
      back (with_source c h e) = absurd (absent_to none c.is)
      back (no_write_before e n) = inl n
      back (races_earlier e z) = inr z
