-- A kept record's bytes hold the same record with its links renumbered.
use Rattle.std.specs.Prelude.{Option, Err, Ok}
use mathlib.Core.Path.{◌≡◌, refl, sym, subst⁻¹, ap, ap₂, ◌∙◌}
use mathlib.Core.Bool.{Bool, true, false}
use mathlib.Core.List.{List}
use Prim.Native.Nat.{ℕ}
use native.Mathlib.Omega.{arith}
use lib.Dec.{eqb}
use lib.ListN.{length}
use borrow.Author.Tests.{eq-eqb, ne_eqb}
use Rattle.events.specs.declared.Record.{Record}
use Rattle.refusals.specs.declared.Fault.{Fault}
use Rattle.laws.proofs.Says.{says_eq, says_dec}
use Rattle.record.specs.Form.{thread_byte, parent_byte, source_byte, link_from, record_from, decided_by, decode}
use Rattle.record.proofs.BytesBack.{firsts, listed}
use Rattle.record.proofs.RoundTrip.{passed}
use Rattle.model.specs.Cut.{link_by, renumbered}
use Rattle.edit.specs.Cut.{renumbered_link, renumbered_bytes}

module _ (f : ℕ → ℕ) (byte : ℕ) (low : ¬ (byte ≡ 255) → ¬ (f byte ≡ 255)) where
  link_renumbered : link_from (renumbered_link f byte) ≡ link_by f (link_from byte)
  unfolding link_from
  link_renumbered = go (says_dec (says_eq byte 255))
    where
      go : Dec (byte ≡ 255) → link_from (renumbered_link f byte) ≡ link_by f (link_from byte)
      go (yes e) = rw (eq-eqb byte 255 e)
      go (no n) = rw (ne_eqb byte 255 n) (rw (ne_eqb (f byte) 255 (low n)))

  none_renumbered : eqb (renumbered_link f byte) 255 ≡ eqb byte 255
  none_renumbered = go (says_dec (says_eq byte 255))
    where
      go : Dec (byte ≡ 255) → eqb (renumbered_link f byte) 255 ≡ eqb byte 255
      go (yes e) = rw (eq-eqb byte 255 e)
      go (no n) = rw (ne_eqb byte 255 n) (ne_eqb (f byte) 255 (low n))

not_good : {A : Type 0} {f : Fault} {r : Record} → Err f ≡ Ok r → A
not_good e = absurd (let z : ◌≡◌ {A = ℕ} 0 1 = cc in omega arith)

-- the tests decide alike whatever record they are asked of
decided_other :
    (m k w s t l : Bool) (i j : ℕ) (x y r : Record) → decided_by m k w s t l i x ≡ Ok r → decided_by m k w s t l j y ≡ Ok y
unfolding decided_by
decided_other true true true true true true i j x y r e = refl
decided_other true true true true true false i j x y r e = not_good e
decided_other true true true true false l i j x y r e = not_good e
decided_other true true true false t l i j x y r e = not_good e
decided_other true true false s t l i j x y r e = not_good e
decided_other true false w s t l i j x y r e = not_good e
decided_other false k w s t l i j x y r e = not_good e

module _ (f : ℕ → ℕ) (p : List ℕ) (r : Record)
    (parent : ¬ (parent_byte p ≡ 255) → ¬ (f (parent_byte p) ≡ 255))
    (source : ¬ (source_byte p ≡ 255) → ¬ (f (source_byte p) ≡ 255))
  where
    same_record : record_from (renumbered_bytes f (firsts p 0 16)) ≡ renumbered f (record_from p)
    same_record =
        ap₂ (λ (x y : Option ℕ). record { thread = thread_byte p; parent = x; source = y; event = (record_from p).event })
        (link_renumbered f (parent_byte p) parent) (link_renumbered f (source_byte p) source)

    decode_firsts : decode (firsts p 0 16) ≡ Ok r → decode (renumbered_bytes f (firsts p 0 16)) ≡ Ok (renumbered f (record_from p))
    unfolding decode
    decode_firsts e = rw (none_renumbered f (source_byte p) source) (decided_other _ _ _ _ _ _ _ _ (record_from p) (record_from (renumbered_bytes f (firsts p 0 16))) r e ∙ ap Ok same_record)

    pub decode_renumbered : length p ≡ 16 → decode p ≡ Ok r → decode (renumbered_bytes f p) ≡ Ok (renumbered f r)
    decode_renumbered long e =
        let is = listed p 16 0 long in
        subst⁻¹ (λ (q : List ℕ). decode (renumbered_bytes f q) ≡ Ok (renumbered f r)) is
        (decode_firsts (ap decode (sym is) ∙ e) ∙ ap (λ (x : Record). Ok (renumbered f x)) (passed p r e).same)
