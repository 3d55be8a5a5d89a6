-- The answers of a cut that are given once nothing is lacking.
use Rattle.std.specs.Prelude.{Err, Ok}
use mathlib.Core.Path.{◌≡◌, refl, sym, subst, ap, ◌∙◌}
use mathlib.Core.List.{List}
use Prim.Native.Nat.{ℕ, ◌*◌, ◌<◌, ◌≤◌}
use native.Mathlib.Omega.{arith}
use lib.ListN.{length}
use Rattle.selections.specs.Selection.{named}
use Rattle.refusals.specs.declared.Refusal.TheVariants.{Room}
use Rattle.model.specs.Cut.{new_number}
use Rattle.table.proofs.WellFormed.{sound_count}
use Rattle.edit.specs.Cut.{cut_bytes, Whole, Decides, no_room, good, CutAnswer}

module _ {b s before : List ℕ} {n r : ℕ} (whole : Whole b s n) (size : r ≡ new_number (named s) n) where
  pub kept_answer : {after : List ℕ} → 16 * r ≤ length before → after ≡ cut_bytes (named s) b n before → CutAnswer b s before after (Ok r)
  kept_answer h e = record {
    decided = subst (λ (m : ℕ). Decides b s before (Ok m)) (sym size) (good whole (omega (arith, size)));
    bytes = e ∙ ap (λ (m : ℕ). cut_bytes (named s) b m before) (sym (sound_count b n whole.selected.sound));
  }

  pub no_room_answer : length before < 16 * r → CutAnswer b s before before (Err Room)
  no_room_answer h = record { decided = no_room whole (λ l. absurd (omega (arith, size))) refl; bytes = refl }
