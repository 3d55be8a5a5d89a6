-- The step of writing a cut: a kept record has its place, and with it one record more is written.
use mathlib.Core.Path.{◌≡◌, sym, ap, ap₂, ◌∙◌}
use mathlib.Core.List.{List}
use Prim.Native.Nat.{ℕ, ◌+◌, ◌*◌, ◌<◌, ◌≤◌}
use native.Mathlib.Omega.{arith}
use lib.Dec.{T}
use lib.ListN.{length}
use Rattle.selections.specs.Selection.{named}
use Rattle.record.specs.Form.{part, overwritten}
use Rattle.model.specs.Cut.{new_number}
use Rattle.model.proofs.CutNumbers.{new_below, new_rises}
use Rattle.facts.proofs.Bytes.{room_of}
use Rattle.facts.proofs.Records.{one_of}
use Rattle.edit.specs.Columns.{number_in, Placing, Writing}
use Rattle.edit.specs.Cut.{renumbered_bytes, cut_bytes}
use Rattle.edit.proofs.KeptBytes.{same_renumbered, cut_length, cut_same, cut_more}
use Rattle.edit.proofs.RecordLinks.{earlier}

module _ {b s numbers : List ℕ} {count : ℕ} {before : List ℕ} (w : Writing b s numbers count before) where
  held : (n : ℕ) → n ≤ count → 16 * n ≤ length b
  held n h = omega (arith, w.table.all, w.table.sound.size)

  fits_so_far : (n : ℕ) → n ≤ count → 16 * new_number (named s) n ≤ length before
  fits_so_far n h = omega (arith, w.room, new_rises (named s) n count h)

  pub written_length : {n : ℕ} → n ≤ count → length (cut_bytes (named s) b n before) ≡ length before
  written_length {n} h = cut_length (named s) b before n (held n h) (fits_so_far n h)

  module _ {n : ℕ} {out : List ℕ} (h : n < count) (so_far : out ≡ cut_bytes (named s) b n before) where
    pub placing : T (named s n) → Placing b n numbers out
    placing is =
        let links = earlier (one_of w.table h) in
        let long = ap length so_far ∙ written_length {n = n} (omega arith) in
        record {
          held = room_of (one_of w.table h);
          numbered = omega (arith, w.column);
          links = record {
            long = links.long;
            parent = record { low = λ some. omega (arith, w.column, links.parent some) };
            source = record { low = λ some. omega (arith, w.column, links.source some) };
          };
          room = omega (arith, w.numbered n h, new_below (named s) n count h is, w.room, long);
        }

    pub one_written :
        {out' : List ℕ} → T (named s n) → out' ≡ overwritten out (number_in numbers n) (renumbered_bytes (number_in numbers) (part b n)) → out' ≡ cut_bytes (named s) b (n + 1) before
    one_written is e =
        let links = earlier (one_of w.table h) in
        let same : (m : ℕ) → m < n → number_in numbers m ≡ new_number (named s) m = λ m l. w.numbered m (omega arith) in
        e
        ∙ (ap₂ (overwritten out) (w.numbered n h) (same_renumbered (number_in numbers) (new_number (named s)) (part b n) (λ some. same _ (links.parent some)) (λ some. same _ (links.source some)))
        ∙ (ap (λ (o : List ℕ). overwritten o (new_number (named s) n) (renumbered_bytes (new_number (named s)) (part b n))) so_far
        ∙ cut_more (named s) b before n (held n (omega arith)) is))

    pub none_written : ¬ T (named s n) → out ≡ cut_bytes (named s) b (n + 1) before
    none_written not = so_far ∙ sym (cut_same (named s) b before n not)
