-- The bytes of a sound table's record lead to earlier records, or nowhere.
use Rattle.std.specs.Prelude.{Some}
use mathlib.Core.Path.{◌≡◌, sym, ap, ◌∙◌}
use mathlib.Core.List.{List}
use Prim.Native.Nat.{ℕ, ◌<◌}
use lib.ListN.{length}
use borrow.Author.Tests.{ne_eqb}
use Rattle.events.specs.declared.Record.{Record}
use Rattle.record.specs.Form.{parent_byte, source_byte, link_from, part}
use Rattle.record.proofs.Parts.{part_length}
use Rattle.model.proofs.Facts.{parent_earlier, has_source, source_is_earlier_write}
use Rattle.facts.specs.Sound.{One}
use Rattle.facts.proofs.Bytes.{read_of, room_of}

-- record n's sixteen bytes
pub record Earlier (n : ℕ) (p : List ℕ) : Type 0 where
  pub long : length p ≡ 16
  pub parent : ¬ (parent_byte p ≡ 255) → parent_byte p < n
  pub source : ¬ (source_byte p ≡ 255) → source_byte p < n

link_to : (byte : ℕ) → ¬ (byte ≡ 255) → link_from byte ≡ Some byte
unfolding link_from
link_to byte h = rw (ne_eqb byte 255 h)

pub earlier : {b : List ℕ} {n : ℕ} → One b n → Earlier n (part b n)
earlier {b} {n} one =
    let read = read_of one in
    let formed = one.sound.formed in
    let p = part b n in
    record {
      long = part_length b n (room_of one);
      parent = λ h. parent_earlier formed (parent_byte p) n (ap (λ (r : Record). r.parent) (sym read.same) ∙ link_to (parent_byte p) h);
      source = λ h.
          (source_is_earlier_write formed (has_source formed (source_byte p) n (ap (λ (r : Record). r.source) (sym read.same) ∙ link_to (source_byte p) h))).earlier;
    }
