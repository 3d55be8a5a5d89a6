-- The bytes of a cut, record by record.
use mathlib.Core.Path.{◌≡◌, refl, sym, subst, subst⁻¹, ap, ap₂, ◌∙◌}
use mathlib.Core.Bool.{Bool, true, false}
use mathlib.Core.List.{List, [], ◌++◌, append_assoc, append-nil}
use Prim.Native.Nat.{ℕ, zero, suc, ◌+◌, ◌*◌, ◌<◌, ◌≤◌}
use native.Mathlib.Numerals.{add-one}
use native.Mathlib.Omega.{arith}
use native.Mathlib.Decide.{dec_lt}
use lib.Dec.{T, eqb}
use lib.ListN.{length, drop, set, length-append, length-drop, length-set}
use lib.Seq.{take_at, drop_at, drop-drop}
use borrow.Author.Tests.{eq-eqb}
use Rattle.record.specs.Form.{pick, parent_byte, source_byte, part, overwritten}
use Rattle.record.proofs.Parts.{part_length, part_append, part_last}
use Rattle.model.specs.Cut.{one_more_if, new_number}
use Rattle.model.proofs.CutNumbers.{new_after_kept, new_after_dropped, new_below}
use Rattle.laws.proofs.Says.{says_eq, says_dec}
use Rattle.edit.specs.Cut.{renumbered_link, renumbered_bytes, kept_bytes, cut_bytes}

pub renumbered_length : (f : ℕ → ℕ) (p : List ℕ) → length (renumbered_bytes f p) ≡ length p
renumbered_length f p = simp length-set

-- two ways to number records that agree on the links give the same bytes
same_link_lem : (f g : ℕ → ℕ) (link : ℕ) → (¬ (link ≡ 255) → f link ≡ g link) → renumbered_link f link ≡ renumbered_link g link
same_link_lem f g link h = go (says_dec (says_eq link 255))
  where
    go : Dec (link ≡ 255) → renumbered_link f link ≡ renumbered_link g link
    go (yes e) = rw (eq-eqb link 255 e)
    go (no n) = ap (pick (eqb link 255) 255) (h n)

pub same_renumbered :
    (f g : ℕ → ℕ) (p : List ℕ) → (¬ (parent_byte p ≡ 255) → f (parent_byte p) ≡ g (parent_byte p)) → (¬ (source_byte p ≡ 255) → f (source_byte p) ≡ g (source_byte p)) → renumbered_bytes f p ≡ renumbered_bytes g p
same_renumbered f g p h l =
    ap₂ (λ (x y : ℕ). set (set p 5 x) 6 y) (same_link_lem f g (parent_byte p) h) (same_link_lem f g (source_byte p) l)

module _ (k : ℕ → Bool) (b : List ℕ) where
  -- the bytes of record n of the table, as they are kept
  abbrev pub kept_part : ℕ → List ℕ
  kept_part n = renumbered_bytes (new_number k) (part b n)

  kept_yes : (n : ℕ) → T (k n) → pick (k n) (kept_part n) [] ≡ kept_part n
  kept_yes n h = go (k n) h
    where
      go : (x : Bool) → T x → pick x (kept_part n) [] ≡ kept_part n
      go true h = refl
      go false h = absurd h

  kept_no : (n : ℕ) → ¬ T (k n) → pick (k n) (kept_part n) [] ≡ []
  kept_no n h = go (k n) h
    where
      go : (x : Bool) → ¬ T x → pick x (kept_part n) [] ≡ []
      go true h = absurd (h tt)
      go false h = refl

  pub kept_more : (n : ℕ) → T (k n) → kept_bytes k b (n + 1) ≡ kept_bytes k b n ++ kept_part n
  unfolding kept_bytes
  kept_more n h = ap (kept_bytes k b) (add-one n) ∙ ap (λ (l : List ℕ). kept_bytes k b n ++ l) (kept_yes n h)

  pub kept_same : (n : ℕ) → ¬ T (k n) → kept_bytes k b (n + 1) ≡ kept_bytes k b n
  unfolding kept_bytes
  kept_same n h =
      ap (kept_bytes k b) (add-one n)
      ∙ (ap (λ (l : List ℕ). kept_bytes k b n ++ l) (kept_no n h) ∙ append-nil (kept_bytes k b n))

  pub kept_length : (n : ℕ) → 16 * n ≤ length b → length (kept_bytes k b n) ≡ 16 * new_number k n
  unfolding kept_bytes
  kept_length zero h = refl
  kept_length (suc n) h = go (k n) (kept_length n (omega arith))
    where
      go : (x : Bool) → length (kept_bytes k b n) ≡ 16 * new_number k n → length (kept_bytes k b n ++ pick x (kept_part n) []) ≡ 16 * one_more_if x (new_number k n)
      go true before =
          omega (arith, length-append (kept_bytes k b n) (kept_part n), before, renumbered_length (new_number k) (part b n), part_length b n (omega arith))
      go false before = ap length (append-nil (kept_bytes k b n)) ∙ before

  module _ (before : List ℕ) where
    pub cut_length : (n : ℕ) → 16 * n ≤ length b → 16 * new_number k n ≤ length before → length (cut_bytes k b n before) ≡ length before
    cut_length n h l =
        omega (arith, length-append (kept_bytes k b n) (drop (16 * new_number k n) before), length-drop (16 * new_number k n) before, kept_length n h)

    -- a record that is not kept changes nothing
    pub cut_same : (n : ℕ) → ¬ T (k n) → cut_bytes k b (n + 1) before ≡ cut_bytes k b n before
    cut_same n h = ap₂ (λ (l : List ℕ) (m : ℕ). l ++ drop (16 * m) before) (kept_same n h) (new_after_dropped k n h)

    -- a record that is kept is written at its new number
    pub cut_more : (n : ℕ) → 16 * n ≤ length b → T (k n) → overwritten (cut_bytes k b n before) (new_number k n) (kept_part n) ≡ cut_bytes k b (n + 1) before
    cut_more n l h =
        let i = new_number k n in
        let long = kept_length n l in
        let e : 16 * i + 16 ≡ 16 * new_number k (n + 1) = omega (arith, new_after_kept k n h) in
        ap₂ (λ (x y : List ℕ). x ++ (kept_part n ++ drop 16 y)) (take_at (kept_bytes k b n) (drop (16 * i) before) (16 * i) long) (drop_at (kept_bytes k b n) (drop (16 * i) before) (16 * i) long)
        ∙ (ap (λ (y : List ℕ). kept_bytes k b n ++ (kept_part n ++ y)) (drop-drop 16 (16 * i) before ∙ ap (λ (m : ℕ). drop m before) e)
        ∙ (sym (append_assoc (kept_bytes k b n) (kept_part n) (drop (16 * new_number k (n + 1)) before))
        ∙ ap (λ (x : List ℕ). x ++ drop (16 * new_number k (n + 1)) before) (sym (kept_more n h))))

  -- the bytes of a kept record stand at its new number
  pub kept_part_lem : (n m : ℕ) → 16 * n ≤ length b → m < n → T (k m) → part (kept_bytes k b n) (new_number k m) ≡ kept_part m
  unfolding kept_bytes
  kept_part_lem zero m l h is = absurd (omega arith)
  kept_part_lem (suc n) m l h is = go (dec_lt m n) (λ h. kept_part_lem n m (omega arith) h is)
    where
      long : length (kept_bytes k b n) ≡ 16 * new_number k n
      long = kept_length n (omega arith)

      go : Dec (m < n) → (m < n → part (kept_bytes k b n) (new_number k m) ≡ kept_part m) → part (kept_bytes k b (suc n)) (new_number k m) ≡ kept_part m
      go (yes below) earlier =
          part_append (kept_bytes k b n) (pick (k n) (kept_part n) []) (new_number k m) (omega (arith, long, new_below k m n below is)) ∙ earlier below
      go (no late) earlier =
          let same : n ≡ m = omega arith in
          let size = renumbered_length (new_number k) (part b n) ∙ part_length b n (omega arith) in
          subst (λ (i : ℕ). part (kept_bytes k b (suc n)) (new_number k i) ≡ kept_part i) same
          (ap (λ (x : List ℕ). part (kept_bytes k b n ++ x) (new_number k n)) (kept_yes n (subst⁻¹ (λ (i : ℕ). T (k i)) same is))
          ∙ part_last (kept_bytes k b n) (kept_part n) (new_number k n) long size)
