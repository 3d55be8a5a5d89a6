-- A read that gave bytes lengthens the front.
use Rattle.std.proofs.Common.{◌≡◌, ℕ, ◌+◌, ◌-◌, ◌≤◌, List, ◌++◌, arith, length, take, slice_range, sym, ap, ◌∙◌, subst, le_refl, drop_at, length-take-le}
use Rattle.std.proofs.lemmas.Slice.{take-put_mid_below}
use Rattle.std.specs.Io.KnownBytes.{Consumes}
use Rattle.std.proofs.KnownBytes.{Consumes-trans}
use borrow.Rule.Slice.PartMut.{put_mid, post_of}
use lib.Seq.{take-add, take-append-le}
use Rattle.input.proofs.read_full.Goals as goal

take_split : (a b : ℕ) (old new : List ℕ) → a ≤ b → take a new ≡ take a old → take a old ++ slice_range new a b ≡ take b new
take_split a b old new h front =
    let same : a + (b - a) ≡ b = omega arith in
    ap (λ l. l ++ slice_range new a b) (sym front) ∙ sym (take-add a (b - a) new) ∙ ap (λ n. take n new) same

slice_range-put_mid : (a k n : ℕ) (xs ys : List ℕ) → a ≤ length xs → n ≤ length ys → slice_range (put_mid a k xs ys) a (a + n) ≡ take n ys
slice_range-put_mid a k n xs ys within fits =
    let same : (a + n) - a ≡ n = omega arith in
    let after = post_of a k xs in
    ap (take ((a + n) - a)) (drop_at (take a xs) (ys ++ after) a (length-take-le a xs within)) ∙ ap (λ m. take m (ys ++ after)) same ∙ take-append-le n ys after fits

pub loop-len-preserved : goal.loop-len-preserved
loop-len-preserved g c =
    let from = c.loop-len.len in
    let read = c.in_ok-read.read in
    let old = c.loop-len.room in
    let new = put_mid from (length old - from) old c.read_some.new.room in
    let within = c.loop-len.invariant.within in
    let front : take from new ≡ take from old = take-put_mid_below _ _ _ _ _ (le_refl _) within in
    let part = slice_range-put_mid from (length old - from) read old c.read_some.new.room within c.in_ok-read.ensures.bound.0 in
    let joined : take from old ++ take read c.read_some.new.room ≡ take (from + read) new = ap (λ l. take from old ++ l) (sym part) ∙ take_split from (from + read) old new (omega arith) front in
    record {
      within = grind arith;
      read = subst (Consumes _ _) joined (Consumes-trans _ _ _ _ _ c.loop-len.invariant.read c.in_ok-read.ensures.bytes.0);
    }
