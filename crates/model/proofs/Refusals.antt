-- Refusals 6, 7 and 8 as tests, and that each test tells its definition; so for a whole table.
use Rattle.std.specs.Prelude.{None, Some}
use mathlib.Core.Path.{◌≡◌, refl}
use mathlib.Core.Logic.{inl, inr}
use mathlib.Core.Bool.{Bool, true, not, ◌&&◌, ◌||◌}
use mathlib.Core.List.{List, [], ◌∷◌}
use Prim.Native.Nat.{ℕ, zero, suc, ◌≤◌}
use native.Mathlib.Omega.{arith}
use lib.Dec.{eqb, leb, ltb}
use lib.ListN.{length, get_or}
use Rattle.events.specs.declared.Value.TheVariants.{U}
use Rattle.events.specs.declared.Record.{Record}
use Rattle.events.specs.Words.{read_of, written_of}
use Rattle.laws.specs.Says.{Says, any_below}
use Rattle.laws.proofs.Says.{says_T, says_eq, says_lt, says_le, says_not, says_and, says_or, says_if, says_iff, says_any_below, says_all}
use Rattle.model.specs.Table.{Table, Ends, inert, listed, thread}
use Rattle.model.specs.WellFormed.{Root, Refused6, no_root, no_parent, parent_not_earlier, other_thread, thread_stood, EarlierWrite, Refused7, no_earlier_write, other_value, known_from_u, known_from_nothing, TwoReads, Refused8, twin, Sound, WellFormed}
use Rattle.model.proofs.Fields.{same_link, says_link, same_value, says_value, link_that, says_link_that, known_that, says_known_that, init?, read?, write?, at_one_location?, source_that, says_source_that}

module _ (t : Table) where
  abbrev pub root? : ℕ → Bool
  root? n = init? t n && (eqb (thread t n) 0 && same_link (t.at n).parent None)

  pub says_root : (n : ℕ) → Says (root? n) (Root t n)
  says_root n =
      says_iff (λ (a, (b, c)). record { init = a; thread_0 = b; no_parent = c }) (λ r. (r.init, (r.thread_0, r.no_parent)))
      (says_and (says_T (init? t n)) (says_and (says_eq (thread t n) 0) (says_link (t.at n).parent None)))

  -- a test for each clause of 6, in the definition's order
  abbrev pub refused6? : ℕ → Bool
  refused6? n =
      (eqb n 0 && not (root? n))
      || ((not (eqb n 0) && same_link (t.at n).parent None)
      || ((not (eqb n 0) && link_that (t.at n).parent (λ p. leb n p))
      || ((not (eqb n 0) && (not (init? t n) && link_that (t.at n).parent (λ p. not (eqb (thread t n) (thread t p)))))
      || (init? t n && any_below (λ m. eqb (thread t m) (thread t n)) n))))

  pub says_6 : (n : ℕ) → Says (refused6? n) (Refused6 t n)
  says_6 n =
      let later = says_not (says_eq n 0) in
      let parent = (t.at n).parent in
      let init = says_T (init? t n) in
      says_iff
      (λ x. elim x [
        | inl (z, r) ↦ no_root z r
        | inr (inl (z, e)) ↦ no_parent z e
        | inr (inr (inl (z, (p, (e, l))))) ↦ parent_not_earlier z e l
        | inr (inr (inr (inl (z, (i, (p, (e, d))))))) ↦ other_thread z i e d
        | inr (inr (inr (inr (i, (m, (l, e)))))) ↦ thread_stood i l e
      ])
      (λ x. elim x [
        | no_root z r ↦ inl (z, r)
        | no_parent z e ↦ inr (inl (z, e))
        | parent_not_earlier {p} z e l ↦ inr (inr (inl (z, (p, (e, l)))))
        | other_thread {p} z i e d ↦ inr (inr (inr (inl (z, (i, (p, (e, d)))))))
        | thread_stood {m} i l e ↦ inr (inr (inr (inr (i, (m, (l, e))))))
      ])
      (says_or (says_and (says_eq n 0) (says_not (says_root n)))
      (says_or (says_and later (says_link parent None))
      (says_or (says_and later (says_link_that parent (λ p e. says_le n p)))
      (says_or (says_and later (says_and (says_not init) (says_link_that parent (λ p e. says_not (says_eq (thread t n) (thread t p))))))
      (says_and init (says_any_below (λ m l. says_eq (thread t m) (thread t n))))))))

  abbrev earlier_write? : ℕ → ℕ → Bool
  earlier_write? s n = ltb s n && (write? t s && at_one_location? t s n)

  pub says_earlier_write : (s n : ℕ) → Says (earlier_write? s n) (EarlierWrite t s n)
  says_earlier_write s n =
      says_iff (λ (a, (b, c)). record { earlier = a; write = b; one_location = c }) (λ w. (w.earlier, (w.write, w.one_location)))
      (says_and (says_lt s n) (says_and (says_T (write? t s)) (says_T (at_one_location? t s n))))

  abbrev reads_known : ℕ → (ℕ → Bool) → Bool
  reads_known n = known_that (read_of (t.at n).event)

  abbrev pub refused7? : ℕ → Bool
  refused7? n =
      source_that t n (λ s. not (earlier_write? s n))
      || (source_that t n (λ s. known_that (written_of (t.at s).event) (λ w. reads_known n (λ v. not (eqb w v))))
      || (source_that t n (λ s. same_value (written_of (t.at s).event) (Some U) && reads_known n (λ v. true))
      || (same_link (t.at n).source None && reads_known n (λ v. true))))

  pub says_7 : (n : ℕ) → Says (refused7? n) (Refused7 t n)
  says_7 n =
      let value = read_of (t.at n).event in
      says_iff
      (λ x. elim x [
        | inl (s, (c, e)) ↦ no_earlier_write c e
        | inr (inl (s, (c, (w, (a, (v, (b, d))))))) ↦ other_value c a b d
        | inr (inr (inl (s, (c, (a, (v, (b, _))))))) ↦ known_from_u c a b
        | inr (inr (inr (e, (v, (b, _))))) ↦ known_from_nothing e b
      ])
      (λ x. elim x [
        | no_earlier_write {s} c e ↦ inl (s, (c, e))
        | other_value {s} {w} {v} c a b d ↦ inr (inl (s, (c, (w, (a, (v, (b, d)))))))
        | known_from_u {s} {v} c a b ↦ inr (inr (inl (s, (c, (a, (v, (b, tt)))))))
        | known_from_nothing {v} e b ↦ inr (inr (inr (e, (v, (b, tt)))))
      ])
      (says_or (says_source_that t n (λ s c. says_not (says_earlier_write s n)))
      (says_or (says_source_that t n (λ s c. says_known_that (written_of (t.at s).event) (λ w. says_known_that value (λ v. says_not (says_eq w v)))))
      (says_or (says_source_that t n (λ s c. says_and (says_value (written_of (t.at s).event) (Some U)) (says_known_that value (λ v. says_T true))))
      (says_and (says_link (t.at n).source None) (says_known_that value (λ v. says_T true))))))

  abbrev two_reads? : ℕ → ℕ → Bool
  two_reads? m n =
      read? t m && (read? t n && (at_one_location? t m n && not (same_value (read_of (t.at m).event) (read_of (t.at n).event))))

  pub says_two_reads : (m n : ℕ) → Says (two_reads? m n) (TwoReads t m n)
  says_two_reads m n =
      says_iff (λ (a, (b, (c, d))). record { read_m = a; read_n = b; one_location = c; different = d }) (λ r. (r.read_m, (r.read_n, (r.one_location, r.different))))
      (says_and (says_T (read? t m))
      (says_and (says_T (read? t n))
      (says_and (says_T (at_one_location? t m n))
      (says_not (says_value (read_of (t.at m).event) (read_of (t.at n).event))))))

  abbrev pub refused8? : ℕ → Bool
  refused8? n =
      any_below (λ m. same_link (t.at m).parent (t.at n).parent && (eqb (thread t m) (thread t n) && not (two_reads? m n))) n

  pub says_8 : (n : ℕ) → Says (refused8? n) (Refused8 t n)
  says_8 n =
      says_iff (λ (m, (l, (e, (d, x)))). twin l e d x) (λ x. elim x [ twin {m} l e d y ↦ (m, (l, (e, (d, y)))) ])
      (says_any_below λ m l.
      says_and (says_link (t.at m).parent (t.at n).parent) (says_and (says_eq (thread t m) (thread t n)) (says_not (says_two_reads m n))))

  abbrev pub sound? : ℕ → Bool
  sound? n =
      not (refused6? n) && (not (refused7? n) && (not (refused8? n) && (not (not (read? t n)) || same_link (t.at n).source None)))

  pub says_sound : (n : ℕ) → Says (sound? n) (Sound t n)
  says_sound n =
      says_iff (λ (a, (b, (c, d))). record { not_6 = a; not_7 = b; not_8 = c; only_reads = d }) (λ s. (s.not_6, (s.not_7, (s.not_8, s.only_reads))))
      (says_and (says_not (says_6 n))
      (says_and (says_not (says_7 n))
      (says_and (says_not (says_8 n)) (says_if (says_not (says_T (read? t n))) (says_link (t.at n).source None)))))

  -- of a table that ends with its last record
  unfoldable pub well_formed? : Bool
  well_formed? = ltb 0 t.count && not (any_below (λ n. not (sound? n)) t.count)

  pub says_well_formed : Ends t → Says well_formed? (WellFormed t)
  unfolding well_formed?
  says_well_formed ends =
      says_iff (λ (a, b). record { some_record = a; sound = b; ends = ends }) (λ w. (w.some_record, w.sound))
      (says_and (says_lt 0 t.count) (says_all (λ n l. says_sound n)))

pub listed_ends : (l : List Record) → Ends (listed l)
listed_ends l = record { past = past l }
  where
    past : (l : List Record) (n : ℕ) → length l ≤ n → get_or l n inert ≡ inert
    past [] n h = refl
    past (r ∷ l) zero h = absurd (omega arith)
    past (r ∷ l) (suc n) h = past l n (omega arith)

pub well_formed_says : (l : List Record) → Says (well_formed? (listed l)) (WellFormed (listed l))
well_formed_says l = says_well_formed (listed l) (listed_ends l)
