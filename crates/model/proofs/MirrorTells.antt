-- On a well-formed table each test of the mirror tells its definition.
use Rattle.std.specs.Prelude.{None, Some}
use mathlib.Core.Path.{◌≡◌, refl, subst}
use mathlib.Core.Logic.{◌⊎◌, inl, inr}
use Prim.Native.Nat.{ℕ}
use native.Mathlib.Omega.{arith}
use Rattle.laws.specs.Says.{Says}
use Rattle.laws.proofs.Says.{says_T, says_eq, says_lt, says_not, says_and, says_or, says_iff, says_any}
use Rattle.model.specs.Table.{Table, Inside, thread, Source, NoSource}
use Rattle.model.specs.Relations.{Po, AtOrAbove, equal, above, Apart, Conflict, Sw, by_po, by_sw, Hb, Race, WriteOrReader, the_write, a_reader, Wb0, Wb, Fr, PoDiff, PoHbPo, HbscBy, at_one_location, by-po≠, by-po≠-hb-po≠, by_hbsc, by_wb, by_fr, ScStep, SomeEarlierRace, SomeWriteBefore, Justified, with_source, no_write_before, races_earlier}
use Rattle.model.specs.WellFormed.{WellFormed}
use Rattle.model.specs.Findings.{ShowsR, ShowsA2, ShowsA3, ShowsA5, ShowsW}
use Rattle.model.proofs.Fields.{says_link, read?, write?, update?, na?, sc?, acquiring?, releasing?, at_one_location?, says_source_that}
use Rattle.model.proofs.Within.{parent_within, po_within, source_within, po_or_sw_within, hb_within, above_within}
use Rattle.model.proofs.MirrorRows.{Tells, Rows, rows, look, plus, rows_tell, plus_tells}
use Rattle.model.proofs.Mirror.{source?, no_source?, po_rows, at_or_above?, apart?, conflict?, conflict_rows, sw?, po_or_sw?, hb_rows, race?, race_rows, write_or_reader?, wb0?, fr?, po_diff?, po_hb_po?, hbsc?, sc_step?, earlier_race?, write_before?, justified?, shows_r?, shows_a2?, shows_a3?, shows_a5?, shows_w?}

says_source : (t : Table) (s r : ℕ) → Says (source? t s r) (Source t s r)
says_source t s r =
    says_iff (λ (d, e). record { reads = d; is = e }) (λ c. (c.reads, c.is)) (says_and (says_T (read? t r)) (says_link (t.at r).source (Some s)))

says_sw : (t : Table) (s r : ℕ) → Says (sw? t s r) (Sw t s r)
says_sw t s r =
    says_iff (λ (c, (x, y)). record { source = c; releasing = x; acquiring = y }) (λ c. (c.source, (c.releasing, c.acquiring)))
    (says_and (says_source t s r) (says_and (says_T (releasing? t s)) (says_T (acquiring? t r))))

says_write_or_reader : (t : Table) (w x : ℕ) → Says (write_or_reader? t w x) (WriteOrReader t w x)
says_write_or_reader t w x =
    says_iff (λ z. elim z [ inl e ↦ subst (WriteOrReader t w) e the_write | inr c ↦ a_reader c ]) back
    (says_or (says_eq w x) (says_source t w x))
  where
    back : {x : ℕ} → WriteOrReader t w x → (w ≡ x) ⊎ Source t w x
    back the_write = inl refl
    back (a_reader c) = inr c

module _ {t : Table} (ok : WellFormed t) where
  pub po_tells : Tells t.count (look (po_rows t)) (Po t)
  po_tells = plus_tells (record { each = λ p n _ _. says_link (t.at n).parent (Some p) }) (parent_within ok)

  module _ (po : Rows) (po_ok : Tells t.count (look po) (Po t)) where
    says_above : (a b : ℕ) → Inside t a → Inside t b → Says (at_or_above? t po a b) (AtOrAbove t a b)
    says_above a b x y =
        says_iff (λ z. elim z [ inl e ↦ subst (AtOrAbove t a) e (equal x) | inr u ↦ above u ]) back
        (says_or (says_eq a b) (po_ok.each a b x y))
      where
        back : {b : ℕ} → AtOrAbove t a b → (a ≡ b) ⊎ Po t a b
        back (equal h) = inl refl
        back (above u) = inr u

    says_apart : (a b : ℕ) → Inside t a → Inside t b → Says (apart? t po a b) (Apart t a b)
    says_apart a b x y =
        says_iff (λ (e, (d, (p, q))). record { one_thread = e; differ = d; not_above = p; not_below = q })
        (λ c. (c.one_thread, (c.differ, (c.not_above, c.not_below))))
        (says_and (says_eq (thread t a) (thread t b))
        (says_and (says_not (says_eq a b)) (says_and (says_not (po_ok.each a b x y)) (says_not (po_ok.each b a y x)))))

    conflict_tells : Tells t.count (look (rows t.count (conflict? t po))) (Conflict t)
    conflict_tells = rows_tell (record {
      each = λ a b x y.
          says_iff (λ (a', (u, (b', (v, k)))). record { a' = a'; b' = b'; above_a = u; above_b = v; apart = k })
          (λ c. (c.a', (c.above_a, (c.b', (c.above_b, c.apart)))))
          (says_any (λ a' (u, z). (above_within ok).left u) λ a' x'.
          says_and (says_above a' a x' x)
          (says_any (λ b' (v, k). (above_within ok).left v) λ b' y'.
          says_and (says_above b' b y' y) (says_apart a' b' x' y')));
    })

    hb_tells : Tells t.count (look (plus t.count (po_or_sw? t po))) (Hb t)
    hb_tells =
        plus_tells (record {
          each = λ a b x y.
              says_iff (λ z. elim z [ inl u ↦ by_po u | inr s ↦ by_sw s ]) (λ z. elim z [ by_po u ↦ inl u | by_sw s ↦ inr s ])
              (says_or (po_ok.each a b x y) (says_sw t a b));
        }) (po_or_sw_within ok)

  module _ (cf hb : Rows) (cf_ok : Tells t.count (look cf) (Conflict t)) (hb_ok : Tells t.count (look hb) (Hb t)) where
    race_tells : Tells t.count (look (rows t.count (race? t cf hb))) (Race t)
    race_tells = rows_tell (record {
      each = λ a b x y.
          says_iff
          (λ (d, (l, (w, (m, (p, (q, c)))))). record { differ = d; one_location = l; a_write = w; a_NA = m; not_before = p; not_after = q; no_conflict = c })
          (λ r. (r.differ, (r.one_location, (r.a_write, (r.a_NA, (r.not_before, (r.not_after, r.no_conflict)))))))
          (says_and (says_not (says_eq a b))
          (says_and (says_T (at_one_location? t a b))
          (says_and (says_or (says_T (write? t a)) (says_T (write? t b)))
          (says_and (says_or (says_T (na? t a)) (says_T (na? t b)))
          (says_and (says_not (hb_ok.each a b x y)) (says_and (says_not (hb_ok.each b a y x)) (says_not (cf_ok.each a b x y))))))));
    })

    pub A2_tells : Tells t.count (shows_a2? t cf hb) (ShowsA2 t)
    A2_tells = record {
      each = λ p q x y.
          says_iff (λ (c, b). record { conflict = c; before = b }) (λ f. (f.conflict, f.before)) (says_and (cf_ok.each p q x y) (hb_ok.each p q x y));
    }

    pub A3_tells : Tells t.count (shows_a3? t cf hb) (ShowsA3 t)
    A3_tells = record {
      each = λ r' r x y.
          says_iff (λ (b, (s', (c', (s, (c, k))))). record { before = b; s' = s'; s = s; source' = c'; source = c; conflict = k })
          (λ f. (f.before, (f.s', (f.source', (f.s, (f.source, f.conflict))))))
          (says_and (hb_ok.each r' r x y)
          (says_source_that t r' λ s' c'.
          says_source_that t r λ s c.
          cf_ok.each s' s ((source_within ok).left c') ((source_within ok).left c)));
    }

    pub A5_tells : Tells t.count (shows_a5? t cf) (ShowsA5 t)
    A5_tells = record {
      each = λ p q x y.
          says_iff (λ (o, (u, (v, ((s, (c, d)), n)))). record { in_order = o; update_p = u; update_q = v; s = s; source_p = c; source_q = d; no_conflict = n })
          (λ f. (f.in_order, (f.update_p, (f.update_q, ((f.s, (f.source_p, f.source_q)), f.no_conflict)))))
          (says_and (says_lt p q)
          (says_and (says_T (update? t p))
          (says_and (says_T (update? t q))
          (says_and (says_source_that t p (λ s c. says_source t s q)) (says_not (cf_ok.each p q x y))))));
    }

  module _ (hb : Rows) (hb_ok : Tells t.count (look hb) (Hb t)) where
    pub wb0_tells : Tells t.count (look (rows t.count (wb0? t hb))) (Wb0 t)
    wb0_tells = rows_tell (record {
      each = λ w w' _ _.
          says_iff
          (λ (p, (p', (d, (l, (x, (u, (y, (v, b)))))))). record { write = p; write' = p'; differ = d; one_location = l; from = x; to = y; of_w = u; of_w' = v; before = b })
          (λ c. (c.write, (c.write', (c.differ, (c.one_location, (c.from, (c.of_w, (c.to, (c.of_w', c.before)))))))))
          (says_and (says_T (write? t w))
          (says_and (says_T (write? t w'))
          (says_and (says_not (says_eq w w'))
          (says_and (says_T (at_one_location? t w w'))
          (says_any (λ x (u, (y, (v, b))). (hb_within ok).left b) λ x h.
          says_and (says_write_or_reader t w x)
          (says_any (λ y (v, b). (hb_within ok).right b) λ y k.
          says_and (says_write_or_reader t w' y) (hb_ok.each x y h k)))))));
    })

    pub says_write_before : (r : ℕ) → Inside t r → Says (write_before? t hb r) (SomeWriteBefore t r)
    says_write_before r y = says_any (λ w c. (hb_within ok).left c.before) λ w x.
        says_iff (λ (p, (l, b)). record { write = p; one_location = l; before = b }) (λ c. (c.write, (c.one_location, c.before)))
        (says_and (says_T (write? t w)) (says_and (says_T (at_one_location? t w r)) (hb_ok.each w r x y)))

    module _ (race : Rows) (race_ok : Tells t.count (look race) (Race t)) where
      pub says_earlier_race : (r : ℕ) → Inside t r → Says (earlier_race? t race r) (SomeEarlierRace t r)
      says_earlier_race r y = says_any (λ w c. c.earlier) λ w l.
          says_iff (λ (p, c). record { earlier = l; write = p; race = c }) (λ c. (c.write, c.race))
          (says_and (says_T (write? t w)) (race_ok.each w r (omega arith) y))

      pub says_justified : (r : ℕ) → Inside t r → Says (justified? t hb race r) (Justified t r)
      says_justified r y =
          says_iff
          (λ z. elim z [
            | inl (s, (c, (b, e))) ↦ with_source c b e
            | inr (inl (e, n)) ↦ no_write_before e n
            | inr (inr (e, c)) ↦ races_earlier e c
          ])
          (λ z. elim z [
            | with_source {s} c b e ↦ inl (s, (c, (b, e)))
            | no_write_before e n ↦ inr (inl (e, n))
            | races_earlier e c ↦ inr (inr (e, c))
          ])
          (says_or (says_source_that t r (λ s c. says_and (hb_ok.each s r ((source_within ok).left c) y) (says_not (says_earlier_race r y))))
          (says_or (says_and no_source (says_not (says_write_before r y))) (says_and no_source (says_earlier_race r y))))
        where
          no_source : Says (no_source? t r) (NoSource t r)
          no_source = says_link (t.at r).source None

      pub says_R : (r : ℕ) → Inside t r → Says (shows_r? t hb race r) (ShowsR t r)
      says_R r y =
          says_iff (λ (d, n). record { reads = d; not_justified = n }) (λ c. (c.reads, c.not_justified))
          (says_and (says_T (read? t r)) (says_not (says_justified r y)))

      pub W_tells : Tells t.count (shows_w? t race) (ShowsW t)
      W_tells = record {
        each = λ p q x y.
            says_iff (λ (o, (u, (v, r))). record { in_order = o; write_p = u; write_q = v; race = r }) (λ c. (c.in_order, (c.write_p, (c.write_q, c.race))))
            (says_and (says_lt p q) (says_and (says_T (write? t p)) (says_and (says_T (write? t q)) (race_ok.each p q x y))));
      }

  module _ (po hb wb : Rows) (po_ok : Tells t.count (look po) (Po t)) (hb_ok : Tells t.count (look hb) (Hb t)) (wb_ok : Tells t.count (look wb) (Wb t)) where
    says_po_diff : (a b : ℕ) → Inside t a → Inside t b → Says (po_diff? t po a b) (PoDiff t a b)
    says_po_diff a b x y =
        says_iff (λ (u, n). record { before = u; not_one_location = n }) (λ c. (c.before, c.not_one_location))
        (says_and (po_ok.each a b x y) (says_not (says_T (at_one_location? t a b))))

    says_po_hb_po : (a b : ℕ) → Inside t a → Inside t b → Says (po_hb_po? t po hb a b) (PoHbPo t a b)
    says_po_hb_po a b x y =
        says_iff (λ (c, (p, (d, (m, q)))). record { c = c; d = d; first = p; then = m; last = q }) (λ z. (z.c, (z.first, (z.d, (z.then, z.last)))))
        (says_any (λ c (p, z). (po_within ok).right p.before) λ c h.
        says_and (says_po_diff a c x h)
        (says_any (λ d (m, q). (po_within ok).left q.before) λ d k.
        says_and (hb_ok.each c d h k) (says_po_diff d b k y)))

    says_hbsc : (a b : ℕ) → Inside t a → Inside t b → Says (hbsc? t po hb a b) (HbscBy t a b)
    says_hbsc a b x y =
        says_iff (λ z. elim z [ inl (h, l) ↦ at_one_location h l | inr (inl p) ↦ by-po≠ p | inr (inr p) ↦ by-po≠-hb-po≠ p ])
        (λ z. elim z [ at_one_location h l ↦ inl (h, l) | by-po≠ p ↦ inr (inl p) | by-po≠-hb-po≠ p ↦ inr (inr p) ])
        (says_or (says_and (hb_ok.each a b x y) (says_T (at_one_location? t a b))) (says_or (says_po_diff a b x y) (says_po_hb_po a b x y)))

    says_fr : (r w : ℕ) → Inside t w → Says (fr? t wb r w) (Fr t r w)
    says_fr r w y =
        says_iff (λ (d, (s, (c, b))). record { s = s; source = c; before = b; differ = d }) (λ c. (c.differ, (c.s, (c.source, c.before))))
        (says_and (says_not (says_eq r w)) (says_source_that t r (λ s c. wb_ok.each s w ((source_within ok).left c) y)))

    pub sc_tells : Tells t.count (look (rows t.count (sc_step? t po hb wb))) (ScStep t)
    sc_tells = rows_tell (record {
      each = λ a b x y.
          says_iff
          (λ (p, (q, z)). record { sc_a = p; sc_b = q; by = elim z [ inl h ↦ by_hbsc (record { sc_a = p; sc_b = q; by = h }) | inr (inl h) ↦ by_wb h | inr (inr h) ↦ by_fr h ] })
          (λ c. (c.sc_a, (c.sc_b, elim c.by [ by_hbsc h ↦ inl h.by | by_wb h ↦ inr (inl h) | by_fr h ↦ inr (inr h) ])))
          (says_and (says_T (sc? t a))
          (says_and (says_T (sc? t b)) (says_or (says_hbsc a b x y) (says_or (wb_ok.each a b x y) (says_fr a b y)))));
    })

  -- ---- the rows of a table

  pub conflict_told : Tells t.count (look (conflict_rows t)) (Conflict t)
  conflict_told = conflict_tells (po_rows t) po_tells

  pub hb_told : Tells t.count (look (hb_rows t)) (Hb t)
  hb_told = hb_tells (po_rows t) po_tells

  pub race_told : Tells t.count (look (race_rows t)) (Race t)
  race_told = race_tells (conflict_rows t) (hb_rows t) conflict_told hb_told
