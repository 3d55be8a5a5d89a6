-- What a well-formed table has, record by record: refusals 6, 7 and 8 the other way round.
use Rattle.std.specs.Prelude.{Option, None, Some}
use mathlib.Core.Path.{◌≡◌, refl, sym, subst}
use Prim.Native.Nat.{ℕ, ◌<◌}
use native.Mathlib.Omega.{arith}
use native.Mathlib.Decide.{ℕ_discrete, dec_lt}
use lib.Dec.{T}
use Rattle.events.specs.declared.Record.{Record}
use Rattle.events.specs.Words.{is_read, is_write, is_sc, order_of, same_location, location_of, at_one_location}
use Rattle.laws.proofs.Says.{says_dec, says_T, says_eq, by_dec}
use Rattle.model.specs.Table.{Table, inert, Inside, thread, IsInit, Read, Parent, Source, Write, SC, OneLocation}
use Rattle.model.specs.WellFormed.{Root, no_root, no_parent, parent_not_earlier, other_thread, thread_stood, EarlierWrite, no_earlier_write, WellFormed}
use Rattle.model.proofs.Fields.{absent_to}
use Rattle.model.proofs.Refusals.{says_root, says_earlier_write}

-- ---- locations

location_same : (x y : Option ℕ) → T (same_location x y) → x ≡ y
location_same None None h = absurd h
location_same None (Some b) h = absurd h
location_same (Some a) None h = absurd h
location_same (Some a) (Some b) h = let e : a ≡ b = (says_eq a b).to h in λ i. Some (e i)

location_flip : (x y : Option ℕ) → T (same_location x y) → T (same_location y x)
location_flip x y h =
    let e = location_same x y h in
    subst (λ (z : Option ℕ). T (same_location z x)) e (subst (λ (z : Option ℕ). T (same_location x z)) (sym e) h)

location_none : (x : Option ℕ) → ¬ T (same_location None x)
location_none None h = h
location_none (Some b) h = h

module _ (t : Table) where
  abbrev location : ℕ → Option ℕ
  location n = location_of (t.at n).event

  pub location_sym : (a b : ℕ) → OneLocation t a b → OneLocation t b a
  location_sym a b = location_flip (location a) (location b)

  pub one_parent : (p q n : ℕ) → Parent t p n → Parent t q n → p ≡ q
  one_parent p q n e f = cc

  pub one_source : {r s n : ℕ} → Source t r n → Source t s n → r ≡ s
  one_source a b = cc

module _ {t : Table} (ok : WellFormed t) where
  -- what an inert record lacks is had inside the table only
  pub inside_by : (P : Record → Type 0) → ¬ P inert → (n : ℕ) → P (t.at n) → Inside t n
  inside_by P never n p = go (dec_lt n t.count)
    where
      go : Dec (Inside t n) → Inside t n
      go (yes h) = h
      go (no h) = absurd (never (subst P (ok.ends.past n (omega arith)) p))

  pub read_inside : (n : ℕ) → Read t n → Inside t n
  read_inside = inside_by (λ r. T (is_read r.event)) (λ h. h)

  pub write_inside : (n : ℕ) → Write t n → Inside t n
  write_inside = inside_by (λ r. T (is_write r.event)) (λ h. h)

  pub sc_inside : (n : ℕ) → SC t n → Inside t n
  sc_inside = inside_by (λ r. T (is_sc (order_of r.event))) (λ h. h)

  pub parent_inside : (p n : ℕ) → Parent t p n → Inside t n
  parent_inside p = inside_by (λ r. r.parent ≡ Some p) (absent_to refl)

  pub location_left : (a b : ℕ) → OneLocation t a b → Inside t a
  location_left a b =
      inside_by (λ r. T (at_one_location r.event (t.at b).event)) (location_none (location_of (t.at b).event)) a

  pub location_right : (a b : ℕ) → OneLocation t a b → Inside t b
  location_right a b h = location_left b a (location_sym t a b h)

  -- ---- refusal 6

  -- "record 0 is .. an Init of thread 0 without parent"
  pub root : Root t 0
  root = by_dec (says_dec (says_root t 0)) (λ n. (ok.sound 0 ok.some_record).not_6 (no_root refl n))

  pub child_not_root : (p n : ℕ) → Parent t p n → ¬ (n ≡ 0)
  child_not_root p n e z = absent_to root.no_parent (subst (λ (m : ℕ). Parent t p m) z e)

  pub has_parent : (n : ℕ) → Inside t n → ¬ (n ≡ 0) → (p : ℕ) × Parent t p n
  has_parent n h z = go (t.at n).parent refl
    where
      go : (l : Option ℕ) → (t.at n).parent ≡ l → (p : ℕ) × Parent t p n
      go None e = absurd ((ok.sound n h).not_6 (no_parent z e))
      go (Some p) e = (p, e)

  pub parent_earlier : (p n : ℕ) → Parent t p n → p < n
  parent_earlier p n e = go (dec_lt p n)
    where
      go : Dec (p < n) → p < n
      go (yes h) = h
      go (no h) =
          absurd ((ok.sound n (parent_inside p n e)).not_6 (parent_not_earlier (child_not_root p n e) e (omega arith)))

  pub thread_of_parent : (p n : ℕ) → Parent t p n → ¬ IsInit t n → thread t n ≡ thread t p
  thread_of_parent p n e i =
      by_dec (ℕ_discrete (thread t n) (thread t p))
      (λ d. (ok.sound n (parent_inside p n e)).not_6 (other_thread (child_not_root p n e) i e d))

  pub new_thread : (m n : ℕ) → Inside t n → IsInit t n → m < n → ¬ (thread t m ≡ thread t n)
  new_thread m n h i l e = (ok.sound n h).not_6 (thread_stood i l e)

  -- ---- refusal 7

  pub source_inside : {s n : ℕ} → Source t s n → Inside t n
  source_inside {n = n} c = read_inside n c.reads

  pub source_is_earlier_write : {s n : ℕ} → Source t s n → EarlierWrite t s n
  source_is_earlier_write {s} {n} c =
      by_dec (says_dec (says_earlier_write t s n)) (λ d. (ok.sound n (source_inside c)).not_7 (no_earlier_write c d))

  -- only reads have a source
  pub has_source : (s n : ℕ) → (t.at n).source ≡ Some s → Source t s n
  has_source s n e = record { reads = by_dec (says_dec (says_T (is_read (t.at n).event))) (λ d. absent_to ((ok.sound n inside).only_reads d) e); is = e }
    where
      inside : Inside t n
      inside = inside_by (λ r. r.source ≡ Some s) (absent_to refl) n e
