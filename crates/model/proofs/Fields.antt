-- Tests on the fields of a record: equal links, equal values, the number that a link or a value holds, the words on its event.
use Rattle.std.specs.Prelude.{Option, None, Some}
use mathlib.Core.Path.{◌≡◌, refl, sym, subst, ap, ◌∙◌}
use mathlib.Core.Bool.{Bool, false, ◌&&◌}
use Prim.Native.Nat.{ℕ, zero, suc}
use lib.Dec.{eqb}
use Rattle.events.specs.declared.Value.{Value}
use Rattle.events.specs.declared.Value.TheVariants.{U, Known}
use Rattle.events.specs.Words.{is_init, is_read, is_write, is_update, is_na, is_sc, order_of, acquires, releases, at_one_location}
use Rattle.laws.specs.Says.{Says}
use Rattle.laws.proofs.Says.{says_no, says_T, says_eq, says_iff, says_and_then}
use Rattle.model.specs.Table.{Table, Source}

-- things that are told apart by a number of each
says_by_code :
    {A : Type 0} (code : A → ℕ) (back : ℕ → A) → ((a : A) → back (code a) ≡ a) → (a b : A) → Says (eqb (code a) (code b)) (a ≡ b)
says_by_code code back turn a b =
    says_iff (λ e. sym (turn a) ∙ (ap back e ∙ turn b)) (λ e. ap code e) (says_eq (code a) (code b))

abbrev link_code : Option ℕ → ℕ
link_code None = 0
link_code (Some n) = suc n

link_back : ℕ → Option ℕ
link_back zero = None
link_back (suc n) = Some n

link_turn : (l : Option ℕ) → link_back (link_code l) ≡ l
unfolding link_back
link_turn None = refl
link_turn (Some n) = refl

abbrev pub same_link : Option ℕ → Option ℕ → Bool
same_link l m = eqb (link_code l) (link_code m)

pub says_link : (l m : Option ℕ) → Says (same_link l m) (l ≡ m)
says_link = says_by_code link_code link_back link_turn

abbrev value_code : Option Value → ℕ
value_code None = 0
value_code (Some U) = 1
value_code (Some (Known n)) = suc (suc n)

value_back : ℕ → Option Value
value_back zero = None
value_back (suc zero) = Some U
value_back (suc (suc n)) = Some (Known n)

value_turn : (v : Option Value) → value_back (value_code v) ≡ v
unfolding value_back
value_turn None = refl
value_turn (Some U) = refl
value_turn (Some (Known n)) = refl

abbrev pub same_value : Option Value → Option Value → Bool
same_value v w = eqb (value_code v) (value_code w)

pub says_value : (v w : Option Value) → Says (same_value v w) (v ≡ w)
says_value = says_by_code value_code value_back value_turn

abbrev Leads : Option ℕ → Type 0
Leads None = ⊥
Leads (Some n) = Unit {0}

pub absent_to : {l : Option ℕ} {n : ℕ} → l ≡ None → l ≡ Some n → ⊥
absent_to e f = subst Leads (sym f ∙ e) tt

-- a link leads to one record
pub one_end : {l : Option ℕ} {r s : ℕ} → l ≡ Some s → l ≡ Some r → r ≡ s
one_end e f = cc

-- the link leads to a number that passes
abbrev pub link_that : Option ℕ → (ℕ → Bool) → Bool
link_that None f = false
link_that (Some n) f = f n

pub says_link_that :
    (l : Option ℕ) {f : ℕ → Bool} {P : ℕ → Type 0} → ((n : ℕ) → l ≡ Some n → Says (f n) (P n)) → Says (link_that l f) ((n : ℕ) × ((l ≡ Some n) × P n))
says_link_that None s = says_no (λ (n, (e, p)). absent_to refl e)
says_link_that (Some m) {P = P} s =
    says_iff (λ p. (m, (refl, p))) (λ (n, (e, p)). let q : n ≡ m = cc in subst P q p) (s m refl)

abbrev IsKnown : Option Value → Type 0
IsKnown None = ⊥
IsKnown (Some U) = ⊥
IsKnown (Some (Known n)) = Unit {0}

-- the value is known, and its number passes
abbrev pub known_that : Option Value → (ℕ → Bool) → Bool
known_that None f = false
known_that (Some U) f = false
known_that (Some (Known n)) f = f n

pub says_known_that :
    (v : Option Value) {f : ℕ → Bool} {P : ℕ → Type 0} → ((n : ℕ) → Says (f n) (P n)) → Says (known_that v f) ((n : ℕ) × ((v ≡ Some (Known n)) × P n))
says_known_that None s = says_no (λ (n, (e, p)). subst IsKnown (sym e) tt)
says_known_that (Some U) s = says_no (λ (n, (e, p)). subst IsKnown (sym e) tt)
says_known_that (Some (Known m)) {P = P} s =
    says_iff (λ p. (m, (refl, p))) (λ (n, (e, p)). let q : n ≡ m = cc in subst P q p) (s m)

-- ---- the words on the record of a number, as tests

module _ (t : Table) where
  abbrev pub init? : ℕ → Bool
  init? n = is_init (t.at n).event

  abbrev pub read? : ℕ → Bool
  read? n = is_read (t.at n).event

  abbrev pub write? : ℕ → Bool
  write? n = is_write (t.at n).event

  abbrev pub update? : ℕ → Bool
  update? n = is_update (t.at n).event

  abbrev pub na? : ℕ → Bool
  na? n = is_na (order_of (t.at n).event)

  abbrev pub sc? : ℕ → Bool
  sc? n = is_sc (order_of (t.at n).event)

  abbrev pub acquiring? : ℕ → Bool
  acquiring? n = acquires (order_of (t.at n).event)

  abbrev pub releasing? : ℕ → Bool
  releasing? n = releases (order_of (t.at n).event)

  abbrev pub at_one_location? : ℕ → ℕ → Bool
  at_one_location? a b = at_one_location (t.at a).event (t.at b).event

  -- record n has a source that passes
  abbrev pub source_that : ℕ → (ℕ → Bool) → Bool
  source_that n f = read? n && link_that (t.at n).source f

  pub says_source_that :
      (n : ℕ) {f : ℕ → Bool} {P : ℕ → Type 0} → ((s : ℕ) → Source t s n → Says (f s) (P s)) → Says (source_that n f) ((s : ℕ) × (Source t s n × P s))
  says_source_that n x =
      says_iff (λ (r, (s, (e, p))). (s, (record { reads = r; is = e }, p))) (λ (s, (c, p)). (c.reads, (s, (c.is, p))))
      (says_and_then (says_T (read? n)) (λ r. says_link_that (t.at n).source (λ s e. x s (record { reads = r; is = e }))))
