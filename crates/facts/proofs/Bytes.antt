-- What the bytes of a record that decodes say of it.
use Rattle.std.specs.Prelude.{None, Some}
use mathlib.Core.Path.{◌≡◌, refl, sym, ap, ap₂, ◌∙◌}
use mathlib.Core.Bool.{Bool, true, false, not, ◌&&◌, ◌||◌}
use mathlib.Core.List.{List}
use Prim.Native.Nat.{ℕ, ◌+◌, ◌*◌, ◌<◌, ◌≤◌}
use native.Mathlib.Omega.{arith}
use lib.Dec.{eqb}
use lib.ListN.{length, get_or}
use lib.Seq.{get_or-take, get_or-drop}
use Rattle.events.specs.declared.Order.{Order}
use Rattle.events.specs.declared.Order.TheVariants.{Na, Acq, Rel, Ar, Sc}
use Rattle.events.specs.declared.Value.{Value}
use Rattle.events.specs.declared.Event.{Event}
use Rattle.events.specs.declared.Record.{Record}
use Rattle.events.specs.Words.{is_read, is_write, is_update, is_na, is_sc, order_of, location_of, code_of, same_location, at_one_location}
use Rattle.record.specs.Form.{pick, byte_at, kind_byte, order_byte, location_byte, reads_kind, writes_kind, order_from, event_from, read_from, written_from, record_from, part}
use Rattle.record.proofs.BytesBack.{kind_below, order_of_row}
use Rattle.record.proofs.Cases.{four}
use Rattle.record.proofs.RoundTrip.{Passed, passed}
use Rattle.table.specs.Events.{events_of}
use Rattle.facts.specs.Sound.{One}

pub byte_of_part : (b : List ℕ) (n i : ℕ) → i < 16 → get_or b (16 * n + i) 0 ≡ byte_at (part b n) i
byte_of_part b n i h = sym (rw (get_or-take, get_or-drop))

-- the bytes of a record of a sound table were read as that record, and there is room for them
module _ {b : List ℕ} {n : ℕ} (one : One b n) where
  pub read_of : Passed (part b n) ((events_of b).at n)
  read_of = passed (part b n) ((events_of b).at n) (one.sound.decodes n one.inside)

  pub room_of : 16 * n + 16 ≤ length b
  room_of = omega (arith, one.sound.size, one.inside)

-- ---- the event that a kind and its fields make

module _ (o : Order) (x : ℕ) (v w : Value) where
  reads_by : (k : ℕ) → k < 4 → (eqb k 1 || eqb k 3) ≡ is_read (event_from k o x v w)
  unfolding event_from
  reads_by = four (λ (k : ℕ). (eqb k 1 || eqb k 3) ≡ is_read (event_from k o x v w)) refl refl refl refl

  writes_by : (k : ℕ) → k < 4 → (eqb k 2 || eqb k 3) ≡ is_write (event_from k o x v w)
  unfolding event_from
  writes_by = four (λ (k : ℕ). (eqb k 2 || eqb k 3) ≡ is_write (event_from k o x v w)) refl refl refl refl

  updates_by : (k : ℕ) → k < 4 → eqb k 3 ≡ is_update (event_from k o x v w)
  unfolding event_from
  updates_by = four (λ (k : ℕ). eqb k 3 ≡ is_update (event_from k o x v w)) refl refl refl refl

  pub order_by : (k : ℕ) → k < 4 → pick (eqb k 0) Na o ≡ order_of (event_from k o x v w)
  unfolding event_from
  order_by = four (λ (k : ℕ). pick (eqb k 0) Na o ≡ order_of (event_from k o x v w)) refl refl refl refl

  location_by : (k : ℕ) → k < 4 → pick (eqb k 0) None (Some x) ≡ location_of (event_from k o x v w)
  unfolding event_from
  location_by = four (λ (k : ℕ). pick (eqb k 0) None (Some x) ≡ location_of (event_from k o x v w)) refl refl refl refl

-- ---- the orders by their codes

pub na_by_code : (o : Order) → eqb (code_of o) 0 ≡ is_na o
na_by_code Na = refl
na_by_code Acq = refl
na_by_code Rel = refl
na_by_code Ar = refl
na_by_code Sc = refl

pub sc_by_code : (o : Order) → eqb (code_of o) 4 ≡ is_sc o
sc_by_code Na = refl
sc_by_code Acq = refl
sc_by_code Rel = refl
sc_by_code Ar = refl
sc_by_code Sc = refl

order_back : (o : Order) → order_from (code_of o) ≡ o
unfolding order_from
order_back Na = refl
order_back Acq = refl
order_back Rel = refl
order_back Ar = refl
order_back Sc = refl

-- ---- what the bytes of a record of a sound table tell

module _ {b : List ℕ} {n : ℕ} (one : One b n) where
  abbrev bytes : List ℕ
  bytes = part b n

  pub field_told : {A : Type 0} (field : Record → A) → field (record_from bytes) ≡ field ((events_of b).at n)
  field_told field = ap field (read_of one).same

  -- a word on its event, by its kind
  pub kind_told :
      {A : Type 0} (word : Event → A) (by_kind : ℕ → A)
      → ((k : ℕ) → k < 4 → by_kind k ≡ word (event_from k (order_from (order_byte bytes)) (location_byte bytes) (read_from bytes) (written_from bytes))) → {k : ℕ}
      → k ≡ kind_byte bytes → by_kind k ≡ word ((events_of b).at n).event
  kind_told word by_kind same e =
      ap by_kind e ∙ (same (kind_byte bytes) (kind_below (kind_byte bytes) (order_byte bytes) (read_of one).row) ∙ field_told (λ r. word r.event))

  pub reads_told : {k : ℕ} → k ≡ kind_byte bytes → reads_kind k ≡ is_read ((events_of b).at n).event
  reads_told = kind_told is_read reads_kind (reads_by (order_from (order_byte bytes)) (location_byte bytes) (read_from bytes) (written_from bytes))

  pub writes_told : {k : ℕ} → k ≡ kind_byte bytes → writes_kind k ≡ is_write ((events_of b).at n).event
  writes_told = kind_told is_write writes_kind (writes_by (order_from (order_byte bytes)) (location_byte bytes) (read_from bytes) (written_from bytes))

  pub updates_told : {k : ℕ} → k ≡ kind_byte bytes → eqb k 3 ≡ is_update ((events_of b).at n).event
  updates_told =
      kind_told is_update (λ k. eqb k 3) (updates_by (order_from (order_byte bytes)) (location_byte bytes) (read_from bytes) (written_from bytes))

  location_told : pick (eqb (kind_byte bytes) 0) None (Some (location_byte bytes)) ≡ location_of ((events_of b).at n).event
  location_told =
      kind_told location_of (λ k. pick (eqb k 0) None (Some (location_byte bytes)))
      (location_by (order_from (order_byte bytes)) (location_byte bytes) (read_from bytes) (written_from bytes)) refl

  -- the order that the code stands for: a code in an Init's row is NA's
  pub order_told : order_from (order_byte bytes) ≡ order_of ((events_of b).at n).event
  order_told =
      ap order_from (sym (order_of_row (kind_byte bytes) (order_byte bytes) (read_of one).row))
      ∙ (order_back (pick (eqb (kind_byte bytes) 0) Na (order_from (order_byte bytes)))
      ∙ kind_told order_of (λ k. pick (eqb k 0) Na (order_from (order_byte bytes)))
      (order_by (order_from (order_byte bytes)) (location_byte bytes) (read_from bytes) (written_from bytes)) refl)

located : (i j : Bool) (x y : ℕ) → ((not i && not j) && eqb x y) ≡ same_location (pick i None (Some x)) (pick j None (Some y))
located true true x y = refl
located true false x y = refl
located false true x y = refl
located false false x y = refl

pub one_location_told :
    {b : List ℕ} {m n : ℕ} → One b m → One b n
    → ((not (eqb (kind_byte (part b m)) 0) && not (eqb (kind_byte (part b n)) 0)) && eqb (location_byte (part b m)) (location_byte (part b n))) ≡ at_one_location ((events_of b).at m).event ((events_of b).at n).event
one_location_told {b} {m} {n} one other =
    located (eqb (kind_byte (part b m)) 0) (eqb (kind_byte (part b n)) 0) (location_byte (part b m)) (location_byte (part b n))
    ∙ ap₂ same_location (location_told one) (location_told other)
