-- The bytes of a record tell what the columns say of it.
use Rattle.std.specs.Prelude.{Option, None, Some}
use mathlib.Core.Path.{◌≡◌, refl, sym, ap, ap₂, subst, ◌∙◌}
use mathlib.Core.Bool.{Bool, true, false, ◌&&◌}
use mathlib.Core.List.{List}
use Prim.Native.Nat.{ℕ, ◌<◌, ◌≤◌}
use native.Mathlib.Omega.{arith}
use borrow.Author.Tests.{lt-ltb, le-ltb, eqb-true}
use lib.Dec.{eqb, ltb, leb}
use Rattle.events.specs.declared.Order.{Order}
use Rattle.events.specs.declared.Order.TheVariants.{Na, Acq, Rel, Ar, Sc}
use Rattle.events.specs.declared.Event.{Event}
use Rattle.events.specs.declared.Event.TheVariants.{Init, Load, Store, Update}
use Rattle.events.specs.declared.Record.{Record}
use Rattle.events.specs.declared.Value.{Value}
use Rattle.events.specs.Words.{order_of, code_of, acquires, releases}
use Rattle.record.specs.Form.{pick, byte_at, part, kind_byte, order_byte, location_byte, parent_byte, source_byte, link_from, order_from, event_from, read_from, written_from}
use Rattle.record.proofs.BytesBack.{order_of_row}
use Rattle.record.proofs.Cases.{four}
use Rattle.table.specs.Events.{events_of}
use Rattle.facts.specs.Sound.{One, Counted}
use Rattle.facts.proofs.Bytes.{read_of, field_told, kind_told, order_by}
use Rattle.facts.proofs.Records.{formed, one_of, few}
use Rattle.model.proofs.Facts.{has_source, source_is_earlier_write}
use Rattle.columns.specs.Columns.{no_number, link_number, no_place, place_of, kind_of, unless_init, parent_number, arm_number, source_number, sync_by, sync_number, place_number, kind_number, order_number, number_if, Known}
use Rattle.columns.specs.Codes.{place_from, arm_from, acquires_code, sync_from}

-- a byte is the number of the link that it is
link_number_lem : (x : ℕ) → link_number (link_from x) ≡ x
unfolding link_from
link_number_lem x = by (eqb x 255) refl
  where
    by : (t : Bool) → eqb x 255 ≡ t → link_number (pick t None (Some x)) ≡ x
    by true e = sym (eqb-true x 255 e)
    by false e = refl

module _ (o : Order) (x : ℕ) (v w : Value) where
  kind_by : (k : ℕ) → k < 4 → k ≡ kind_of (event_from k o x v w)
  unfolding event_from
  kind_by = four (λ (k : ℕ). k ≡ kind_of (event_from k o x v w)) refl refl refl refl

  place_by : (k : ℕ) → k < 4 → place_from k x ≡ place_of (event_from k o x v w)
  unfolding event_from
  place_by = four (λ (k : ℕ). place_from k x ≡ place_of (event_from k o x v w)) refl refl refl refl

arm_by_kind : (e : Event) (p : ℕ) → arm_from (kind_of e) p ≡ unless_init e p
arm_by_kind Init p = refl
arm_by_kind (Load o x v) p = refl
arm_by_kind (Store o x w) p = refl
arm_by_kind (Update o x v w) p = refl

module _ {b : List ℕ} {n : ℕ} (one : One b n) where
  pub parent_byte_lem : byte_at (part b n) 5 ≡ parent_number (events_of b) n
  parent_byte_lem = sym (link_number_lem (parent_byte (part b n))) ∙ ap link_number (field_told one (λ (r : Record). r.parent))

  pub source_byte_lem : byte_at (part b n) 6 ≡ source_number (events_of b) n
  source_byte_lem = sym (link_number_lem (source_byte (part b n))) ∙ ap link_number (field_told one (λ (r : Record). r.source))

  pub kind_byte_lem : byte_at (part b n) 2 ≡ kind_number (events_of b) n
  kind_byte_lem =
      kind_told one kind_of (λ k. k) (kind_by (order_from (order_byte (part b n))) (location_byte (part b n)) (read_from (part b n)) (written_from (part b n))) refl

  pub place_byte : place_from (byte_at (part b n) 2) (byte_at (part b n) 7) ≡ place_number (events_of b) n
  place_byte =
      kind_told one place_of (λ k. place_from k (location_byte (part b n)))
      (place_by (order_from (order_byte (part b n))) (location_byte (part b n)) (read_from (part b n)) (written_from (part b n))) refl

  pub arm_bytes : arm_from (byte_at (part b n) 2) (byte_at (part b n) 5) ≡ arm_number (events_of b) n
  arm_bytes = ap₂ arm_from kind_byte_lem parent_byte_lem ∙ arm_by_kind ((events_of b).at n).event (parent_number (events_of b) n)

  pub order_byte_lem : byte_at (part b n) 3 ≡ order_number (events_of b) n
  order_byte_lem =
      sym (order_of_row (kind_byte (part b n)) (order_byte (part b n)) (read_of one).row)
      ∙ ap code_of
      (kind_told one order_of (λ k. pick (eqb k 0) Na (order_from (order_byte (part b n))))
      (order_by (order_from (order_byte (part b n))) (location_byte (part b n)) (read_from (part b n)) (written_from (part b n))) refl)

acquires_code_lem : (o : Order) → acquires_code (code_of o) ≡ acquires o
acquires_code_lem Na = refl
acquires_code_lem Acq = refl
acquires_code_lem Rel = refl
acquires_code_lem Ar = refl
acquires_code_lem Sc = refl

releases_code : (o : Order) → leb 2 (code_of o) ≡ releases o
releases_code Na = refl
releases_code Acq = refl
releases_code Rel = refl
releases_code Ar = refl
releases_code Sc = refl

number_pick : (w : Bool) (s : ℕ) → pick w s no_number ≡ number_if w s
number_pick true s = refl
number_pick false s = refl

init_kind : (e : Event) → kind_of e ≡ 0 → e ≡ Init
init_kind Init h = refl
init_kind (Load o x v) h = absurd (omega (arith, h))
init_kind (Store o x w) h = absurd (omega (arith, h))
init_kind (Update o x v w) h = absurd (omega (arith, h))

module _ {b : List ℕ} {n : ℕ} (counted : Counted b n) where
  module _ (k : ℕ) (l : k < n) where
    -- sw
    abbrev sync : ℕ
    sync = sync_from k (source_byte (part b k)) (order_byte (part b k)) (order_byte (part b (source_byte (part b k))))

    sync_none : ((events_of b).at k).source ≡ None → sync ≡ no_number
    sync_none e =
        let s : source_byte (part b k) ≡ no_number = source_byte_lem (one_of counted l) ∙ ap link_number e in
        let f : ltb (source_byte (part b k)) k ≡ false = le-ltb (source_byte (part b k)) k (omega (arith, s, few counted)) in
        rw f

    sync_some : (s : ℕ) → ((events_of b).at k).source ≡ Some s → sync ≡ sync_by (events_of b) k (Some s)
    sync_some s e =
        let g : source_byte (part b k) ≡ s = source_byte_lem (one_of counted l) ∙ ap link_number e in
        let h = (source_is_earlier_write (formed counted) (has_source (formed counted) s k e)).earlier in
        let first : ltb (source_byte (part b k)) k ≡ true = lt-ltb (source_byte (part b k)) k (omega (arith, g, h)) in
        ap (λ (z : Bool). pick z (pick (acquires_code (order_byte (part b k)) && leb 2 (order_byte (part b (source_byte (part b k))))) (source_byte (part b k)) no_number) no_number) first
        ∙ (ap (λ (z : ℕ). pick (acquires_code (order_byte (part b k)) && leb 2 (order_byte (part b z))) z no_number) g
        ∙ (ap₂ (λ (x y : Bool). pick (x && y) s no_number) (ap acquires_code (order_byte_lem (one_of counted l)) ∙ acquires_code_lem (order_of ((events_of b).at k).event))
        (ap (leb 2) (order_byte_lem (one_of counted (omega (arith, h, l)))) ∙ releases_code (order_of ((events_of b).at s).event))
        ∙ number_pick (acquires (order_of ((events_of b).at k).event) && releases (order_of ((events_of b).at s).event)) s))

    sync_as : (link : Option ℕ) → ((events_of b).at k).source ≡ link → sync ≡ sync_by (events_of b) k link
    sync_as None e = sync_none e
    sync_as (Some s) e = sync_some s e

    pub sync_bytes : sync_from k (source_byte (part b k)) (order_byte (part b k)) (order_byte (part b (source_byte (part b k)))) ≡ sync_number (events_of b) k
    sync_bytes = sync_as ((events_of b).at k).source refl

  -- ---- what is known of the table

  location_low : (k : ℕ) → k < n → location_byte (part b k) ≤ 31
  location_low k l = (read_of (one_of counted l)).in_range.location

  pub known : Known (events_of b) n
  known = record {
    formed = formed counted;
    all = counted.all;
    few = few counted;
    located = λ k l. subst (λ (z : ℕ). z ≤ no_place) (place_byte (one_of counted l)) (low (eqb (byte_at (part b k) 2) 0) k l);
    somewhere = λ k l other. by k l other (eqb (byte_at (part b k) 2) 0) refl;
  }
    where
      low : (t : Bool) (k : ℕ) → k < n → pick t no_place (location_byte (part b k)) ≤ no_place
      low true k l = omega arith
      low false k l = let h = location_low k l in omega arith

      by : (k : ℕ) → k < n → ¬ (((events_of b).at k).event ≡ Init) → (t : Bool) → eqb (byte_at (part b k) 2) 0 ≡ t → place_number (events_of b) k < no_place
      by k l other true e = absurd (other (init_kind ((events_of b).at k).event (sym (kind_byte_lem (one_of counted l)) ∙ eqb-true (byte_at (part b k) 2) 0 e)))
      by k l other false e =
          let h = location_low k l in
          subst (λ (z : ℕ). z < no_place) (place_byte (one_of counted l)) (subst (λ (t : Bool). pick t no_place (location_byte (part b k)) < no_place) (sym e) (omega arith))
