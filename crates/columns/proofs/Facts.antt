-- What each column tells of one record, or of two.
use Rattle.std.specs.Prelude.{Option, None, Some}
use mathlib.Core.Path.{◌≡◌, refl, sym, ap, subst, ◌∙◌}
use mathlib.Core.Bool.{Bool, true, false, ◌&&◌}
use mathlib.Core.List.{List}
use Prim.Native.Nat.{ℕ, ◌<◌, ◌≤◌}
use native.Mathlib.Omega.{arith}
use lib.Dec.{T, eqb, eqb→eq, eqb_refl}
use lib.ListN.{get_or}
use Rattle.events.specs.declared.Order.{Order}
use Rattle.events.specs.declared.Order.TheVariants.{Na, Acq, Rel, Ar, Sc}
use Rattle.events.specs.declared.Event.{Event}
use Rattle.events.specs.declared.Event.TheVariants.{Init, Load, Store, Update}
use Rattle.events.specs.Words.{is_init, is_write, is_update, is_na, is_sc, order_of, code_of, at_one_location, acquires, releases}
use Rattle.rows.specs.Steps.{Leads}
use Rattle.model.specs.Table.{Table, Inside, Parent, Source, IsInit, IsUpdate, Write, NA, SC, Releasing, OneLocation}
use Rattle.model.specs.Relations.{Sw}
use Rattle.model.proofs.Facts.{parent_earlier, has_source, source_is_earlier_write}
use Rattle.columns.specs.Columns.{no_number, number_if, link_number, no_place, place_of, kind_of, unless_init, parent_number, arm_number, source_number, sync_by, sync_number, place_number, kind_number, order_number, Column, Known}

number_link : (l : Option ℕ) (a : ℕ) → a < no_number → link_number l ≡ a → l ≡ Some a
number_link None a h e = absurd (omega arith)
number_link (Some s) a h e = ap Some e

number_if_lem : (w : Bool) (s a : ℕ) → a < no_number → number_if w s ≡ a → T w × (s ≡ a)
number_if_lem true s a l e = (tt, e)
number_if_lem false s a l e = absurd (omega arith)

both_true : (x y : Bool) → T (x && y) → T x × T y
both_true true true z = (tt, tt)
both_true true false z = absurd z
both_true false y z = absurd z

true_both : (x y : Bool) → T x → T y → T (x && y)
true_both true true p q = tt
true_both true false p q = absurd q
true_both false y p q = absurd p

if_number : (w : Bool) (s : ℕ) → T w → number_if w s ≡ s
if_number true s h = refl
if_number false s h = absurd h

not_init_number : (e : Event) (n a : ℕ) → a < no_number → unless_init e n ≡ a → ¬ T (is_init e) × (n ≡ a)
not_init_number Init n a l h = absurd (omega arith)
not_init_number (Load o x v) n a l h = ((λ z. z), h)
not_init_number (Store o x w) n a l h = ((λ z. z), h)
not_init_number (Update o x v w) n a l h = ((λ z. z), h)

number_not_init : (e : Event) (n : ℕ) → ¬ T (is_init e) → unless_init e n ≡ n
number_not_init Init n h = absurd (h tt)
number_not_init (Load o x v) n h = refl
number_not_init (Store o x w) n h = refl
number_not_init (Update o x v w) n h = refl

-- ---- kinds and orders by their codes

write_kind : (e : Event) → T (is_write e) → 2 ≤ kind_of e
write_kind Init h = absurd h
write_kind (Load o x v) h = absurd h
write_kind (Store o x w) h = omega arith
write_kind (Update o x v w) h = omega arith

kind_write : (e : Event) → 2 ≤ kind_of e → T (is_write e)
kind_write Init h = absurd (omega arith)
kind_write (Load o x v) h = absurd (omega arith)
kind_write (Store o x w) h = tt
kind_write (Update o x v w) h = tt

update_kind : (e : Event) → T (is_update e) → kind_of e ≡ 3
update_kind Init h = absurd h
update_kind (Load o x v) h = absurd h
update_kind (Store o x w) h = absurd h
update_kind (Update o x v w) h = refl

kind_update : (e : Event) → kind_of e ≡ 3 → T (is_update e)
kind_update Init h = absurd (omega (arith, h))
kind_update (Load o x v) h = absurd (omega (arith, h))
kind_update (Store o x w) h = absurd (omega (arith, h))
kind_update (Update o x v w) h = tt

na_code : (o : Order) → T (is_na o) → code_of o ≡ 0
na_code Na h = refl
na_code Acq h = absurd h
na_code Rel h = absurd h
na_code Ar h = absurd h
na_code Sc h = absurd h

code_na : (o : Order) → code_of o ≡ 0 → T (is_na o)
code_na Na h = tt
code_na Acq h = absurd (omega (arith, h))
code_na Rel h = absurd (omega (arith, h))
code_na Ar h = absurd (omega (arith, h))
code_na Sc h = absurd (omega (arith, h))

sc_code : (o : Order) → T (is_sc o) → code_of o ≡ 4
sc_code Na h = absurd h
sc_code Acq h = absurd h
sc_code Rel h = absurd h
sc_code Ar h = absurd h
sc_code Sc h = refl

code_sc : (o : Order) → code_of o ≡ 4 → T (is_sc o)
code_sc Na h = absurd (omega (arith, h))
code_sc Acq h = absurd (omega (arith, h))
code_sc Rel h = absurd (omega (arith, h))
code_sc Ar h = absurd (omega (arith, h))
code_sc Sc h = tt

-- ---- one place is one location

place_location : (e f : Event) → place_of e < no_place → place_of e ≡ place_of f → T (at_one_location e f)
place_location Init f l h = absurd (omega arith)
place_location (Load o x v) Init l h = absurd (omega (arith, h))
place_location (Load o x v) (Load p y u) l h = subst (λ z. T (eqb x z)) h (eqb_refl x)
place_location (Load o x v) (Store p y u) l h = subst (λ z. T (eqb x z)) h (eqb_refl x)
place_location (Load o x v) (Update p y u s) l h = subst (λ z. T (eqb x z)) h (eqb_refl x)
place_location (Store o x v) Init l h = absurd (omega (arith, h))
place_location (Store o x v) (Load p y u) l h = subst (λ z. T (eqb x z)) h (eqb_refl x)
place_location (Store o x v) (Store p y u) l h = subst (λ z. T (eqb x z)) h (eqb_refl x)
place_location (Store o x v) (Update p y u s) l h = subst (λ z. T (eqb x z)) h (eqb_refl x)
place_location (Update o x v w) Init l h = absurd (omega (arith, h))
place_location (Update o x v w) (Load p y u) l h = subst (λ z. T (eqb x z)) h (eqb_refl x)
place_location (Update o x v w) (Store p y u) l h = subst (λ z. T (eqb x z)) h (eqb_refl x)
place_location (Update o x v w) (Update p y u s) l h = subst (λ z. T (eqb x z)) h (eqb_refl x)

location_place : (e f : Event) → T (at_one_location e f) → place_of e ≡ place_of f
location_place Init Init h = absurd h
location_place Init (Load p y u) h = absurd h
location_place Init (Store p y u) h = absurd h
location_place Init (Update p y u s) h = absurd h
location_place (Load o x v) Init h = absurd h
location_place (Load o x v) (Load p y u) h = eqb→eq x y h
location_place (Load o x v) (Store p y u) h = eqb→eq x y h
location_place (Load o x v) (Update p y u s) h = eqb→eq x y h
location_place (Store o x v) Init h = absurd h
location_place (Store o x v) (Load p y u) h = eqb→eq x y h
location_place (Store o x v) (Store p y u) h = eqb→eq x y h
location_place (Store o x v) (Update p y u s) h = eqb→eq x y h
location_place (Update o x v w) Init h = absurd h
location_place (Update o x v w) (Load p y u) h = eqb→eq x y h
location_place (Update o x v w) (Store p y u) h = eqb→eq x y h
location_place (Update o x v w) (Update p y u s) h = eqb→eq x y h

no_location_init : (e : Event) → ¬ T (at_one_location e Init)
no_location_init Init h = h
no_location_init (Load o x v) h = h
no_location_init (Store o x w) h = h
no_location_init (Update o x v w) h = h

module _ {t : Table} {n : ℕ} (k : Known t n) where
  pub inside : {b : ℕ} → b < n → Inside t b
  inside {b} l = omega (arith, k.all, l)

  pub below : {b : ℕ} → Inside t b → b < n
  below {b} i = omega (arith, k.all, i)

  -- a number that a column leads to a record from is the number of a record
  low : {a b : ℕ} → b < n → a < b → a < no_number
  low l h = omega (arith, k.few)

  -- ---- columns of links

  module _ {parent : List ℕ} (c : Column n (parent_number t) parent) {a b : ℕ} (l : b < n) where
    pub led_by_parent : Leads parent a b → Parent t a b
    led_by_parent x = number_link (t.at b).parent a (low l x.falls) (sym (c.says b l) ∙ x.is)

    pub parent_leads : Parent t a b → Leads parent a b
    parent_leads e = record { is = c.says b l ∙ ap link_number e; falls = parent_earlier k.formed a b e }

  module _ {arm : List ℕ} (c : Column n (arm_number t) arm) {a b : ℕ} (l : b < n) where
    pub led_by_arm : Leads arm a b → Parent t a b × (¬ IsInit t b)
    led_by_arm x =
        let (i, e) = not_init_number (t.at b).event (parent_number t b) a (low l x.falls) (sym (c.says b l) ∙ x.is) in
        (number_link (t.at b).parent a (low l x.falls) e, i)

    pub arm_leads : Parent t a b → ¬ IsInit t b → Leads arm a b
    arm_leads e i =
        record { is = c.says b l ∙ (number_not_init (t.at b).event (parent_number t b) i ∙ ap link_number e); falls = parent_earlier k.formed a b e }

  module _ {source : List ℕ} (c : Column n (source_number t) source) {a b : ℕ} (l : b < n) where
    pub led_by_source : Leads source a b → Source t a b
    led_by_source x = has_source k.formed a b (number_link (t.at b).source a (low l x.falls) (sym (c.says b l) ∙ x.is))

    pub source_leads : Source t a b → Leads source a b
    source_leads s = record { is = c.says b l ∙ ap link_number s.is; falls = (source_is_earlier_write k.formed s).earlier }

  module _ {sync : List ℕ} (c : Column n (sync_number t) sync) {a b : ℕ} (l : b < n) where
    pub led_by_sync : Leads sync a b → Sw t a b
    led_by_sync x = by (t.at b).source refl (sym (c.says b l) ∙ x.is)
      where
        by : (s : Option ℕ) → (t.at b).source ≡ s → sync_by t b s ≡ a → Sw t a b
        by None e h = let z = low l x.falls in absurd (omega (arith, h, z))
        by (Some s) e h =
            let (w, q) = number_if_lem (acquires (order_of (t.at b).event) && releases (order_of (t.at s).event)) s a (low l x.falls) h in
            let (p, r) = both_true (acquires (order_of (t.at b).event)) (releases (order_of (t.at s).event)) w in
            record { source = has_source k.formed a b (e ∙ ap Some q); releasing = subst (Releasing t) q r; acquiring = p }

    pub sync_leads : Sw t a b → Leads sync a b
    sync_leads s = record {
      is =
          c.says b l ∙ (ap (sync_by t b) s.source.is
          ∙ if_number (acquires (order_of (t.at b).event) && releases (order_of (t.at a).event)) a
          (true_both (acquires (order_of (t.at b).event)) (releases (order_of (t.at a).event)) s.acquiring s.releasing));
      falls = (source_is_earlier_write k.formed s.source).earlier;
    }

  -- ---- columns of codes

  module _ {kind : List ℕ} (c : Column n (kind_number t) kind) {b : ℕ} (l : b < n) where
    pub kind_writes : 2 ≤ get_or kind b 0 → Write t b
    kind_writes h = kind_write (t.at b).event (omega (arith, h, c.says b l))

    pub writes_kind_lem : Write t b → 2 ≤ get_or kind b 0
    writes_kind_lem w = omega (arith, write_kind (t.at b).event w, c.says b l)

    pub kind_updates : get_or kind b 0 ≡ 3 → IsUpdate t b
    kind_updates h = kind_update (t.at b).event (sym (c.says b l) ∙ h)

    pub updates_kind : IsUpdate t b → get_or kind b 0 ≡ 3
    updates_kind u = c.says b l ∙ update_kind (t.at b).event u

  module _ {order : List ℕ} (c : Column n (order_number t) order) {b : ℕ} (l : b < n) where
    pub order_na : get_or order b 0 ≡ 0 → NA t b
    order_na h = code_na (order_of (t.at b).event) (sym (c.says b l) ∙ h)

    pub na_order : NA t b → get_or order b 0 ≡ 0
    na_order h = c.says b l ∙ na_code (order_of (t.at b).event) h

    pub order_sc : get_or order b 0 ≡ 4 → SC t b
    order_sc h = code_sc (order_of (t.at b).event) (sym (c.says b l) ∙ h)

    pub sc_order : SC t b → get_or order b 0 ≡ 4
    sc_order h = c.says b l ∙ sc_code (order_of (t.at b).event) h

  module _ {place : List ℕ} (c : Column n (place_number t) place) {a b : ℕ} (i : a < n) (l : b < n) where
    pub one_place : OneLocation t a b → get_or place a 0 ≡ get_or place b 0
    one_place h = c.says a i ∙ (location_place (t.at a).event (t.at b).event h ∙ sym (c.says b l))

    pub one_location : get_or place a 0 < no_place → get_or place a 0 ≡ get_or place b 0 → OneLocation t a b
    one_location h e = place_location (t.at a).event (t.at b).event (omega (arith, h, c.says a i)) (sym (c.says a i) ∙ (e ∙ c.says b l))

  -- a write stands somewhere
  pub write_located : {place : List ℕ} (c : Column n (place_number t) place) {b : ℕ} → b < n → Write t b → get_or place b 0 < no_place
  write_located c {b} l w =
      let h = k.somewhere b l (λ e. subst (λ (x : Event). T (is_write x)) e w) in
      omega (arith, h, c.says b l)

  -- what has one location with another stands somewhere
  pub located : {place : List ℕ} (c : Column n (place_number t) place) (a b : ℕ) → b < n → OneLocation t a b → get_or place b 0 < no_place
  located c a b l h =
      let i = k.somewhere b l (λ e. no_location_init (t.at a).event (subst (λ (x : Event). T (at_one_location (t.at a).event x)) e h)) in
      omega (arith, i, c.says b l)
