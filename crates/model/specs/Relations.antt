-- The relations of document 01, in its order and its words.
use Rattle.std.specs.Prelude.{◌≡◌, ◌⊎◌, ℕ, ◌<◌}
use Rattle.laws.specs.Steps.{Plus}
use Rattle.model.specs.Table.{Table, Inside, thread, Parent, Source, NoSource, Read, Write, NA, SC, Acquiring, Releasing, OneLocation}

module _ (t : Table) where
  -- po: "a before b if a is a proper ancestor of b, found by climbing from parent to parent"
  abbrev pub Po : ℕ → ℕ → Type 0
  Po = Plus (Parent t)

  -- "equal to or above"
  pub data AtOrAbove (a : ℕ) : ℕ → Type 0 where
    equal : Inside t a → AtOrAbove a a
    above : {b : ℕ} → Po a b → AtOrAbove a b

  -- "have one thread, differ, and neither is above the other"
  pub record Apart (a b : ℕ) : Type 0 where
    pub one_thread : thread t a ≡ thread t b
    pub differ : ¬ (a ≡ b)
    pub not_above : ¬ Po a b
    pub not_below : ¬ Po b a

  -- cf (conflict): "some a' equal to or above a, and b' equal to or above b, have one thread, differ, and neither is above the other"
  pub record Conflict (a b : ℕ) : Type 0 where
    pub a' : ℕ
    pub b' : ℕ
    pub above_a : AtOrAbove a' a
    pub above_b : AtOrAbove b' b
    pub apart : Apart a' b'

  -- sw: "from a releasing source to an acquiring read of it"
  pub record Sw (s r : ℕ) : Type 0 where
    pub source : Source t s r
    pub releasing : Releasing t s
    pub acquiring : Acquiring t r

  -- hb: "one or more steps of po or sw"
  pub data PoOrSw (a b : ℕ) : Type 0 where
    by_po : Po a b → PoOrSw a b
    by_sw : Sw a b → PoOrSw a b

  abbrev pub Hb : ℕ → ℕ → Type 0
  Hb = Plus PoOrSw

  -- race: "two different records of one location, at least one a write, at least one NA, neither hb the other, not in conflict"
  pub record Race (a b : ℕ) : Type 0 where
    pub differ : ¬ (a ≡ b)
    pub one_location : OneLocation t a b
    pub a_write : Write t a ⊎ Write t b
    pub a_NA : NA t a ⊎ NA t b
    pub not_before : ¬ Hb a b
    pub not_after : ¬ Hb b a
    pub no_conflict : ¬ Conflict a b

  -- "w or a reader of w"
  pub data WriteOrReader (w : ℕ) : ℕ → Type 0 where
    the_write : WriteOrReader w w
    a_reader : {r : ℕ} → Source t w r → WriteOrReader w r

  -- wb0: "from write w to a different write w' of one location, if w or a reader of w is hb before w' or a reader of w'"
  pub record Wb0 (w w' : ℕ) : Type 0 where
    pub write : Write t w
    pub write' : Write t w'
    pub differ : ¬ (w ≡ w')
    pub one_location : OneLocation t w w'
    pub from : ℕ
    pub to : ℕ
    pub of_w : WriteOrReader w from
    pub of_w' : WriteOrReader w' to
    pub before : Hb from to

  -- wb: "one or more steps of wb0"
  abbrev pub Wb : ℕ → ℕ → Type 0
  Wb = Plus Wb0

  -- fr: "from a read to a write that its source is wb before, the read itself excepted"
  pub record Fr (r w : ℕ) : Type 0 where
    pub s : ℕ
    pub source : Source t s r
    pub before : Wb s w
    pub differ : ¬ (r ≡ w)

  -- po≠: "po between two records that don't both have one and the same location"
  pub record PoDiff (a b : ℕ) : Type 0 where
    pub before : Po a b
    pub not_one_location : ¬ OneLocation t a b

  -- "po≠, then hb, then po≠"
  pub record PoHbPo (a b : ℕ) : Type 0 where
    pub c : ℕ
    pub d : ℕ
    pub first : PoDiff a c
    pub then : Hb c d
    pub last : PoDiff d b

  -- hbsc, "between SC records: hb at one location; or po≠; or po≠, then hb, then po≠"
  pub data HbscBy (a b : ℕ) : Type 0 where
    at_one_location : Hb a b → OneLocation t a b → HbscBy a b
    by-po≠ : PoDiff a b → HbscBy a b
    by-po≠-hb-po≠ : PoHbPo a b → HbscBy a b

  pub record Hbsc (a b : ℕ) : Type 0 where
    pub sc_a : SC t a
    pub sc_b : SC t b
    pub by : HbscBy a b

  -- a step of A4: "hbsc, wb and fr together"
  pub data ScStepBy (a b : ℕ) : Type 0 where
    by_hbsc : Hbsc a b → ScStepBy a b
    by_wb : Wb a b → ScStepBy a b
    by_fr : Fr a b → ScStepBy a b

  -- "among SC records"
  pub record ScStep (a b : ℕ) : Type 0 where
    pub sc_a : SC t a
    pub sc_b : SC t b
    pub by : ScStepBy a b

  -- w is a write earlier in the table that races with r
  pub record EarlierRace (w r : ℕ) : Type 0 where
    pub earlier : w < r
    pub write : Write t w
    pub race : Race w r

  -- "no write earlier in the table races with it", "some earlier write races with it"
  abbrev pub SomeEarlierRace : ℕ → Type 0
  SomeEarlierRace r = (w : ℕ) × EarlierRace w r

  -- w is a write of r's location, hb before r
  pub record WriteBefore (w r : ℕ) : Type 0 where
    pub write : Write t w
    pub one_location : OneLocation t w r
    pub before : Hb w r

  abbrev pub SomeWriteBefore : ℕ → Type 0
  SomeWriteBefore r = (w : ℕ) × WriteBefore w r

  -- "A read with a source is justified if its source is hb before it and no write earlier in the table races with it.
  -- A read without a source is justified if no write of its location is hb before it, or some earlier write races with it."
  pub data Justified (r : ℕ) : Type 0 where
    with_source : {s : ℕ} → Source t s r → Hb s r → ¬ SomeEarlierRace r → Justified r
    no_write_before : NoSource t r → ¬ SomeWriteBefore r → Justified r
    races_earlier : NoSource t r → SomeEarlierRace r → Justified r

  -- "It stands on a race if it has no source, some write of its location is hb before it, and some earlier write races with it"
  pub record StandsOnRace (r : ℕ) : Type 0 where
    pub reads : Read t r
    pub no_source : NoSource t r
    pub write_before : SomeWriteBefore r
    pub race : SomeEarlierRace r
