-- A well-formed table: refusals 6, 7 and 8 of document 01, each as a proposition on the record of a number, are given nowhere.
use Rattle.std.specs.Prelude.{◌≡◌, ℕ, ◌<◌, ◌≤◌, None, Some}
use Rattle.events.specs.declared.Value.{Value}
use Rattle.events.specs.declared.Value.TheVariants.{U, Known}
use Rattle.events.specs.Words.{read_of, written_of}
use Rattle.model.specs.Table.{Table, Ends, Inside, thread, Parent, Source, NoSource, IsInit, Read, Write, OneLocation}

module _ (t : Table) where
  abbrev pub ReadsValue : ℕ → Value → Type 0
  ReadsValue n v = read_of (t.at n).event ≡ Some v

  abbrev pub WritesValue : ℕ → Value → Type 0
  WritesValue n v = written_of (t.at n).event ≡ Some v

  -- "an Init of thread 0 without parent"
  pub record Root (n : ℕ) : Type 0 where
    pub init : IsInit t n
    pub thread_0 : thread t n ≡ 0
    pub no_parent : (t.at n).parent ≡ None

  -- 6, each clause in its turn
  pub data Refused6 (n : ℕ) : Type 0 where
    -- "record 0 is not an Init of thread 0 without parent"
    no_root : n ≡ 0 → ¬ Root n → Refused6 n
    -- "another record has no parent"
    no_parent : ¬ (n ≡ 0) → (t.at n).parent ≡ None → Refused6 n
    -- "or one not earlier"
    parent_not_earlier : {p : ℕ} → ¬ (n ≡ 0) → Parent t p n → n ≤ p → Refused6 n
    -- "a non-Init has another thread than its parent"
    other_thread : {p : ℕ} → ¬ (n ≡ 0) → ¬ IsInit t n → Parent t p n → ¬ (thread t n ≡ thread t p) → Refused6 n
    -- "an Init's thread has stood in an earlier record"
    thread_stood : {m : ℕ} → IsInit t n → m < n → thread t m ≡ thread t n → Refused6 n

  -- "an earlier write of the same location"
  pub record EarlierWrite (s n : ℕ) : Type 0 where
    pub earlier : s < n
    pub write : Write t s
    pub one_location : OneLocation t s n

  -- 7, of a read
  pub data Refused7 (n : ℕ) : Type 0 where
    -- "the source is not an earlier write of the same location"
    no_earlier_write : {s : ℕ} → Source t s n → ¬ EarlierWrite s n → Refused7 n
    -- "a known value written differs from the value read and that isn't u"
    other_value : {s w v : ℕ} → Source t s n → WritesValue s (Known w) → ReadsValue n (Known v) → ¬ (w ≡ v) → Refused7 n
    -- "u was written and a known value read"
    known_from_u : {s v : ℕ} → Source t s n → WritesValue s U → ReadsValue n (Known v) → Refused7 n
    -- "no source, and the value read is known"
    known_from_nothing : {v : ℕ} → NoSource t n → ReadsValue n (Known v) → Refused7 n

  -- "both reads of one location with different read values (u differs from every number)"
  pub record TwoReads (m n : ℕ) : Type 0 where
    pub read_m : Read t m
    pub read_n : Read t n
    pub one_location : OneLocation t m n
    pub different : ¬ (read_of (t.at m).event ≡ read_of (t.at n).event)

  -- 8
  pub data Refused8 (n : ℕ) : Type 0 where
    -- "an earlier record has the same parent and thread, and the two are not both reads of one location with different read values"
    twin : {m : ℕ} → m < n → (t.at m).parent ≡ (t.at n).parent → thread t m ≡ thread t n → ¬ TwoReads m n → Refused8 n

  -- none of the three is given for record n. A kind that lacks a source has none (refusal 4 sees to that in bytes)
  pub record Sound (n : ℕ) : Type 0 where
    pub not_6 : ¬ Refused6 n
    pub not_7 : ¬ Refused7 n
    pub not_8 : ¬ Refused8 n
    pub only_reads : ¬ Read t n → NoSource t n

  pub record WellFormed : Type 0 where
    pub some_record : 0 < t.count
    pub sound : (n : ℕ) → Inside t n → Sound n
    pub ends : Ends t
