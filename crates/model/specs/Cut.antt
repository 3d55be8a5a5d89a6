-- What it is to cut a table down, and what is claimed of a cut.
use Rattle.std.specs.Prelude.{◌≡◌, ◌↔◌, Bool, true, false, ℕ, zero, suc, T, Option, None, Some}
use Rattle.events.specs.declared.Record.{Record}
use Rattle.findings.specs.declared.Finding.{Finding}
use Rattle.model.specs.Table.{Table, Ends, Inside, Parent, Source}
use Rattle.model.specs.Relations.{Po, Hb, Conflict, Race, EarlierRace, StandsOnRace}
use Rattle.model.specs.WellFormed.{WellFormed}
use Rattle.model.specs.Findings.{Holds}

abbrev pub link_by : (ℕ → ℕ) → Option ℕ → Option ℕ
link_by f None = None
link_by f (Some n) = Some (f n)

-- a record with "parent and source as the new numbers of the same records" and all else as it was
abbrev pub renumbered : (ℕ → ℕ) → Record → Record
renumbered f r =
    record { thread = r.thread; parent = link_by f r.parent; source = link_by f r.source; event = r.event }

-- k n says whether record n is kept. The new number of record n: how many records before it are kept
abbrev pub one_more_if : Bool → ℕ → ℕ
one_more_if true n = suc n
one_more_if false n = n

abbrev pub new_number : (ℕ → Bool) → ℕ → ℕ
new_number k zero = zero
new_number k (suc n) = one_more_if (k n) (new_number k n)

-- t' is the cut of t: "the kept records in their old order, parent and source as the new numbers of the same records"
pub record CutOf (k : ℕ → Bool) (t t' : Table) : Type 0 where
  pub count : t'.count ≡ new_number k t.count
  pub kept : (n : ℕ) → Inside t n → T (k n) → t'.at (new_number k n) ≡ renumbered (new_number k) (t.at n)
  pub ends : Ends t'

-- the kept record n lacks neither "its parent, its source, or its racing write"
pub record Complete (k : ℕ → Bool) (t : Table) (n : ℕ) : Type 0 where
  pub parent : (p : ℕ) → Parent t p n → T (k p)
  pub source : (s : ℕ) → Source t s n → T (k s)
  -- "one of those racing writes"
  pub racing_write : StandsOnRace t n → (w : ℕ) × (T (k w) × EarlierRace t w n)

-- a selection that refusals 9 and 10 let pass
pub record Selection (k : ℕ → Bool) (t : Table) : Type 0 where
  pub some_kept : (n : ℕ) × (Inside t n × T (k n))
  pub complete : (n : ℕ) → Inside t n → T (k n) → Complete k t n

-- the kept records m and n, and the same two under their new numbers, are related alike
abbrev pub SameFor : (ℕ → Bool) → Table → (ℕ → ℕ → Type 0) → (ℕ → ℕ → Type 0) → Type 0
SameFor k t R R' =
    (m n : ℕ) → Inside t m → T (k m) → Inside t n → T (k n) → R m n ↔ R' (new_number k m) (new_number k n)

-- demand 3: cutting a table down invents no fault
pub record NoFaultInvented (k : ℕ → Bool) (t t' : Table) : Type 0 where
  pub well_formed : WellFormed t'
  -- "kept records are ordered (po and hb), conflict and race exactly as in the whole"
  pub same_po : SameFor k t (Po t) (Po t')
  pub same_hb : SameFor k t (Hb t) (Hb t')
  pub same_conflict : SameFor k t (Conflict t) (Conflict t')
  pub same_race : SameFor k t (Race t) (Race t')
  -- "each finding absent from the whole is absent from the cut"
  pub no_finding : (f : Finding) → ¬ Holds t f → ¬ Holds t' f
