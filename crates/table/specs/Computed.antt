-- What the code computes: tests 6 to 8 of a record against the records before it. Nobody has to believe this page:
-- `proofs/Telling.antt` shows that it tells the definitions.
use Rattle.refusals.specs.declared.Fault.{Fault}
use Rattle.std.specs.Prelude.{Bool, true, false, not, ◌&&◌, ℕ, eqb, ltb, Option, None, Some, Err, Ok, Result}
use Rattle.laws.specs.Says.{any_below}
use Rattle.events.specs.declared.Value.{Value}
use Rattle.events.specs.declared.Value.TheVariants.{U, Known}
use Rattle.events.specs.declared.Event.{Event}
use Rattle.events.specs.declared.Event.TheVariants.{Init, Load, Store, Update}
use Rattle.events.specs.declared.Record.{Record}
use Rattle.events.specs.Words.{is_init}
use Rattle.refusals.specs.declared.Fault.TheVariants.{Parent, Source, Twin}
use Rattle.record.specs.Form.{pick}

-- ---- links and accesses

abbrev pub same_link : Option ℕ → Option ℕ → Bool
same_link None None = true
same_link None (Some q) = false
same_link (Some p) None = false
same_link (Some p) (Some q) = eqb p q

abbrev pub read_by : Event → Option (ℕ × Value)
read_by Init = None
read_by (Load o x v) = Some (x, v)
read_by (Store o x w) = None
read_by (Update o x v w) = Some (x, v)

abbrev pub written_by : Event → Option (ℕ × Value)
written_by Init = None
written_by (Load o x v) = None
written_by (Store o x w) = Some (x, w)
written_by (Update o x v w) = Some (x, w)

abbrev pub is_u : Value → Bool
is_u U = true
is_u (Known n) = false

abbrev pub same_value : Value → Value → Bool
same_value U U = true
same_value U (Known n) = false
same_value (Known m) U = false
same_value (Known m) (Known n) = eqb m n

-- the value read is u, or it is the known value written
abbrev pub agrees : Value → Value → Bool
agrees U w = true
agrees (Known v) U = false
agrees (Known v) (Known w) = eqb w v

-- what was written may be read at x with the value v
abbrev pub suits : Option (ℕ × Value) → ℕ → Value → Bool
suits None x v = false
suits (Some (y, w)) x v = eqb y x && agrees v w

-- two reads of one location with different values
abbrev pub branches : Option (ℕ × Value) → Option (ℕ × Value) → Bool
branches None b = false
branches (Some (x, v)) None = false
branches (Some (x, v)) (Some (y, w)) = eqb x y && not (same_value v w)

-- ---- one record, or two

abbrev pub rooted : Record → Bool
rooted r = is_init r.event && (eqb r.thread 0 && same_link r.parent None)

abbrev pub twinned : Record → Record → Bool
twinned a r =
    (same_link a.parent r.parent && eqb a.thread r.thread) && not (branches (read_by a.event) (read_by r.event))

-- the first fault is the answer
abbrev pub judged : Bool → Bool → Bool → Result (Unit {0}) Fault
judged parent source twin = pick parent (Err Parent) (pick source (Err Source) (pick twin (Err Twin) (Ok tt)))

-- ---- the tests of r as record n, after the records that `at` gives

module _ (at : ℕ → Record) (n : ℕ) where
  -- 6
  abbrev pub stood : ℕ → Bool
  stood thread = any_below (λ m. eqb (at m).thread thread) n

  -- under the parent p
  abbrev pub misplaced : ℕ → Record → Bool
  misplaced p r =
      pick (ltb p n) (pick (is_init r.event) (stood r.thread) (not (eqb (at p).thread r.thread))) true

  abbrev pub misplaced_by : Option ℕ → Record → Bool
  misplaced_by None r = true
  misplaced_by (Some p) r = misplaced p r

  unfoldable pub parent_fault : Record → Bool
  parent_fault r = pick (eqb n 0) (not (rooted r)) (misplaced_by r.parent r)

  -- 7: the value v was read at x, and record s is no write to have it from
  abbrev pub unfit : ℕ → ℕ → Value → Bool
  unfit s x v = pick (ltb s n) (not (suits (written_by (at s).event) x v)) true

  abbrev pub unfit_by : Option (ℕ × Value) → Option ℕ → Bool
  unfit_by None l = false
  unfit_by (Some (x, v)) None = not (is_u v)
  unfit_by (Some (x, v)) (Some s) = unfit s x v

  unfoldable pub source_fault : Record → Bool
  source_fault r = unfit_by (read_by r.event) r.source

  -- 8
  abbrev pub twin_fault : Record → Bool
  twin_fault r = any_below (λ m. twinned (at m) r) n

  -- of what was read as record n
  abbrev pub checked : Result Record Fault → Result (Unit {0}) Fault
  checked (Ok r) = judged (parent_fault r) (source_fault r) (twin_fault r)
  checked (Err f) = Err f
