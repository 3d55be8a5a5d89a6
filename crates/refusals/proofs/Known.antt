-- A refusal is known by what is told of it.
use Rattle.std.specs.Prelude.{Option, None, Some}
use mathlib.Core.Path.{◌≡◌, refl, sym, ap, ◌∙◌}
use mathlib.Core.Bool.{cond}
use Prim.Native.Nat.{ℕ}
use lib.Dec.{eqb}
use Rattle.refusals.specs.declared.Fault.{Fault}
use Rattle.refusals.specs.declared.Fault.TheVariants.{Mark, Kind, Order, Rest, Thread, Location, Parent, Source, Twin}
use Rattle.refusals.specs.declared.Refusal.{Refusal}
use Rattle.refusals.specs.declared.Refusal.TheVariants.{Length, Record, Selection, Incomplete, Room, Full, Past, Header, Short}
use Rattle.refusals.specs.declared.Told.{Told}
use Rattle.refusals.specs.Numbers.{fault_number, fault_byte, told}

-- by its number and its byte
fault_from : ℕ → ℕ → Fault
fault_from k i =
    cond (eqb k 2) Mark
    (cond (eqb k 3) (cond (eqb i 2) Kind Order)
    (cond (eqb k 4) (Rest i) (cond (eqb k 5) (cond (eqb i 4) Thread Location) (cond (eqb k 6) Parent (cond (eqb k 7) Source Twin)))))

fault_back : (f : Fault) → fault_from (fault_number f) (fault_byte f) ≡ f
unfolding fault_from
fault_back Mark = refl
fault_back Kind = refl
fault_back Order = refl
fault_back (Rest i) = refl
fault_back Thread = refl
fault_back Location = refl
fault_back Parent = refl
fault_back Source = refl
fault_back Twin = refl

-- a refusal that names no byte, by its number and its place
placed_from : ℕ → ℕ → Refusal
placed_from k n =
    cond (eqb k 1) Length
    (cond (eqb k 9) Selection
    (cond (eqb k 10) (Incomplete n) (cond (eqb k 11) Room (cond (eqb k 12) Full (cond (eqb k 13) (Past n) (cond (eqb k 14) (Header n) (Short n)))))))

refusal_by : ℕ → ℕ → Option ℕ → Refusal
refusal_by k n None = placed_from k n
refusal_by k n (Some i) = Record (fault_from k i) n

refusal_from : Told → Refusal
refusal_from x = refusal_by x.number x.place x.byte

refusal_back : (r : Refusal) → refusal_from (told r) ≡ r
unfolding placed_from refusal_by refusal_from
refusal_back Length = refl
refusal_back (Record f n) = ap (λ (g : Fault). Record g n) (fault_back f)
refusal_back Selection = refl
refusal_back (Incomplete n) = refl
refusal_back Room = refl
refusal_back Full = refl
refusal_back (Past n) = refl
refusal_back (Header n) = refl
refusal_back (Short n) = refl

pub told_one : (r s : Refusal) → told r ≡ told s → r ≡ s
told_one r s e = sym (refusal_back r) ∙ (ap refusal_from e ∙ refusal_back s)

-- two refusals of which the same is told
pub same_refusal : {r s : Refusal} {x : Told} → told r ≡ x → told s ≡ x → r ≡ s
same_refusal {r} {s} e h = told_one r s (e ∙ sym h)
