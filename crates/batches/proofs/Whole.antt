-- Every batch holds one list of tables, and ends in one way.
use mathlib.Core.Path.{◌≡◌, refl, sym, ap₂, subst, ◌∙◌}
use mathlib.Core.List.{List, [], ◌∷◌}
use Prim.Native.Nat.{ℕ, zero, suc, ◌-◌, ◌<◌}
use native.Mathlib.Omega.{arith}
use lib.ListN.{length}
use Rattle.refusals.specs.declared.Told.{Told}
use Rattle.batches.specs.Batch.{End, refused, Standing, table, end, stands_at, part, HoldsFrom, no_more, one_more, Holds}
use Rattle.batches.proofs.Standing.{inside, never_both, SmallRefusal, refusal_small}

-- ---- one list, one end

-- the same tables, and the same end
pub record SameBatch (tables tables' : List (List ℕ)) (e e' : End) : Type 0 where
  pub list : tables ≡ tables'
  pub ending : e ≡ e'

from_one :
    {b : List ℕ} {place : ℕ} {tables tables' : List (List ℕ)} {e e' : End} → HoldsFrom b place tables e → HoldsFrom b place tables' e' → SameBatch tables tables' e e'
from_one (no_more {e = e} p) (no_more {e = e'} q) =
    let same : end e ≡ end e' = sym p ∙ q in
    record { list = refl; ending = cc }
from_one (no_more p) (one_more q _) = never_both q p
from_one (one_more p _) (no_more q) = never_both p q
from_one {b} (one_more {from = from} {to = to} {tables = ts} {e = e} p rest) (one_more {from = from'} {to = to'} {tables = ts'} {e = e'} q rest') =
    let same : table from to ≡ table from' to' = sym p ∙ q in
    let start : from ≡ from' = cc in
    let stop : to ≡ to' = cc in
    let more = from_one {e' = e'} rest (subst (λ (x : ℕ). HoldsFrom b x ts' e') (sym stop) rest') in
    record {
      list = ap₂ ◌∷◌ (ap₂ (part b) start stop) more.list;
      ending = more.ending;
    }

pub holds_one : {b : List ℕ} {tables tables' : List (List ℕ)} {e e' : End} → Holds b tables e → Holds b tables' e' → SameBatch tables tables' e e'
holds_one p q = from_one p.all q.all

-- ---- and there is one

pub record Held (b : List ℕ) (place : ℕ) : Type 0 where
  pub tables : List (List ℕ)
  pub ending : End
  pub holds : HoldsFrom b place tables ending

-- a table takes four bytes at least, so that fewer are left after it
held_within : (b : List ℕ) (bound place : ℕ) → length b - place < bound → Held b place
held_within b zero place h = absurd (omega arith)
held_within b (suc bound) place h = by (stands_at b place) refl (held_within b bound)
  where
    by : (s : Standing) → stands_at b place ≡ s → ((next : ℕ) → length b - next < bound → Held b next) → Held b place
    by (end e) is shorter = record { tables = []; ending = e; holds = no_more is }
    by (table from to) is shorter =
        let i = inside place is in
        let rest = shorter to (omega arith) in
        record { tables = part b from to ∷ rest.tables; ending = rest.ending; holds = one_more is rest.holds }

pub held : (b : List ℕ) → Held b 0
held b = held_within b (suc (length b)) 0 (omega arith)

-- ---- its refusal is one of a place of it

pub end_small : {b : List ℕ} {place : ℕ} {tables : List (List ℕ)} {x : Told} → HoldsFrom b place tables (refused x) → SmallRefusal x
end_small {b} (no_more {place = place} is) = refusal_small b place is
end_small (one_more _ rest) = end_small rest
