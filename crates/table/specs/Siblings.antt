-- The columns by which a record's siblings are found: for each record its last child so far, and its parent's child before it.
use Rattle.std.specs.Prelude.{◌≡◌, Bool, not, ◌&&◌, List, ℕ, zero, suc, ◌<◌, ◌≤◌, eqb, length, get_or, Some}
use Rattle.events.specs.declared.Record.{Record}
use Rattle.record.specs.Form.{pick}
use Rattle.table.specs.Computed.{same_link, read_by, branches}
use Rattle.table.specs.Events.{events_of}
use Rattle.table.specs.Standing.{AllStand}

-- of two records with one parent
abbrev pub twinned_sibling : Record → Record → Bool
twinned_sibling a r = eqb a.thread r.thread && not (branches (read_by a.event) (read_by r.event))

-- the last record before number n whose parent is p; 255 for none
unfoldable pub last_child : (ℕ → Record) → ℕ → ℕ → ℕ
last_child at p zero = 255
last_child at p (suc n) = pick (same_link (at n).parent (Some p)) n (last_child at p n)

-- c is the last of p's children before number n, and each of them leads by `older` to the one before it
pub record Chain (at : ℕ → Record) (n : ℕ) (older : List ℕ) (p c : ℕ) : Type 0 where
  pub last : c ≡ last_child at p n
  pub before : (m : ℕ) → m < n → (at m).parent ≡ Some p → get_or older m 0 ≡ last_child at p m

-- the children before number n of the parent of `new`, from the youngest on
pub record Family (b : List ℕ) (n : ℕ) (older : List ℕ) (youngest : ℕ) (new : Record) : Type 0 where
  pub stand : AllStand b n
  pub reach : n ≤ length older
  pub small : length older ≤ 255
  pub parent : ℕ
  pub child : new.parent ≡ Some parent
  pub chain : Chain (events_of b).at n older parent youngest

-- the columns of the first n records, where they have room for so many
pub record Kept (b : List ℕ) (n : ℕ) (last older : List ℕ) : Type 0 where
  pub stand : AllStand b n
  pub small : length older ≤ 255
  pub chains : n ≤ length older → (p : ℕ) → p < length last → Chain (events_of b).at n older p (get_or last p 0)
