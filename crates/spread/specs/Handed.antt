-- What rows hold while each number, from the highest down, hands up what stands under it.
use Rattle.std.specs.Prelude.{List, ℕ, ◌≤◌}
use Rattle.laws.specs.Steps.{Rel}
use Rattle.rows.specs.declared.set.Set.{Set}
use Rattle.rows.specs.Sets.{In}
use Rattle.rows.specs.Rows.{On}
use Rattle.rows.specs.Steps.{Leads}
use Rattle.spread.specs.Apart.{Under, UnderArms}

-- what row p of m had, and the set if the column leads from p to b
pub data HandedUp (w : ℕ) (column : List ℕ) (m : List (List ℕ)) (b : ℕ) (s : Set w) (a p : ℕ) : Type 0 where
  was : On w m a p → HandedUp w column m b s a p
  handed : Leads column p b → In s a → HandedUp w column m b s a p

module _ (n : ℕ) (parent : List ℕ) (lo : ℕ) where
  -- the rows from lo on are complete, and the lower ones have what children from lo on handed up
  pub data UnderFrom (X : Rel) (a p : ℕ) : Type 0 where
    whole : lo ≤ p → Under n parent X a p → UnderFrom X a p
    of_child : (c : ℕ) → lo ≤ c → Leads parent p c → Under n parent X a c → UnderFrom X a p

  -- what arms from lo on handed up
  pub record ArmsFrom (arm : List ℕ) (X : Rel) (a p : ℕ) : Type 0 where
    pub among : UnderArms n parent arm X a p
    pub high : lo ≤ among.of
