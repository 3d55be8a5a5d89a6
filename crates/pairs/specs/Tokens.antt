-- Numbers of the kind 3 that took from one source.
use Rattle.std.specs.Prelude.{◌≡◌, List, ℕ, ◌<◌, ◌≤◌, length, get_or}
use Rattle.laws.specs.Steps.{Rel}
use Rattle.rows.specs.Rows.{Room}
use Rattle.rows.specs.Steps.{Leads, Then}

-- p took from s
pub record Taken (n : ℕ) (kind source : List ℕ) (p s : ℕ) : Type 0 where
  pub low : p < n
  pub takes : get_or kind p 0 ≡ 3
  pub from : Leads source s p

-- two of the numbers below n took from one source
pub record TakenTwice (n : ℕ) (kind source : List ℕ) : Type 0 where
  pub s : ℕ
  pub p : ℕ
  pub q : ℕ
  pub in_order : p < q
  pub by_p : Taken n kind source p s
  pub by_q : Taken n kind source q s

-- p and q, the earlier first, took from one source, and A does not relate them
pub record TwoTaken (kind source : List ℕ) (A : Rel) (p q : ℕ) : Type 0 where
  pub in_order : p < q
  pub takes_p : get_or kind p 0 ≡ 3
  pub takes_q : get_or kind q 0 ≡ 3
  pub s : ℕ
  pub from_p : Leads source s p
  pub from_q : Leads source s q
  pub apart : ¬ A p q

-- the same, where T says who took from each source
pub record TakenWith (kind source : List ℕ) (T A : Rel) (p q : ℕ) : Type 0 where
  pub takes : get_or kind q 0 ≡ 3
  pub from : Then T (Leads source) p q
  pub apart : ¬ A p q

-- columns, and room for those that took from each
pub record TakerRoom (w n : ℕ) (kind source : List ℕ) (takers : List (List ℕ)) : Type 0 where
  pub kinds : n ≤ length kind
  pub sources : n ≤ length source
  pub for_takers : Room w n n takers
