-- Relations whose steps stay within classes, and relations whose steps rise.
use Rattle.std.specs.Prelude.{◌≡◌, List, ℕ, ◌<◌, ◌≤◌, length, get_or}
use Rattle.rows.specs.Rows.{On, Cell, Room}

-- a column of classes below h, the members of each, and a matrix whose steps lead from a number of a class to one of its members
pub record InClasses (w n h : ℕ) (class : List ℕ) (members m : List (List ℕ)) : Type 0 where
  pub column : n ≤ length class
  pub known : (a : ℕ) → a < n → get_or class a 0 < h
  pub for_members : Room w n h members
  pub for_m : Room w n n m
  -- numbers below n only
  pub low : (a b : ℕ) → Cell w n m a b → a < n
  pub within : (a b : ℕ) → Cell w n m a b → On w members b (get_or class a 0)
  -- a step more stays in the class
  pub one_class : (a b : ℕ) → Cell w n m a b → get_or class a 0 ≡ get_or class b 0

-- a matrix whose steps rise, another, room for two, and for one row
pub record Rising (w n : ℕ) (m x out over left : List (List ℕ)) : Type 0 where
  pub for_m : Room w n n m
  pub for_x : Room w n n x
  pub for_out : Room w n n out
  pub for_over : Room w n n over
  pub for_left : Room w n 1 left
  pub rises : (a b : ℕ) → Cell w n m a b → a < b
