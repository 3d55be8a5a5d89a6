-- Relations in rows of words. Row b is the list b of w words; its bit a says whether a is related to b: a row is a set of predecessors.
use Rattle.std.specs.Prelude.{◌≡◌, List, [], ℕ, ◌+◌, ◌*◌, ◌/◌, ◌%◌, ◌≤◌, ◌<◌, length, get_or}
use Rattle.rows.specs.Sets.{digit}

-- how many words a row can have
pub record Width (w : ℕ) : Type 0 where
  pub some : 1 ≤ w
  pub most : w ≤ 4

-- row b has a
pub record On (w : ℕ) (m : List (List ℕ)) (a b : ℕ) : Type 0 where
  pub col : a < 64 * w
  pub is1 : digit (get_or (get_or m b []) (a / 64) 0) (a % 64) ≡ 1

-- the first n rows hold R
pub record Holds (w n : ℕ) (R : ℕ → ℕ → Type 0) (m : List (List ℕ)) : Type 0 where
  pub all : (a b : ℕ) → b < n → R a b → On w m a b
  pub only : (a b : ℕ) → b < n → On w m a b → R a b

-- h rows, each with room for n numbers
pub record Room (w n h : ℕ) (m : List (List ℕ)) : Type 0 where
  pub width : Width w
  pub wide : n ≤ 64 * w
  pub room : h ≤ length m

-- n rows that hold R
pub record Given (w n : ℕ) (R : ℕ → ℕ → Type 0) (m : List (List ℕ)) : Type 0 where
  pub has : Room w n n m
  pub holds : Holds w n R m

-- what the first n rows say of a and b
pub record Cell (w n : ℕ) (m : List (List ℕ)) (a b : ℕ) : Type 0 where
  pub row : b < n
  pub on : On w m a b

-- elsewhere than from lo up to, not including, hi the rows are the same
pub record Outside (lo hi : ℕ) (m m' : List (List ℕ)) : Type 0 where
  pub size : length m' ≡ length m
  pub below : (k : ℕ) → k < lo → get_or m' k [] ≡ get_or m k []
  pub past : (k : ℕ) → hi ≤ k → get_or m' k [] ≡ get_or m k []

-- row b is made to have what P says, and the rest is as it was
pub record MadeRow (w b : ℕ) (P : ℕ → Type 0) (m m' : List (List ℕ)) : Type 0 where
  pub rest : Outside b (b + 1) m m'
  pub all : (a : ℕ) → P a → On w m' a b
  pub only : (a : ℕ) → On w m' a b → P a

-- the first n rows are made to hold R, and the rest is as it was
pub record Made (w n : ℕ) (R : ℕ → ℕ → Type 0) (m m' : List (List ℕ)) : Type 0 where
  pub rest : Outside 0 n m m'
  pub holds : Holds w n R m'
