-- The sums of two figures: "Two batches joined give the sums", and "the largest table is the larger of the two".
use Rattle.std.specs.Prelude.{List, [], ◌∷◌, ℕ, ◌+◌, ◌^◌, ◌<◌, max, get_or}
use Rattle.tally.specs.declared.Figures.{Figures}

-- the numbers at one place added, each with each
abbrev pub add_each : List ℕ → List ℕ → List ℕ
add_each [] l = []
add_each (m ∷ k) [] = m ∷ k
add_each (m ∷ k) (n ∷ l) = (m + n) ∷ add_each k l

unfoldable pub sums : Figures → Figures → Figures
sums f g = record {
  tables = f.tables + g.tables;
  refused = add_each f.refused g.refused;
  found = add_each f.found g.found;
  consistent = f.consistent + g.consistent;
  inconsistent = f.inconsistent + g.inconsistent;
  undefined = f.undefined + g.undefined;
  largest = max f.largest g.largest;
}

-- ---- numbers that can be added

-- each is below 2 ^ 63
pub record SmallEach (l : List ℕ) : Type 0 where
  pub small : (k : ℕ) → get_or l k 0 < 2 ^ 63

pub record Small (f : Figures) : Type 0 where
  pub tables : f.tables < 2 ^ 63
  pub refused : SmallEach f.refused
  pub found : SmallEach f.found
  pub consistent : f.consistent < 2 ^ 63
  pub inconsistent : f.inconsistent < 2 ^ 63
  pub undefined : f.undefined < 2 ^ 63
