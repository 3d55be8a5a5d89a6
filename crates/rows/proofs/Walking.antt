-- A walk along a row: what is known of it before each turn, and what a turn adds.
use mathlib.Core.Path.{◌≡◌, sym, subst}
use mathlib.Core.List.{List}
use Prim.Native.Nat.{ℕ, ◌+◌, ◌≤◌, ◌<◌}
use native.Mathlib.Omega.{arith}
use Rattle.rows.specs.declared.set.Set.{Set}
use Rattle.rows.specs.declared.numbers.Numbers.{Numbers}
use Rattle.rows.specs.Sets.{In, Is}
use Rattle.rows.specs.Rows.{On}
use Rattle.rows.specs.Numbers.{Starts, Goes, Meets}
use Rattle.rows.proofs.Along.{Gap}

-- it goes along row b, up to n
pub record Walks {w : ℕ} (it : Numbers w) (m : List (List ℕ)) (b n : ℕ) : Type 0 where
  pub goes : Goes it
  pub row : Is it.of (λ a. On w m a b)
  pub end : it.end ≡ n

-- v is the next number of row b from at on, and k comes after it
pub record Turn (w : ℕ) (m : List (List ℕ)) (b n at v k : ℕ) : Type 0 where
  pub gap : Gap w m b at v
  pub low : v < n
  pub on : On w m v b
  pub past : k ≡ v + 1

module _ {w b n : ℕ} {m : List (List ℕ)} where
  pub walk_start : {it : Numbers w} {s : Set w} → Is s (λ a. On w m a b) → Starts it s n → Walks it m b n
  walk_start p k = record {
    goes = record { few = k.few; wide = omega (arith, k.end, k.wide); low = omega (arith, k.at) };
    row = subst (λ (z : Set w). Is z (λ a. On w m a b)) (sym k.of) p;
    end = k.end;
  }

  module _ {it : Numbers w} (walk : Walks it m b n) where
    module _ {on : Numbers w} {v : ℕ} (met : Meets it v on) where
      pub turn : Turn w m b n it.at v on.at
      turn = record {
        gap = record { from = met.low; empty = λ a h l o. met.before a h l (walk.row.all a o) };
        low = omega (arith, met.high, walk.end);
        on = walk.row.only v met.has;
        past = met.at;
      }

      pub walk_on : Walks on m b n
      walk_on = record {
        goes = record { few = walk.goes.few; wide = omega (arith, met.end, walk.goes.wide); low = omega (arith, met.at, met.end, met.high) };
        row = subst (λ (z : Set w). Is z (λ a. On w m a b)) (sym met.of) walk.row;
        end = omega (arith, met.end, walk.end);
      }

    -- nothing of the row is left
    pub walk_end : ((a : ℕ) → it.at ≤ a → a < it.end → ¬ In it.of a) → Gap w m b it.at n
    walk_end none = record { from = omega (arith, walk.goes.low, walk.end); empty = λ a h l o. none a h (omega (arith, l, walk.end)) (walk.row.all a o) }
