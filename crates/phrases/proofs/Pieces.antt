-- Pieces of text, one after another: room for each, and what they make together.
use mathlib.Core.Path.{◌≡◌, subst}
use mathlib.Core.List.{List, ◌++◌}
use Prim.Native.Nat.{ℕ}
use native.Mathlib.Omega.{arith}
use lib.ListN.{length-append}
use Rattle.text.specs.Text.{Written}
use Rattle.text.proofs.Laws.{written_length, written_then}
use Rattle.phrases.specs.Room.{Room}

pub room_front : (out : List ℕ) (at : ℕ) (s u : List ℕ) → Room out at (s ++ u) → Room out at s
room_front out at s u h = omega (arith, length-append s u)

pub room_back : {out : List ℕ} {at : ℕ} {s mid : List ℕ} {m : ℕ} (u : List ℕ) → Room out at (s ++ u) → Written out at s mid m → Room mid m u
room_back {out} {at} {s} u h w =
    omega (arith, length-append s u, w.next, written_length (room_front out at s u h) w)

-- the same value under another name
pub room_as : {A : Type 0} (text : A → List ℕ) (out : List ℕ) (at : ℕ) {x y : A} → x ≡ y → Room out at (text x) → Room out at (text y)
room_as text out at e h = subst (λ x. Room out at (text x)) e h

-- three pieces
pub written_three :
    {out : List ℕ} {at : ℕ} {s mid : List ℕ} {m : ℕ} {u mid' : List ℕ} {m' : ℕ} {v after : List ℕ} {r : ℕ} → Room out at (s ++ (u ++ v))
    → Written out at s mid m → Written mid m u mid' m' → Written mid' m' v after r → Written out at (s ++ (u ++ v)) after r
written_three {u = u} {v = v} room first second third = written_then room first (written_then (room_back (u ++ v) room first) second third)
