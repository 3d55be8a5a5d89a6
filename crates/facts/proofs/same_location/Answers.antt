-- `same_location` meets its contract: the kinds and the location bytes tell it.
use native.Mathlib.Omega.{arith}
use Rattle.facts.proofs.Bytes.{one_location_told}
use Rattle.facts.proofs.Records.{first_of, second_of}
use Rattle.facts.proofs.same_location.Goals as goal

pub byte-requires : goal.byte-requires
byte-requires c = (first_of c.requires, omega arith)

pub byte-requires-2 : goal.byte-requires-2
byte-requires-2 c = (second_of c.requires, omega arith)

pub byte-requires-3 : goal.byte-requires-3
byte-requires-3 c = (first_of c.requires, omega arith)

pub byte-requires-4 : goal.byte-requires-4
byte-requires-4 c = (second_of c.requires, omega arith)

pub returns : goal.returns
returns c = let two = c.requires in
    simp (c.byte-4.ensures, c.byte-3.ensures, c.byte-2.ensures, c.byte.ensures) (one_location_told (first_of two) (second_of two))
