-- `put_decimal` meets its contract: one digit, or the digits of n / 10, which is smaller, and then the last.
use native.Mathlib.Nat.{div-lt_self}
use native.Mathlib.Omega.{arith}
use Rattle.text.proofs.Laws.{one_room, one_digit, tens_room, last_room, last_digit}
use Rattle.text.proofs.Text.+put_decimal.Goals as goal

pub put_byte-requires : goal.put_byte-requires
put_byte-requires t c = let a = c.args.self.now in
    one_room a.out.now a.at c.args.n c.requires (omega arith)

pub returns-then-n-lt10-clause-written : goal.returns-then-n-lt10-clause-written
returns-then-n-lt10-clause-written t c = let a = c.args.self.now in
    one_digit a.out.now a.at c.args.n c.requires (omega arith) c.digit.ensures c.put_byte.ensures.written

pub put_decimal-requires : goal.put_decimal-requires
put_decimal-requires t c = let a = c.args.self.now in
    (omega (arith, div-lt_self {n = c.args.n} {k = 10} (omega arith) (omega arith), c.decreases), tens_room a.out.now a.at c.args.n c.requires c.if-n-lt10.false)

pub put_byte-requires-2 : goal.put_byte-requires-2
put_byte-requires-2 t c = let a = c.args.self.now in
    last_room a.out.now a.at c.args.n c.requires c.if-n-lt10.false c.put_decimal.ensures.written

pub returns-clause-written : goal.returns-clause-written
returns-clause-written t c = let a = c.args.self.now in
    last_digit a.out.now a.at c.args.n c.requires c.if-n-lt10.false c.put_decimal.ensures.written c.digit-2.ensures c.put_byte-2.ensures.written
