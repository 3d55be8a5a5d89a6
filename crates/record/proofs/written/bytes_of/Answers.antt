-- `written::bytes_of` meets its contract: by those of the bytes.
use Rattle.record.specs.Form.{encode}
use Rattle.record.proofs.written.bytes_of.Goals as goal

pub returns : goal.returns
unfolding encode
returns c = simp (
  c.high-2.ensures,
  c.low-2.ensures,
  c.high.ensures,
  c.low.ensures,
  c.flags_of.ensures,
  c.link_byte-2.ensures,
  c.link_byte.ensures,
  c.code.ensures,
  c.number_of-y.ensures,
  c.number_of-x.ensures,
  c.columns_of-kind.ensures,
)
