use Rattle.std.proofs.Common.{refl}
use Rattle.texts.proofs.reading.add_row.Goals as goal

pub returns : goal.returns
returns c = record {
  one = c.in-Some.row.now;
  bytes = c.in_ok-bytes.bytes.now;
  is_there = rw c.in-Some.is refl;
  place_is = c.in_ok-bytes.ensures.place;
  bytes_are = c.in_ok-bytes.ensures.bytes;
  grown = c.in_ok-extend_from_slice.ensures.items;
}
