use Rattle.std.proofs.Common.{◌≡◌, true, min, take}
use Rattle.std.specs.List.{list_all}
use Rattle.std.specs.Char.{is_ascii_digit}
use Rattle.std.specs.Str.Parse.{digits_value}
use Rattle.wire.specs.declared.framing.TheConstants.{LENGTH_CAP}
use Rattle.wire.proofs.framing.capped_length.Given as goal

abbrev pub invariant-digits : goal.invariant-digits
invariant-digits l = record {
  digits : list_all is_ascii_digit (take l.byte-index l.text) ≡ true;
  value : l.number ≡ min (digits_value 10 (take l.byte-index l.text)) LENGTH_CAP;
}
