-- An answer, and what is left after it.
use Rattle.std.specs.Prelude.{}

pub record Effect (A R : Type 0) : Type 0 where
  pub answer : A
  pub left : R

abbrev pub effect : {A R : Type 0} → A → R → Effect A R
effect answer left = record { answer = answer; left = left }
