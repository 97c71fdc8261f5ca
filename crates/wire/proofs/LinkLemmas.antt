-- What is written in pieces is written in a row, and what is received in pieces is received in a row.
use Rattle.std.proofs.Common.{◌≡◌, ℕ, List, ◌++◌, Option, Result, Ok, Err, sym, subst, arith, append_assoc, length-append}
use Rattle.std.specs.Io.KnownBytes.{Appends}
use Rattle.std.proofs.KnownBytes.{Appends-trans}
use Rattle.wire.specs.Links.{WritesPrefix, Writes}

-- a prefix of a text is a prefix of the text with more after it
pub WritesPrefix-longer : (old new : Option (List ℕ)) (text more : List ℕ) → WritesPrefix old new text → WritesPrefix old new (text ++ more)
WritesPrefix-longer old new text more s =
    (s.0, s.1 ++ more, omega (arith, length-append s.1 more, s.2), rw (s.3, append_assoc), s.4)

-- the text's first part was written, and then the second or a prefix of it
pub Writes-then : {T E : Type 0} (old middle new : Option (List ℕ)) (x y : List ℕ) (r : Result T E)
    → Appends old middle x → Writes middle new y r → Writes old new (x ++ y) r
Writes-then old middle new x y (Ok done) p q = Appends-trans old middle new x y p q
Writes-then old middle new x y (Err fault) p q =
    (x ++ q.0, q.1, q.2, rw (q.3, append_assoc), Appends-trans old middle new x q.0 p q.4)

pub writes_same : {T E : Type 0} (old new : Option (List ℕ)) (x y : List ℕ) (r : Result T E) → x ≡ y → Writes old new y r → Writes old new x r
writes_same {T} {E} old new x y r e h = let P : List ℕ → Type 0 = λ z. Writes old new z r in subst P (sym e) h
