use Rattle.texts.proofs.Outside.{◌≡◌, true, false, state}
use Rattle.texts.specs.Texts.{are_pieces, AreThere}
use Rattle.texts.proofs.Many.{ReadsSoFar}
use Rattle.texts.proofs.texts.same_text.Given as goal

-- the pieces so far agree
abbrev pub invariant-places : goal.invariant-places
invariant-places g l =
    (l.fn.conn.in_transaction ≡ false → l.conn.in_transaction ≡ false)
    × ReadsSoFar (are_pieces l.org l.ws l.number l.text l.place) (AreThere l.org l.ws l.number l.place) (state g.S.Store l.fn.conn) (state g.S.Store l.conn) true
