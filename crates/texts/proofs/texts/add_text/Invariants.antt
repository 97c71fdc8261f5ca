use Rattle.texts.proofs.Outside.{◌≡◌, ℕ, List, state}
use Rattle.texts.specs.Inner.Ahead.{AreKeysOf}
use Rattle.texts.specs.Texts.{pieces_added, TwinsFit, KeysFit}
use Rattle.texts.proofs.Many.{WritesSoFar}
use Rattle.texts.proofs.texts.add_text.Given as goal

-- the pieces so far are put
abbrev pub invariant-places : goal.invariant-places
invariant-places g l =
    (l.tx.conn.ghost_name ≡ l.fn.tx.conn.ghost_name)
    × AreKeysOf g.K.PageKey.key_of l.text l.ahead
    × ((keys : ℕ → List ℕ)
    × WritesSoFar (pieces_added keys l.org l.ws l.number l.text l.place) (λ t. TwinsFit keys l.org l.ws l.number l.text l.place t × KeysFit g.K.PageKey.key_of keys l.org l.ws l.number l.text l.place t) (state g.S.Store l.fn.tx.conn.now) (state g.S.Store l.tx.conn.now))
