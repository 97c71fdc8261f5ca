use Rattle.statements.proofs.Outside.{List, take, AllZip, Table}
use Rattle.statements.specs.Inner.Making.{IsMaker, texts_in, all_of}
use Rattle.statements.proofs.Schemas.{MadeSoFar}
use Rattle.statements.proofs.making.make_all.Given as goal

-- the tables of the texts so far are made
abbrev pub invariant-loop-text : goal.invariant-loop-text
invariant-loop-text g l = (made : List (List Table)) → AllZip IsMaker (texts_in l.texts) made → MadeSoFar g.S.Store l.text-index (all_of (take l.text-index made)) l.fn.tx l.tx
