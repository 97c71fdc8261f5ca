use Rattle.tables.proofs.AnyOrder as lemma
use Rattle.tables.proofs.laws.rows_stand_in_any_order.Goals as goal

pub returns : goal.returns
returns c = lemma.rows_stand_in_any_order
