use Rattle.checks.proofs.stores.check_rows.Goals as goal

pub returns-clause-reported : goal.returns-clause-reported
returns-clause-reported g c clean = record {
  rows = c.in_ok-rows.rows;
  read = c.in_ok-rows.ensures.reported clean;
  faults = c.in_ok-faults.ensures;
  totals = c.totals_of-totals.ensures g.K.PageKey.key_of;
}
