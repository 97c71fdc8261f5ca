use Rattle.checks.proofs.Outside.{◌≡◌, ◌∙◌, sym, subst, IfOk-weaker, state}
use Rattle.checks.specs.Judging.{OfSome, AreReported}
use Rattle.checks.specs.Faults.{table_fault}
use Rattle.checks.proofs.StoreLemmas.{tables_reported}
use Rattle.checks.proofs.stores.report_tables.Goals as goal

pub returns-clause-reported : goal.returns-clause-reported
returns-clause-reported g c clean =
    IfOk-weaker c.lines_of.result _ _ (λ lines are. tables_reported (state g.S.Store c.args.keep.now.conn) (state g.S.Store c.other_tables.new.self.conn) c.in_ok-names.names lines c.faults.result.now (c.in_ok-names.ensures.reported clean)
    (λ none. sym c.as_slice.ensures ∙ c.in_ok-found.ensures.decides.holds (sym c.faults.ensures ∙ none)) (λ none. c.faults.ensures ∙ c.in_ok-found.ensures.decides.clean (c.as_slice.ensures ∙ none))
    (subst (AreReported (OfSome (λ name f. f ≡ table_fault name) c.in_ok-names.names)) (sym c.faults.ensures) (rw c.as_slice.ensures at c.in_ok-found.ensures.reported)) are) c.lines_of.ensures
