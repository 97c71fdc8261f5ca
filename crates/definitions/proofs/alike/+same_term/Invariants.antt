use Rattle.definitions.proofs.alike.+same_term.Given as goal

abbrev pub decreases-same_term : goal.decreases-same_term
decreases-same_term l = l.a_depth
