use Rattle.system.proofs.stack.+take_pieces.Given as goal

abbrev pub decreases-take_pieces : goal.decreases-take_pieces
decreases-take_pieces l = l.left
