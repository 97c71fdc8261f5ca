use Rattle.std.proofs.Common.{◌∙◌, ap, List, ℕ, ◌++◌, ◌∷◌, []}
use Rattle.docs.proofs.Lines.{line_written}
use Rattle.docs.proofs.Putting.{then_put}
use Rattle.docs.proofs.logs.write_log_line.Goals as goal

pub returns : goal.returns
returns c =
    c.in_ok-extend_from_slice.ensures.items
    ∙ ap (λ (xs : List ℕ). xs ++ 10 ∷ []) c.in_ok-line.ensures
    ∙ line_written c.args.connection c.args.end.now c.args.row.now c.in_ok-writer.ensures
    (then_put c.in_ok-put_asked.ensures (then_put c.in_ok-put_named.ensures (then_put c.in_ok-put_outcome.ensures c.in_ok-put_made.ensures)))
    c.in_ok-text.ensures
