-- What was read of standard input, as the commands' contracts say it.
use Rattle.std.proofs.Common.{ℕ, Bool, true, false, List, Option, inl, inr}
use Rattle.program.specs.declared.exits.Exit.{Exit}
use Rattle.program.specs.Outcomes.{Stream, Errors}
use Rattle.program.specs.Inputs.{IsReadIf, ReadsOperatorsIf}

pub read_if : (reads : Bool) (old new : Option (List ℕ)) (e : Exit) (output : Stream) (errors : Errors) → IsReadIf reads old new → ReadsOperatorsIf reads old new e output errors
read_if true old new e output errors is_read = inr (inl is_read)
read_if false old new e output errors is_read = is_read
