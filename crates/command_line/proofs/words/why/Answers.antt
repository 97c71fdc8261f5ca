use Rattle.std.proofs.Common.{◌≡◌, ◌⊎◌, List, inl, inr}
use Rattle.clap.specs.Kinds.{IsAmong}
use Rattle.clap.specs.declared.error.kind.ErrorKind.{ErrorKind}
use Rattle.clap.specs.declared.error.kind.ErrorKind.TheVariants.{OutOfMemory}
use Rattle.command_line.specs.Words.{faults}
use Rattle.command_line.proofs.words.why.Goals as goal

-- a kind that isn't the want of memory is one of those that may come
among : (kind : ErrorKind) (kinds : List ErrorKind) → (kind ≡ OutOfMemory → ⊥) → (kind ≡ OutOfMemory) ⊎ IsAmong kind kinds → IsAmong kind kinds
among kind kinds other (inl is) = absurd (other is)
among kind kinds other (inr one) = one

pub returns-in_default : goal.returns-in_default
returns-in_default c words is_one other some =
    ((c.args.kind, among c.args.kind (faults words) c.in_default.not-OutOfMemory is_one, c.in_default.not-DisplayHelp, other), some)
