-- What a service promises of the exchanges that it serves: the first four claims of README, in one record.
use Rattle.std.specs.Prelude.{ℕ, List, Option}
use Rattle.machine.specs.Laws.{AreLawful}
use Rattle.machine.specs.declared.records.Organization.{Organization}
use Rattle.serve.specs.declared.doors.Door.{Door}
use Rattle.serve.specs.AbsentForms.{AbsentFormsAreTold}
use Rattle.serve.specs.Asks.{Owner}
use Rattle.serve.specs.Book.{KeepsCustody}
use Rattle.serve.specs.Served.{Exchange, AreServedBy, AreLetIn, AreOwnTold, IsServedAlone, asked_in}

pub record IsAsPromised (doors : List Door) (es : List Exchange) (old new : List ℕ → Option Organization) : Type 0 where
  -- isolation: of every organization, what its own exchanges wrote and its record afterwards are those of its own machine
  pub alone : (org : List ℕ) → IsServedAlone org es old new
  -- and what nobody's exchanges wrote, and the operator's
  pub told : (owner : Owner) → AreOwnTold es old owner
  -- what is out of reach, or outside a prefix, is answered as if it were absent
  pub absent : AbsentFormsAreTold es old
  -- an operator's command is carried out only for bytes with the secret of an operator who may ask for it
  pub secrets : AreLetIn doors es
  -- custody and queue
  pub custody : KeepsCustody (asked_in es) old

-- whatever exchanges are served, each at whatever door, from lawful records: also those of services in turn, with other operators
abbrev pub ServicesAreAsPromised : Type 0
ServicesAreAsPromised = (doors : List Door) (es : List Exchange) (old new : List ℕ → Option Organization) → AreServedBy doors es old new → AreLawful old → IsAsPromised doors es old new
