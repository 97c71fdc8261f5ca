-- What an act needs of its workspace besides the workspace's own row. A store reads nothing else.
use Rattle.std.specs.Prelude.{ℕ, Bool, true, false, List, Option, Some, None, is_none, option_copied}
use Rattle.basis.specs.declared.acts.Query.{Query as AnyQuery}
use Rattle.basis.specs.declared.acts.Query.TheVariants as query
use Rattle.machine.specs.declared.acts.Act.{Act}
use Rattle.machine.specs.declared.acts.Act.TheVariants.{Query, PutWorkspace, DeleteWorkspace, UpdateState, PurgeState, Lock, Unlock, ForceUnlock, MakeRun, ReportRun}
use Rattle.machine.specs.declared.acts.Needs.{Needs}
use Rattle.machine.specs.declared.acts.Staying.{Staying}
use Rattle.machine.specs.declared.acts.Staying.TheVariants.{StayAll, MakeRoom, StayAtMost}

pub record Needed : Type 0 where
  -- the act creates a missing workspace: then the number of the organization's workspaces and its limit
  pub makes : Bool
  -- the number of versions that the workspace keeps
  pub retention : Bool
  -- the status of the holding run
  pub holder_status : Bool
  -- the newest version
  pub newest : Bool
  -- the text that is compared with that of the newest version
  pub text : Option (List ℕ)
  -- which versions are removed: none, those that make room for one more, or all but a number of the newest
  pub outgoing : Staying
  -- the version with this number
  pub version : Option ℕ
  -- the run with this number, or the run that has this key
  pub run : Option ℕ
  pub key : Option (List ℕ)
  -- the first waiting run
  pub waiting : Bool
  -- the number of open runs
  pub open_runs : Bool

abbrev pub nothing : Needed
nothing = record { makes = false; retention = false; holder_status = false; newest = false; text = None; outgoing = StayAll; version = None; run = None; key = None; waiting = false; open_runs = false }

-- a read-only act needs what it shows
abbrev pub needs_of_query : AnyQuery → Needed
needs_of_query query.Workspace = record nothing { retention = true; newest = true }
needs_of_query query.State = record nothing { newest = true }
needs_of_query (query.Version n) = record nothing { version = Some n }
needs_of_query (query.Versions after) = nothing
needs_of_query (query.Run n) = record nothing { run = Some n }
needs_of_query (query.Runs after) = nothing

-- a PUT that does not set the number of versions removes none, and the workspace keeps as many as before
abbrev pub staying_for : Option ℕ → Staying
staying_for None = StayAll
staying_for (Some retention) = StayAtMost retention

abbrev pub needs : Act → Needed
needs (Query what) = needs_of_query what
needs (PutWorkspace ask) = record nothing { makes = true; retention = is_none ask.retention; newest = true; outgoing = staying_for ask.retention }
needs DeleteWorkspace = record nothing { open_runs = true }
needs (UpdateState head text id) = record nothing { retention = true; holder_status = true; newest = true; text = Some text; outgoing = MakeRoom }
needs (PurgeState id) = record nothing { holder_status = true }
needs (Lock id text) = nothing
needs (Unlock id) = record nothing { waiting = true }
needs ForceUnlock = record nothing { waiting = true }
needs (MakeRun ask) = record nothing { key = ask.key; open_runs = true }
needs (ReportRun n action) = record nothing { run = Some n; waiting = true }

-- the needs of the code's type
abbrev pub needed_of : Needs → Needed
needed_of n = record {
  makes = n.makes;
  retention = n.retention;
  holder_status = n.holder_status;
  newest = n.newest;
  text = option_copied n.text;
  outgoing = n.outgoing;
  version = n.version;
  run = n.run;
  key = option_copied n.key;
  waiting = n.waiting;
  open_runs = n.open_runs;
}
