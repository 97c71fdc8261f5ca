use Rattle.tables.proofs.Outside.{ℕ, Option, Error, needed_of, if_needed}
use Rattle.tables.specs.Inner.Points.{runs_in, sized_in, size_asked}
use Rattle.tables.specs.Inner.Units.{outgoing_in}
use Rattle.tables.specs.declared.runs.RunsAround.{RunsAround}
use Rattle.tables.specs.declared.versions.SizedNewest.{SizedNewest}
use Rattle.tables.specs.declared.points.Surroundings.{Surroundings}
use Rattle.tables.specs.declared.versions.VersionSize.{VersionSize}
use Rattle.tables.proofs.KeepFound.{seen_four}
use Rattle.tables.proofs.points.around.Goals as goal

make : Option SizedNewest → Option ℕ → Option VersionSize → RunsAround → Surroundings
make newest outgoing asked runs = record { newest = newest; outgoing = outgoing; asked_version = asked; runs = runs }

pub returns : goal.returns
unfolding make
returns g c =
    let org = c.args.org.now in
    let ws = c.args.ws.now in
    let need = needed_of c.args.needs.now in
    record {
      unchanged = seen_four g.S.Store Error Error Error Error Error (λ t. if_needed need.newest (sized_in need.text org ws t)) (outgoing_in need.outgoing c.args.retention c.args.workspace.now.next_version org ws) (size_asked need.version org ws)
          (runs_in need org ws c.args.workspace.now.holder) make c.in_ok-newest.newest c.in_ok-outgoing.outgoing c.in_ok-asked_version.asked_version c.in_ok-runs.runs
          c.args.conn.now c.newest.new.conn c.outgoing.new.conn c.asked_version.new.conn c.runs_around.new.conn
          c.in_ok-newest.ensures.unchanged c.in_ok-outgoing.ensures.unchanged c.in_ok-asked_version.ensures.unchanged c.in_ok-runs.ensures.unchanged;
    }
