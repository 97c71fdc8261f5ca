use Rattle.tables.proofs.Outside.{ℕ, Error, needed_of}
use Rattle.statements.specs.declared.rows.Workspace.{Workspace as WorkspaceCells}
use Rattle.tables.specs.Inner.Units.{retention_in}
use Rattle.tables.specs.Inner.Points.{around_in, unit_from}
use Rattle.tables.specs.declared.points.UnitRead.{UnitRead}
use Rattle.tables.specs.declared.points.Surroundings.{Surroundings}
use Rattle.tables.proofs.KeepFound.{seen_by_first}
use Rattle.tables.proofs.points.present.Goals as goal

make : WorkspaceCells → ℕ → Surroundings → UnitRead
make w retention around = unit_from retention w around

pub returns : goal.returns
unfolding make
returns g c =
    let org = c.args.org.now in
    let ws = c.args.ws.now in
    let need = needed_of c.args.needs.now in
    rw c.unit_by.ensures (record {
      unchanged = seen_by_first g.S.Store Error Error Error (retention_in need.retention org ws) (λ retention. around_in need org ws retention c.args.workspace) (make c.args.workspace) c.in_ok-retention.retention c.in_ok-around.around
          c.args.conn.now c.retention.new.conn c.around.new.conn c.in_ok-retention.ensures.unchanged c.in_ok-around.ensures.unchanged;
    })
