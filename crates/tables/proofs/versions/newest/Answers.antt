use Rattle.tables.proofs.Outside.{rules, ◌≡◌, true, Error, newest_of, sees_by}
use Rattle.std.specs.Option.{option_copied}
use Rattle.tables.specs.Inner.Points.{sized_by}
use Rattle.tables.proofs.KeepFound.{seen_mapped}
use Rattle.tables.proofs.versions.newest.Goals as goal

pub returns-in_ok-newest_as-in-Some : goal.returns-in_ok-newest_as-in-Some
returns-in_ok-newest_as-in-Some g c =
    let org = c.args.org.now in
    let ws = c.args.ws.now in
    let needed : c.args.needed ≡ true = search rules in
    rw needed (record {
      unchanged = seen_mapped g.S.Store Error Error Error (newest_of org ws) (sized_by (option_copied c.args.text) org ws) c.in-Some.head c.in_ok-newest_as-in-Some.field-0 c.in_ok-newest.field-0
          c.args.conn.now c.newest.new.conn c.newest_as.new.conn c.in-Some.is (sees_by g.S.Store _ _ _ _ c.in_ok-newest.ensures) c.in_ok-newest_as-in-Some.ensures.unchanged;
    })
