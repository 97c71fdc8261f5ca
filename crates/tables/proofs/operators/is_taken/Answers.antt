use Rattle.tables.proofs.Outside.{Bool, ◌||◌, Option, is_some, Error, Role, role_of_name, role_of_digest, sees_by}
use Rattle.tables.proofs.KeepFound.{seen_by_first}
use Rattle.tables.proofs.operators.is_taken.Goals as goal

either : Option Role → Option Role → Bool
either named known = is_some named || is_some known

pub returns : goal.returns
unfolding either
returns g c =
    let named = role_of_name c.args.org.now c.args.name.now in
    let known = role_of_digest c.args.org.now c.args.digest.now in
    rw c.is_either.ensures
    (seen_by_first g.S.Store Error Error Error named (λ _. known) either c.in_ok-named.named c.in_ok-known.known c.args.conn.now c.role_of_name.new.conn c.role_of_digest.new.conn
    (sees_by g.S.Store _ _ _ _ c.in_ok-named.ensures) (sees_by g.S.Store _ _ _ _ c.in_ok-known.ensures))
