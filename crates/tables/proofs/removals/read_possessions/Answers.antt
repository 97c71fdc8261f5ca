use Rattle.tables.proofs.Outside.{Ok, TokensApart, NamesApart, digest_tokens_of, workspace_names_of, EqualsWhere, sees_by, sees_as}
use Rattle.tables.specs.Inner.Removals.{AreAllOf}
use Rattle.tables.specs.declared.removals.Possessions.{Possessions}
use Rattle.tables.proofs.KeepFound.{seen_both}
use Rattle.tables.proofs.removals.read_possessions.Goals as goal

pub returns : goal.returns
returns g c =
    let org = c.args.org.now in
    let names = c.in_ok-names.names in
    let list = c.in_ok-tokens.tokens in
    sees_as g.S.Store (λ ys t. EqualsWhere NamesApart (workspace_names_of org) names t × EqualsWhere TokensApart (digest_tokens_of org) ys t) (λ (all : Possessions) t. AreAllOf org all.names all.tokens t) c.args.conn.now c.list_with_digests.new.conn list (record { names = names; tokens = list })
    (λ t reported. reported)
    (seen_both g.S.Store (EqualsWhere NamesApart (workspace_names_of org)) (EqualsWhere TokensApart (digest_tokens_of org)) c.args.conn.now c.names.new.conn c.list_with_digests.new.conn names list
    (sees_by g.S.Store (EqualsWhere NamesApart (workspace_names_of org)) c.args.conn.now c.names.new.conn (Ok names) c.in_ok-names.ensures)
    (sees_by g.S.Store (EqualsWhere TokensApart (digest_tokens_of org)) c.names.new.conn c.list_with_digests.new.conn (Ok list) c.in_ok-tokens.ensures))
