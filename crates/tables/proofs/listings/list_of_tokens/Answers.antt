use Rattle.std.proofs.Common.{map, ap, ◌∙◌}
use Rattle.statements.specs.Listings.{BoundedTokensApart, bounded_tokens_of}
use Rattle.statements.specs.Steps.{EqualsWhere}
use Rattle.tables.specs.Inner.Lists.{token_row_of, tokens_listed_in}
use Rattle.texts.proofs.Many.{sees_by, sees_as}
use Rattle.tables.proofs.listings.list_of_tokens.Goals as goal

pub returns : goal.returns
returns g c =
    sees_as g.S.Store (EqualsWhere BoundedTokensApart (bounded_tokens_of c.args.org.now)) (EqualsWhere BoundedTokensApart (tokens_listed_in c.args.org.now)) c.args.conn.now c.list.new.conn c.in_ok-tokens.tokens c.in_ok-rows.rows
    (λ t reported apart. c.in_ok-rows.ensures ∙ ap (map token_row_of) (c.as_slice.ensures ∙ reported apart)) (sees_by g.S.Store _ _ _ _ c.in_ok-tokens.ensures)
