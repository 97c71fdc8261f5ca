use Rattle.std.proofs.Common.{rules, ◌≡◌, ℕ, List, Option, Some, None, false, is_none, Ok, ap, ◌∙◌}
use Rattle.sqlite.specs.declared.error.Error.{Error}
use Rattle.machine.specs.declared.keeps.AdminAnswer.TheVariants.{Tokens}
use Rattle.machine.specs.declared.keeps.TokenRow.{TokenRow}
use Rattle.statements.specs.Finds.{cap_of}
use Rattle.statements.specs.Listings.{BoundedTokensApart}
use Rattle.statements.specs.Steps.{Equals, EqualsWhere}
use Rattle.statements.specs.Tables.{Tables}
use Rattle.texts.proofs.Many.{sees_by, sees_as}
use Rattle.tables.specs.Inner.Lists.{tokens_listed_in, token_list_answer_by, token_list_answer_in}
use Rattle.tables.proofs.Committed.{read_committed}
use Rattle.tables.proofs.KeepFound.{seen_both}
use Rattle.tables.proofs.listings.token_list_answer.Goals as goal

-- the tokens of an organization that is there
reported_there : (org : List ℕ) (t : Tables) (cap : Option ℕ) (rows : List TokenRow) → is_none cap ≡ false → cap ≡ cap_of org t → rows ≡ tokens_listed_in org t → Tokens rows ≡ token_list_answer_in org t
reported_there org t None rows there found listed = absurd (cc)
reported_there org t (Some cap) rows there found listed = ap Tokens listed ∙ ap (λ (c : Option ℕ). token_list_answer_by c org t) found

pub returns-clause-unchanged : goal.returns-clause-unchanged
returns-clause-unchanged g c =
    let org = c.args.org.now in
    let conn = c.args.conn.now in
    let cap = c.in_ok-cap.ensures in
    let rows = c.in_ok-rows.rows in
    let there : is_none c.in_ok-cap.cap ≡ false = search rules in
    read_committed g.S.Store {E = Error} (EqualsWhere BoundedTokensApart (token_list_answer_in org)) conn c.list_of_tokens.new.conn (Ok (Tokens rows)) c.assert_committed.ensures (λ clean. (cap.read (c.in_ok-rows.ensures.so_far clean)).1.0.0.was_open)
    (sees_as g.S.Store (λ rows t. Equals (cap_of org) c.in_ok-cap.cap t × EqualsWhere BoundedTokensApart (tokens_listed_in org) rows t) (EqualsWhere BoundedTokensApart (token_list_answer_in org)) conn c.list_of_tokens.new.conn
    rows (Tokens rows) (λ t reported apart. reported_there org t c.in_ok-cap.cap rows there reported.0 (reported.1 apart))
    (seen_both g.S.Store (Equals (cap_of org)) (EqualsWhere BoundedTokensApart (tokens_listed_in org)) conn c.cap.new.conn c.list_of_tokens.new.conn c.in_ok-cap.cap rows (sees_by g.S.Store _ _ _ _ cap) c.in_ok-rows.ensures))
