use Rattle.std.proofs.Common.{◌≡◌, map, take}
use Rattle.tables.specs.Inner.Lists.{token_row_of}
use Rattle.tables.proofs.listings.token_rows.Given as goal

-- a row for each token so far
abbrev pub invariant-loop-token : goal.invariant-loop-token
invariant-loop-token l = l.rows ≡ map token_row_of (take l.token-index l.tokens)
