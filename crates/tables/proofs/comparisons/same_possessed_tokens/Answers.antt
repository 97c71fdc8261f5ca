use Rattle.tables.proofs.Outside.{Error, Ok, refl, TokensApart, digest_tokens_of, EqualsWhere, sees_by}
use Rattle.tables.specs.Records.{tokens_at}
use Rattle.tables.specs.Inner.Comparing.{AreAlike, AreMappedAlike, entry_of}
use Rattle.tables.proofs.Comparing.{differ, looks_then, tokens_alike}
use Rattle.tables.proofs.comparisons.same_possessed_tokens.Goals as goal

pub returns-then-not-are_same-clause-same : goal.returns-then-not-are_same-clause-same
returns-then-not-are_same-clause-same g c = differ g.S.Store Error _ c.args.one.now c.list_with_digests.new.conn c.args.other.now c.list_with_digests-2.new.conn _ refl

pub returns-clause-same : goal.returns-clause-same
returns-clause-same g c =
    let org = c.args.org.now in
    let read = c.in_ok-list.list in
    let found = c.in_ok-found.found in
    let says = EqualsWhere TokensApart (digest_tokens_of org) in
    looks_then g.S.Store says says (AreMappedAlike (entry_of org) read) (AreAlike tokens_at org)
    c.args.one.now c.list_with_digests.new.conn c.same_tokens.new.one c.args.other.now c.list_with_digests-2.new.conn c.same_tokens.new.other read found c.same_tokens.result
    (λ f t sound good here there mapped. tokens_alike org read found (rw (c.as_slice.ensures, c.as_slice-2.ensures) at (c.are_same.ensures c.if-not-are_same.false)) f t (here sound.tokens_apart) (there good.tokens_apart) mapped)
    (sees_by g.S.Store says c.args.one.now c.list_with_digests.new.conn (Ok read) c.in_ok-list.ensures) (sees_by g.S.Store says c.args.other.now c.list_with_digests-2.new.conn (Ok found) c.in_ok-found.ensures) c.same_tokens.ensures.first.so_far c.same_tokens.ensures.second.so_far (rw c.as_slice-3.ensures at c.same_tokens.ensures.same)
