use Rattle.tables.proofs.Outside.{Error, refl}
use Rattle.tables.specs.Records.{tokens_at, workspaces_at}
use Rattle.tables.specs.Inner.Comparing.{AreAlike}
use Rattle.tables.proofs.Comparing.{differ, agree_then}
use Rattle.tables.proofs.comparisons.same_possessions.Goals as goal

pub returns-then-not-branch-clause-same : goal.returns-then-not-branch-clause-same
returns-then-not-branch-clause-same g c = differ g.S.Store Error _ c.args.one.now c.same_possessed_tokens.new.one c.args.other.now c.same_possessed_tokens.new.other _ refl

pub returns-clause-same : goal.returns-clause-same
returns-clause-same g c =
    let org = c.args.org.now in
    let one = c.in_ok-same_possessed_tokens.ensures in
    let last = c.same_possessed_workspaces.ensures in
    agree_then g.S.Store (AreAlike tokens_at org) (AreAlike workspaces_at org) (λ f t. AreAlike tokens_at org f t × AreAlike workspaces_at org f t)
    c.args.one.now c.same_possessed_tokens.new.one c.same_possessed_workspaces.new.one c.args.other.now c.same_possessed_tokens.new.other c.same_possessed_workspaces.new.other
    c.in_ok-same_possessed_tokens.field-0 c.same_possessed_workspaces.result (λ f t first second. (first, second)) c.if-not-branch.false one.first one.second one.same last.first.so_far last.second.so_far last.same
