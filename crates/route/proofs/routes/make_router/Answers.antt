-- Each insertion puts its pattern in its place; the last one makes the table.
use Rattle.std.proofs.Common.{[], ◌∷◌, ◌++◌, codes, refl}
use Rattle.matchit.specs.Rows.{param_token}
use Rattle.matchit.proofs.OnLiterals.{matchit_on_literals}
use Rattle.route.specs.Table.{in_any_org}
use Rattle.route.proofs.RouteLemmas.{memory_alone}
use Rattle.route.proofs.routes.make_router.Goals as goal

pub returns-clause-complete : goal.returns-clause-complete
unfolding matchit_on_literals
returns-clause-complete c =
    rw (c.in_ok-insert-8.ensures.1, c.in_ok-insert-7.ensures.1, c.in_ok-insert-6.ensures.1, c.in_ok-insert-5.ensures.1, c.in_ok-insert-4.ensures.1, c.in_ok-insert-3.ensures.1, c.in_ok-insert-2.ensures.1, c.in_ok-insert.ensures.1, c.new-router.ensures) refl

pub returns-in_err-insert-clause-memory : goal.returns-in_err-insert-clause-memory
unfolding matchit_on_literals
returns-in_err-insert-clause-memory c =
    memory_alone (in_any_org (codes "/workspaces")) c.new-router.result c.in_err-insert.field-0.0 c.from_residual.result
    (rw c.new-router.ensures refl) c.in_err-insert.ensures.1 c.from_residual.ensures.1

pub returns-in_err-insert-2-clause-memory : goal.returns-in_err-insert-2-clause-memory
unfolding matchit_on_literals
returns-in_err-insert-2-clause-memory c =
    memory_alone (in_any_org (codes "/workspaces/" ++ param_token ∷ [])) c.insert.new.self c.in_err-insert-2.field-0.0 c.from_residual-in_err-insert-2.result
    (rw (c.in_ok-insert.ensures.1, c.new-router.ensures) refl) c.in_err-insert-2.ensures.1 c.from_residual-in_err-insert-2.ensures.1

pub returns-in_err-insert-3-clause-memory : goal.returns-in_err-insert-3-clause-memory
unfolding matchit_on_literals
returns-in_err-insert-3-clause-memory c =
    memory_alone (in_any_org (codes "/state/" ++ param_token ∷ [])) c.insert-2.new.self c.in_err-insert-3.field-0.0 c.from_residual-in_err-insert-3.result
    (rw (c.in_ok-insert-2.ensures.1, c.in_ok-insert.ensures.1, c.new-router.ensures) refl) c.in_err-insert-3.ensures.1 c.from_residual-in_err-insert-3.ensures.1

pub returns-in_err-insert-4-clause-memory : goal.returns-in_err-insert-4-clause-memory
unfolding matchit_on_literals
returns-in_err-insert-4-clause-memory c =
    memory_alone (in_any_org (codes "/versions/" ++ param_token ∷ [])) c.insert-3.new.self c.in_err-insert-4.field-0.0 c.from_residual-in_err-insert-4.result
    (rw (c.in_ok-insert-3.ensures.1, c.in_ok-insert-2.ensures.1, c.in_ok-insert.ensures.1, c.new-router.ensures) refl) c.in_err-insert-4.ensures.1 c.from_residual-in_err-insert-4.ensures.1

pub returns-in_err-insert-5-clause-memory : goal.returns-in_err-insert-5-clause-memory
unfolding matchit_on_literals
returns-in_err-insert-5-clause-memory c =
    memory_alone (in_any_org (codes "/versions/" ++ param_token ∷ 47 ∷ param_token ∷ [])) c.insert-4.new.self c.in_err-insert-5.field-0.0 c.from_residual-in_err-insert-5.result
    (rw (c.in_ok-insert-4.ensures.1, c.in_ok-insert-3.ensures.1, c.in_ok-insert-2.ensures.1, c.in_ok-insert.ensures.1, c.new-router.ensures) refl) c.in_err-insert-5.ensures.1 c.from_residual-in_err-insert-5.ensures.1

pub returns-in_err-insert-6-clause-memory : goal.returns-in_err-insert-6-clause-memory
unfolding matchit_on_literals
returns-in_err-insert-6-clause-memory c =
    memory_alone (in_any_org (codes "/runs/" ++ param_token ∷ [])) c.insert-5.new.self c.in_err-insert-6.field-0.0 c.from_residual-in_err-insert-6.result
    (rw (c.in_ok-insert-5.ensures.1, c.in_ok-insert-4.ensures.1, c.in_ok-insert-3.ensures.1, c.in_ok-insert-2.ensures.1, c.in_ok-insert.ensures.1, c.new-router.ensures) refl) c.in_err-insert-6.ensures.1 c.from_residual-in_err-insert-6.ensures.1

pub returns-in_err-insert-7-clause-memory : goal.returns-in_err-insert-7-clause-memory
unfolding matchit_on_literals
returns-in_err-insert-7-clause-memory c =
    memory_alone (in_any_org (codes "/runs/" ++ param_token ∷ 47 ∷ param_token ∷ [])) c.insert-6.new.self c.in_err-insert-7.field-0.0 c.from_residual-in_err-insert-7.result
    (rw (c.in_ok-insert-6.ensures.1, c.in_ok-insert-5.ensures.1, c.in_ok-insert-4.ensures.1, c.in_ok-insert-3.ensures.1, c.in_ok-insert-2.ensures.1, c.in_ok-insert.ensures.1, c.new-router.ensures) refl) c.in_err-insert-7.ensures.1 c.from_residual-in_err-insert-7.ensures.1

pub returns-in_err-insert-8-clause-memory : goal.returns-in_err-insert-8-clause-memory
unfolding matchit_on_literals
returns-in_err-insert-8-clause-memory c =
    memory_alone (in_any_org (codes "/runs/" ++ param_token ∷ 47 ∷ param_token ∷ (codes "/actions/" ++ param_token ∷ []))) c.insert-7.new.self c.in_err-insert-8.field-0.0 c.from_residual-in_err-insert-8.result
    (rw (c.in_ok-insert-7.ensures.1, c.in_ok-insert-6.ensures.1, c.in_ok-insert-5.ensures.1, c.in_ok-insert-4.ensures.1, c.in_ok-insert-3.ensures.1, c.in_ok-insert-2.ensures.1, c.in_ok-insert.ensures.1, c.new-router.ensures) refl) c.in_err-insert-8.ensures.1 c.from_residual-in_err-insert-8.ensures.1
