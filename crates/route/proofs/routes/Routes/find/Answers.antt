use Rattle.std.proofs.Common.{Some, None}
use Rattle.route.proofs.RouteLemmas.{text_from, leads}
use Rattle.route.proofs.routes.Routes.find.Goals as goal

pub returns-in-Ok : goal.returns-in-Ok
returns-in-Ok c =
    rw c.in-Ok.ensures.path
    (leads c.args.path.now (text_from c.args.path.now c.type_inv.path, c.utf8.path) (Some _) (rw c.args.self.now.complete at c.in-Ok.ensures.found)).0

pub returns-in-Err : goal.returns-in-Err
returns-in-Err c =
    leads c.args.path.now (text_from c.args.path.now c.type_inv.path, c.utf8.path) None (rw c.args.self.now.complete at c.in-Err.ensures.missing)

pub invariant_of-result : goal.invariant_of-result
invariant_of-result c =
    let read = leads c.args.path.now (text_from c.args.path.now c.type_inv.path, c.utf8.path) (Some _) (rw c.args.self.now.complete at c.in-Ok.ensures.found) in
    record { text = ∣ rw c.in-Ok.ensures.path read.1 ∣₁ }
