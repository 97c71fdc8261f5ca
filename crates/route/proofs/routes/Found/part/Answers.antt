use Rattle.std.proofs.Common.{ap, ◌∙◌, refl}
use Rattle.std.proofs.Math.Logic.{∥∥₁_elim}
use Rattle.std.proofs.Props.{props}
use Rattle.route.proofs.RouteLemmas.{shown}
use Rattle.route.proofs.routes.Found.part.Goals as goal

pub returns : goal.returns
returns c = ∥∥₁_elim c.args.self.now.text (search props) (λ text. ap (λ r. r.now) c.unwrap_or.ensures ∙ shown c.get.result _ _ refl (c.get.ensures text))
