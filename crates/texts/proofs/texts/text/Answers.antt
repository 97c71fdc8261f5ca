use Rattle.texts.proofs.Outside.{subst, ℕ, Equals, Sees}
use Rattle.texts.specs.Texts.{joined}
use Rattle.texts.proofs.texts.text.Goals as goal

pub returns-clause-queries : goal.returns-clause-queries
returns-clause-queries g c =
    subst (λ (m : ℕ). Sees g.S.Store (Equals (joined c.args.org.now c.args.ws.now c.args.number m)) c.args.conn.now c.read_text.new.conn c.read_text.result) c.pages_for.ensures c.read_text.ensures.queries
