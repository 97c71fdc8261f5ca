use Rattle.tables.proofs.Outside.{ℕ, Option, ap, ◌∙◌, unwrap_or, cap_of, Equals, sees_by, sees_as}
use Rattle.tables.proofs.points.limit.Goals as goal

pub returns : goal.returns
returns g c = record {
  unchanged = sees_as g.S.Store (Equals (cap_of c.args.org.now)) (Equals (λ t. unwrap_or (cap_of c.args.org.now t) 0)) c.args.conn.now c.cap.new.conn c.in_ok-cap.cap c.allowed.result
      (λ t found. c.allowed.ensures ∙ ap (λ (cap : Option ℕ). unwrap_or cap 0) found) (sees_by g.S.Store _ _ _ _ c.in_ok-cap.ensures);
}
