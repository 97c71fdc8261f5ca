use Rattle.tables.proofs.Outside.{rules, ◌≡◌, ℕ, true, Option, ap, ◌∙◌, unwrap_or, FIRST_KEPT, retention_of, Equals, sees_by, sees_as}
use Rattle.tables.proofs.versions.retention.Goals as goal

pub returns : goal.returns
returns g c =
    let q = retention_of c.args.org.now c.args.ws.now in
    let needed : c.args.needed ≡ true = search rules in
    rw needed (record {
      unchanged = sees_as g.S.Store (Equals q) (Equals (λ t. unwrap_or (q t) FIRST_KEPT)) c.args.conn.now c.find.new.conn c.in_ok-found.found c.kept.result
          (λ t found. c.kept.ensures ∙ ap (λ (o : Option ℕ). unwrap_or o FIRST_KEPT) found) (sees_by g.S.Store _ _ _ _ c.in_ok-found.ensures);
    })
