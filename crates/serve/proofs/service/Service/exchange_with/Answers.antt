use Rattle.std.proofs.Common.{refl}
use Rattle.serve.proofs.ExchangeLemmas.{refused_unread, stayed_one, unavailable_makes_nothing, stayed_logged}
use Rattle.serve.proofs.service.Service.exchange_with.Goals as goal

pub returns-in-Err-clause-reported : goal.returns-in-Err-clause-reported
returns-in-Err-clause-reported g c = λ clean sound.
    let t = c.refuse_exchange.ensures.text in
    refused_unread c.args.door.now (g.I.Inlet.left c.args.inlet.now) c.args.now (g.K.Keep.rows c.args.self.now.keep) c.unavailable_row.result (g.O.Outlet.written c.args.outlet.now) (g.O.Outlet.written c.refuse_exchange.new.outlet)
    t.0 c.refuse_exchange.result c.unavailable_row.ensures t.1 t.2 c.refuse_exchange.ensures.fault

pub returns-in-Err-clause-others : goal.returns-in-Err-clause-others
returns-in-Err-clause-others g c = λ clean sound. stayed_one (g.K.Keep.rows c.args.self.now.keep) (g.K.Keep.rows c.args.self.now.keep) (λ org. refl)

pub returns-in-Err-clause-changes : goal.returns-in-Err-clause-changes
returns-in-Err-clause-changes g c = λ clean sound. stayed_logged c.unavailable_row.result (g.K.Keep.rows c.args.self.now.keep) (g.K.Keep.rows c.args.self.now.keep) (unavailable_makes_nothing c.unavailable_row.result c.args.now c.unavailable_row.ensures) (λ org. refl)
