use Rattle.wire.specs.Replies.{unavailable_answer}
use Rattle.serve.proofs.ExchangeLemmas.{text_of}
use Rattle.serve.proofs.exchanges.refuse_exchange.Goals as goal

pub returns-clause-text : goal.returns-clause-text
returns-clause-text g c =
    text_of c.unavailable-reply.result (unavailable_answer c.args.is_head) c.args.now (g.O.Outlet.written c.args.outlet.now) (g.O.Outlet.written c.write_due.new.outlet) c.write_due.result
    c.unavailable-reply.ensures c.write_due.ensures.text
