use Rattle.serve.proofs.ExchangeLemmas.{exchanged_one, exchanged_logged}
use Rattle.serve.proofs.exchanges.exchange_with.Goals as goal

pub returns-clause-reported : goal.returns-clause-reported
returns-clause-reported g c = λ clean sound.
    let read = c.read_message-read.ensures.answer in
    (read.0, read.1, c.answer.ensures.reported clean sound read.0 (g.I.Inlet.left c.read_message-read.new.inlet) (g.O.Outlet.written c.args.outlet.now) read.2)

pub returns-clause-others : goal.returns-clause-others
returns-clause-others g c = λ clean sound.
    let read = c.read_message-read.ensures.answer in
    exchanged_one c.args.door.now (g.I.Inlet.left c.read_message-read.new.inlet) c.args.now read.0 (g.K.Keep.rows c.args.keep.now) (g.K.Keep.rows c.answer.new.keep)
    (g.O.Outlet.written c.args.outlet.now) (g.O.Outlet.written c.answer.new.outlet) c.answer.new.is_down c.answer.new.row c.answer.result
    (c.answer.ensures.reported clean sound read.0 (g.I.Inlet.left c.read_message-read.new.inlet) (g.O.Outlet.written c.args.outlet.now) read.2) (c.answer.ensures.stays clean)

pub returns-clause-changes : goal.returns-clause-changes
returns-clause-changes g c = λ clean sound.
    let read = c.read_message-read.ensures.answer in
    exchanged_logged c.args.door.now (g.I.Inlet.left c.read_message-read.new.inlet) c.args.now read.0 (g.K.Keep.rows c.args.keep.now) (g.K.Keep.rows c.answer.new.keep)
    (g.O.Outlet.written c.args.outlet.now) (g.O.Outlet.written c.answer.new.outlet) c.answer.new.is_down c.answer.new.row c.answer.result
    (c.records_are_lawful.ensures (c.answer.ensures.lasts.so_far clean) sound) (c.answer.ensures.reported clean sound read.0 (g.I.Inlet.left c.read_message-read.new.inlet) (g.O.Outlet.written c.args.outlet.now) read.2) (c.answer.ensures.stays clean)
