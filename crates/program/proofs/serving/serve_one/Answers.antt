use Rattle.std.proofs.Common.{refl, rules}
use Rattle.program.proofs.serving.serve_one.Goals as goal

pub returns-clause-answers : goal.returns-clause-answers
returns-clause-answers g c =
    let exchanged = c.exchange_one-ended in
    record {
      read = exchanged.new.inlet;
      written = exchanged.new.outlet;
      result = exchanged.result;
      row = exchanged.new.service.row;
      timely = exchanged.ensures.timely;
      lasts = exchanged.ensures.lasts;
      exchanges = exchanged.ensures.reported;
      changes = exchanged.ensures.changes;
      lines = search rules;
      stops = refl;
      logged = search rules;
      ends = search rules;
    }
