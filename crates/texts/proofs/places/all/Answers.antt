use Rattle.std.proofs.lemmas.Result.{IfOk-weaker}
use Rattle.texts.proofs.Outside.{state, clean_before}
use Rattle.texts.specs.declared.places.TheConstants.{PLACES}
use Rattle.texts.proofs.PlaceTexts.{places_asks}
use Rattle.texts.proofs.PlaceReads.{places_show}
use Rattle.texts.proofs.Releasing.{query_reads}
use Rattle.texts.proofs.places.all.Goals as goal

pub returns : goal.returns
returns g c =
    let old = state g.S.Store c.args.tx.now.conn.now in
    let new = state g.S.Store c.query_all.new.self.conn.now in
    let query = c.query_all.ensures in
    record {
      same_reference = query.same_reference;
      sees = λ clean. (
        IfOk-weaker c.query_all.result _ _ (λ rows shown t holds. places_show old new t holds c.args.org.now c.args.ws.now c.args.number rows.items shown)
            (rw c.get-number.ensures.value at (rw (c.params-to_sql.ensures, c.params-to_sql-2.ensures, c.params-to_sql-3.ensures) at (query.ok clean))),
        query_reads (λ rows. rows.items) PLACES.now places_asks.is_query _ old new c.query_all.result (query.ok clean) (query.err clean),
      );
      so_far = clean_before old new _ query.survives;
      shield = query.survives.shield;
    }
