use Rattle.tables.proofs.Outside.{◌≡◌, List, refl, sym, ap, subst, AllByRecursion, Database, state, Kept, PageRow, tables_of}
use Rattle.tables.specs.Stores.{records_of, IsSoundStore}
use Rattle.tables.specs.Scans.{ArePagesKeyed}
use Rattle.tables.proofs.Databases.{store_is}
use Rattle.tables.proofs.KeepKeyed.{keyed_held}
use Rattle.tables.proofs.KeptInMemory.{nothing_is}
use Rattle.tables.proofs.Stores.{made_store_is_sound, made_store_is_empty}
use Rattle.tables.proofs.Reporting.{sound_is_not_other}
use Rattle.tables.proofs.store.SqlKeep.open.Goals as goal

pub returns-in-Ok-clause-opened : goal.returns-in-Ok-clause-opened
returns-in-Ok-clause-opened g c = rw (c.of-seen.ensures, c.new.ensures) (λ clean.
    let ready = c.in-Ok.ensures in
    record {
      fresh = λ none.
          let made = ready.made clean none in
          (record { store = made_store_is_sound _ made.schema.holds; remembered = nothing_is _; tied = λ _. refl }, made_store_is_empty _ made.schema.holds);
      others = λ none. (ready.made clean none).schema.kept;
      held = λ there.
          let same = ready.stays clean there in
          (λ sound. record { store = subst IsSoundStore (sym same) sound; remembered = nothing_is _; tied = λ _. refl }, λ o. ap (λ (db : Database). records_of db o) same);
      stays = ready.stays clean;
      keyed = (
        λ none. keyed_held g.K.PageKey.key_of _ _ (ready.made clean none).schema.holds tt,
        λ there keyed. subst (λ (db : Database). ArePagesKeyed g.K.PageKey.key_of (tables_of db)) (sym (ready.stays clean there)) keyed,
        λ n h keyed. subst (λ (ps : List (Kept PageRow)). AllByRecursion (λ x. g.K.PageKey.key_of x.1.bytes ≡ x.1.key) ps) (sym (ready.climbed clean n h).2) keyed,
      );
      version = λ n there. (ready.reported clean n there).0;
      reports = λ n there. (ready.reported clean n there).1;
      climbed = λ n h.
          let is = ready.climbed clean n h in
          (record { store = store_is _ is.0; remembered = nothing_is _; tied = λ _. refl }, is.1);
      beside = λ n there. (ready.beside clean n there).foreign;
    })

pub returns-in-Ok-clause-refuses : goal.returns-in-Ok-clause-refuses
returns-in-Ok-clause-refuses g c = record { foreign = c.in-Ok.ensures.foreign; edition = c.in-Ok.ensures.edition; missing = c.in-Ok.ensures.missing; older = c.in-Ok.ensures.older }

pub returns-in-Err-clause-left : goal.returns-in-Err-clause-left
returns-in-Err-clause-left g c clean =
    let ready = c.in-Err.ensures in
    record { back = ready.err clean; kept = ready.kept clean; other = ready.other clean; sound = λ schema. sound_is_not_other (state g.S.Store c.args.conn) (ready.other clean schema).1 }

pub returns-in-Err-clause-refuses : goal.returns-in-Err-clause-refuses
returns-in-Err-clause-refuses g c = record { foreign = c.in-Err.ensures.foreign; edition = c.in-Err.ensures.edition; missing = c.in-Err.ensures.missing; older = c.in-Err.ensures.older }
