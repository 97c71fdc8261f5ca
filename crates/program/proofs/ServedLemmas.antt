-- What a loop of `serve` answers, as exchanges in a row.
use Rattle.std.proofs.Common.{◌≡◌, inl, inr, ◌<◌, ◌≤◌, ◌+◌, ◌++◌, arith, append-nil, ◌∷◌, [], List, ℕ, suc, Option, Some, IfSome, Result, Ok, Err, Bool, true, false, length, refl, sym, subst, ap, ◌∙◌}
use Rattle.std.proofs.lemmas.List.{length_push}
use Rattle.std.specs.Io.KnownBytes.{Appends, Consumes}
use Rattle.docs.specs.declared.logs.LogRow.{LogRow}
use Rattle.machine.specs.Laws.{AreLawful}
use Rattle.machine.specs.declared.keeps.Keep as keep
use Rattle.machine.specs.declared.records.Organization.{Organization}
use Rattle.wire.specs.declared.devices.Inlet as inlet
use Rattle.wire.specs.declared.devices.Outlet as outlet
use Rattle.serve.specs.Exchanges.{Exchanges, ChangesAsLogged}
use Rattle.serve.specs.Laws.{HasNoReply}
use Rattle.serve.specs.Logs.{silent_row}
use Rattle.serve.specs.Service.{Stays}
use Rattle.serve.specs.Served.{Exchange, AsksToStop, IsServed, AreServed, same_door}
use Rattle.serve.specs.declared.doors.Door.{Door}
use Rattle.serve.specs.declared.exchanges.LinkFault.{LinkFault}
use Rattle.serve.specs.declared.exchanges.LinkFault.TheVariants.{Ended, Read, Continue, Write}
use Rattle.serve.proofs.ServedLemmas.{exchanges_are_served, served_on, services_are_as_promised}
use Rattle.command_line.specs.Orders.{Site}
use Rattle.program.specs.declared.serving.Terms.{Terms}
use Rattle.program.specs.declared.environment.Clock as clock
use Rattle.program.specs.declared.environment.Connections as connections
use Rattle.program.specs.declared.environment.Files as files
use Rattle.program.specs.declared.exits.Exit.{Exit}
use Rattle.program.specs.declared.exits.Exit.TheVariants as exit
use Rattle.program.specs.declared.reasons.Cause.{Cause}
use Rattle.program.specs.Serving.{State, state, AnswersNext, AnswersAll, EndsEarly, EndsInOrder, AnswersCount, ServesNext, ServesAll, EndsServed, EndsServedInOrder, ServesCount, LoopsAreServed, ServesBound, Serves}
use Rattle.program.proofs.ServingLemmas.{after_reply_lasts, after_reply_rows}
use Rattle.program.proofs.LogLemmas.{clean_next, clean_all, sound_next}

-- an exchange whose row has only the moment leaves all records
silent : (at : ℕ) (old new : List ℕ → Option Organization) (row : Option LogRow) → row ≡ Some (silent_row at) → IfSome row (λ reported. ChangesAsLogged reported old new) → Stays old new
silent at old new row is changes org =
    let told : ChangesAsLogged (silent_row at) old new = subst (λ (r : Option LogRow). IfSome r (λ reported. ChangesAsLogged reported old new)) is changes in
    told.others org (λ e. let none : ⊥ = cc in none)

silent_exchange : {T : Type 0} (door : Door) (at : ℕ) (received : List ℕ) (left : Option (List ℕ)) (old new : List ℕ → Option Organization) (before after : Option (List ℕ)) (is_down : Bool) (row : Option LogRow) (res : Result T LinkFault)
    → Exchanges door at received left old new before after is_down row res → HasNoReply res → row ≡ Some (silent_row at)
silent_exchange door at received left old new before after is_down row (Ok done) h (inl e) = absurd (let none : ⊥ = cc in none)
silent_exchange door at received left old new before after is_down row (Ok done) h (inr (inl e)) = absurd (let none : ⊥ = cc in none)
silent_exchange door at received left old new before after is_down row (Ok done) h (inr (inr e)) = absurd (let none : ⊥ = cc in none)
silent_exchange door at received left old new before after is_down row (Err Write) h (inl e) = absurd (let none : ⊥ = cc in none)
silent_exchange door at received left old new before after is_down row (Err Write) h (inr (inl e)) = absurd (let none : ⊥ = cc in none)
silent_exchange door at received left old new before after is_down row (Err Write) h (inr (inr e)) = absurd (let none : ⊥ = cc in none)
silent_exchange door at received left old new before after is_down row (Err Ended) h none = h.1
silent_exchange door at received left old new before after is_down row (Err Read) h none = h.1
silent_exchange door at received left old new before after is_down row (Err Continue) h none = h.1

module _ {K F N C R W : Type 0} (k : keep.Ghosts K) (f : files.Ghosts F K) (n : connections.Ghosts N R W) (c : clock.Ghosts C) (i : inlet.Ghosts R) (o : outlet.Ghosts W) where
  -- an exchange of a connection that was answered at its moment
  of_connection : (terms : Terms) (connection at : ℕ) (is_shut is_stop is_logged : Bool) (old new : State N C K) (e : Exchange) → e.at ≡ at → IsServed terms.door e (k.rows old.store) (k.rows new.store)
      → (next : AnswersNext k f n c i o terms connection at is_shut is_stop is_logged old new) → Consumes (i.left next.answers.reader) (i.left next.answers.answers.read) e.received
      → Appends (o.written next.answers.writer) (o.written next.answers.answers.written) e.written → ServesNext k f n c i o terms connection e is_shut is_stop is_logged old new
  of_connection terms connection at is_shut is_stop is_logged old new e moment served =
      subst (λ (x : ℕ). (next : AnswersNext k f n c i o terms connection x is_shut is_stop is_logged old new) → Consumes (i.left next.answers.reader) (i.left next.answers.answers.read) e.received
      → Appends (o.written next.answers.writer) (o.written next.answers.answers.written) e.written → ServesNext k f n c i o terms connection e is_shut is_stop is_logged old new) moment
      (λ next received written. record { next = next; received = received; written = written; served = served })

  pub served_next : (terms : Terms) (connection at : ℕ) (is_shut is_stop is_logged : Bool) (old new : State N C K) → AnswersNext k f n c i o terms connection at is_shut is_stop is_logged old new → k.clean new.store → k.sound old.store
      → (e : Exchange) × ServesNext k f n c i o terms connection e is_shut is_stop is_logged old new × (is_stop ≡ true → AsksToStop e)
  served_next terms connection at is_shut is_stop is_logged old new next clean sound =
      let one = next.answers.answers in
      let before = (after_reply_lasts k f next.is_down next.store is_shut new.store next.after_reply).so_far clean in
      let exchanged = one.exchanges before sound in
      let stays : HasNoReply one.result → Stays (k.rows old.store) (k.rows next.store) = λ none.
      silent at (k.rows old.store) (k.rows next.store) one.row
      (silent_exchange terms.door at exchanged.0 (i.left one.read) (k.rows old.store) (k.rows next.store) (o.written next.answers.writer) (o.written one.written) next.is_down one.row one.result exchanged.2 none) (one.changes before sound) in
      let found = exchanges_are_served terms.door at exchanged.0 (i.left one.read) (k.rows old.store) (k.rows next.store) (o.written next.answers.writer) (o.written one.written) next.is_down one.row one.result one.timely exchanged.2 stays in
      let rows : k.rows new.store ≡ k.rows next.store = after_reply_rows k f next.is_down next.store is_shut new.store next.after_reply clean (one.lasts.kept before sound) in (
        found.0,
        of_connection terms connection at is_shut is_stop is_logged old new found.0 found.1 (subst (λ (r : List ℕ → Option Organization). IsServed terms.door found.0 (k.rows old.store) r) (sym rows) found.4)
            next (subst (λ (bytes : List ℕ). Consumes (i.left next.answers.reader) (i.left one.read) bytes) (sym found.2) exchanged.1) found.3,
        λ stopped. found.5 (sym one.stops ∙ stopped),
      )

  pub served_all : (terms : Terms) (connection : ℕ) (moments : List ℕ) (old new : State N C K) → AnswersAll k f n c i o terms connection moments old new → k.clean new.store → k.sound old.store
      → (es : List Exchange) × (length es ≡ length moments) × ServesAll k f n c i o terms connection es old new × AreServed terms.door es (k.rows old.store) (k.rows new.store)
  served_all terms connection [] old new same clean sound = ([], refl, same, λ org. ap (λ (s : State N C K). k.rows s.store org) same)
  served_all terms connection (at ∷ moments) old new all clean sound =
      let before = clean_all k f n c i o terms (suc connection) moments all.0 new all.2 clean in
      let one = served_next terms connection at false false true old all.0 all.1 before sound in
      let more = served_all terms (suc connection) moments all.0 new all.2 clean (sound_next k f n c i o terms connection at false false true old all.0 all.1 before sound) in (
        one.0 ∷ more.0,
        ap suc more.1,
        (all.0, one.1, more.2),
        (k.rows all.0.store, one.1.served, more.3),
      )

  -- the records stay where no further connection is accepted
  none_since : (door : Door) (last new : State N C K) → new.store ≡ last.store → AreServed door [] (k.rows last.store) (k.rows new.store)
  none_since door last new same org = ap (λ (s : K). k.rows s org) same

  served_early : (terms : Terms) (connection : ℕ) (last new : State N C K) (why : Cause) → EndsEarly k f n c i o terms connection last new why → k.clean new.store → k.sound last.store
      → (es : List Exchange) × EndsServed k f n c i o terms connection es last new why × AreServed terms.door es (k.rows last.store) (k.rows new.store)
  served_early terms connection last new why (inl none) clean sound = ([], inl (refl, none.0, none.1, none.2, none.3), none_since terms.door last new none.1)
  served_early terms connection last new why (inr (inl shut)) clean sound =
      let one = served_next terms connection shut.0 true shut.1 shut.2 last new shut.3 clean sound in
      (one.0 ∷ [], inr (inl (one.0, shut.1, shut.2, refl, one.1, shut.4)), (k.rows new.store, one.1.served, λ org. refl))
  served_early terms connection last new why (inr (inr unlogged)) clean sound =
      let one = served_next terms connection unlogged.0 false unlogged.1 false last new unlogged.2 clean sound in
      (one.0 ∷ [], inr (inr (one.0, unlogged.1, refl, one.1, unlogged.3)), (k.rows new.store, one.1.served, λ org. refl))

  served_last : (terms : Terms) (count answered : ℕ) (last new : State N C K) → EndsInOrder k f n c i o terms count answered last new → k.clean new.store → k.sound last.store
      → (es : List Exchange) × EndsServedInOrder k f n c i o terms count answered es last new × AreServed terms.door es (k.rows last.store) (k.rows new.store)
  served_last terms count answered last new (inl all) clean sound = ([], inl (refl, all.0, all.1), none_since terms.door last new (ap (λ (s : State N C K). s.store) all.1))
  served_last terms count answered last new (inr stopped) clean sound =
      let one = served_next terms (suc answered) stopped.1 false true true last new stopped.2 clean sound in
      (one.0 ∷ [], inr (stopped.0, one.0, refl, one.1, one.2 refl), (k.rows new.store, one.1.served, λ org. refl))

  clean_last : (terms : Terms) (count answered : ℕ) (last new : State N C K) → EndsInOrder k f n c i o terms count answered last new → k.clean new.store → k.clean last.store
  clean_last terms count answered last new (inl all) clean = subst (λ (s : State N C K). k.clean s.store) all.1 clean
  clean_last terms count answered last new (inr stopped) clean = clean_next k f n c i o terms (suc answered) stopped.1 false true true last new stopped.2 clean

  clean_early : (terms : Terms) (connection : ℕ) (last new : State N C K) (why : Cause) → EndsEarly k f n c i o terms connection last new why → k.clean new.store → k.clean last.store
  clean_early terms connection last new why (inl none) clean = subst (λ (s : K). k.clean s) none.1 clean
  clean_early terms connection last new why (inr (inl shut)) clean = clean_next k f n c i o terms connection shut.0 true shut.1 shut.2 last new shut.3 clean
  clean_early terms connection last new why (inr (inr unlogged)) clean = clean_next k f n c i o terms connection unlogged.0 false unlogged.1 false last new unlogged.2 clean

  sound_all : (terms : Terms) (connection : ℕ) (moments : List ℕ) (old new : State N C K) → AnswersAll k f n c i o terms connection moments old new → k.clean new.store → k.sound old.store → k.sound new.store
  sound_all terms connection [] old new same clean sound = subst (λ (s : State N C K). k.sound s.store) (sym same) sound
  sound_all terms connection (at ∷ moments) old new all clean sound =
      let before = clean_all k f n c i o terms (suc connection) moments all.0 new all.2 clean in
      sound_all terms (suc connection) moments all.0 new all.2 clean (sound_next k f n c i o terms connection at false false true old all.0 all.1 before sound)

  pub loops_are_served : LoopsAreServed k f n c i o
  loops_are_served site terms count old new exit.Done h clean sound =
      let start = state old.network old.clock old.store old.errors h.0 in
      let last = h.3 in
      let clean_then = clean_last terms count (length h.2) last new h.5 clean in
      let served = served_all terms 1 h.2 start last h.4 clean_then sound in
      let since = served_last terms count (length h.2) last new h.5 clean (sound_all terms 1 h.2 start last h.4 clean_then sound) in (
        served.0 ++ since.0,
        (h.0, h.1, served.0, since.0, refl, last, served.2, subst (λ (m : ℕ). EndsServedInOrder k f n c i o terms count m since.0 last new) (sym served.1) since.1),
        served_on terms.door served.0 since.0 (k.rows old.store) (k.rows last.store) (k.rows new.store) served.3 since.2,
      )
  loops_are_served site terms count old new exit.Down h clean sound =
      let start = state old.network old.clock old.store old.errors h.0 in
      let last = h.3 in
      let ended = state new.network new.clock new.store h.7 new.output in
      let clean_last = clean_early terms (suc (length h.2)) last ended h.6 h.8 clean in
      let served = served_all terms 1 h.2 start last h.5 clean_last sound in
      let since = served_early terms (suc (length h.2)) last ended h.6 h.8 clean (sound_all terms 1 h.2 start last h.5 clean_last sound) in (
        served.0 ++ since.0,
        (h.0, h.1, served.0, since.0, refl, last, subst (λ (m : ℕ). m < count) (sym served.1) h.4, served.2, h.6, h.7, subst (λ (m : ℕ). EndsServed k f n c i o terms (suc m) since.0 last ended h.6) (sym served.1) since.1, h.9),
        served_on terms.door served.0 since.0 (k.rows old.store) (k.rows last.store) (k.rows new.store) served.3 since.2,
      )
  loops_are_served site terms count old new exit.Unprinted h clean sound = ([], (refl, h.0, h.1, h.2, h.3), λ org. ap (λ (s : K). k.rows s org) h.2)
  loops_are_served site terms count old new exit.Exists h clean sound = absurd h
  loops_are_served site terms count old new exit.Absent h clean sound = absurd h
  loops_are_served site terms count old new exit.InUse h clean sound = absurd h
  loops_are_served site terms count old new exit.Faults h clean sound = absurd h
  loops_are_served site terms count old new exit.Usage h clean sound = absurd h
  loops_are_served site terms count old new exit.BadFrame h clean sound = absurd h
  loops_are_served site terms count old new exit.Schema h clean sound = absurd h

  few_since : (terms : Terms) (connection : ℕ) (before since es : List Exchange) (last new : State N C K) (why : Cause) (count : ℕ) → es ≡ before ++ since → length before < count
      → EndsServed k f n c i o terms connection since last new why → length es ≤ count
  few_since terms connection before since es last new why count is few (inl none) =
      let same : length es ≡ length before = ap length (is ∙ ap (λ (x : List Exchange). before ++ x) none.0 ∙ append-nil before) in omega arith
  few_since terms connection before since es last new why count is few (inr (inl shut)) =
      let same : length es ≡ length before + 1 = ap length (is ∙ ap (λ (x : List Exchange). before ++ x) shut.3) ∙ length_push before shut.0 in omega arith
  few_since terms connection before since es last new why count is few (inr (inr unlogged)) =
      let same : length es ≡ length before + 1 = ap length (is ∙ ap (λ (x : List Exchange). before ++ x) unlogged.2) ∙ length_push before unlogged.0 in omega arith

  few_last : (terms : Terms) (before since es : List Exchange) (last new : State N C K) (count : ℕ) → es ≡ before ++ since → EndsServedInOrder k f n c i o terms count (length before) since last new → length es ≤ count
  few_last terms before since es last new count is (inl all) =
      let same : length es ≡ length before = ap length (is ∙ ap (λ (x : List Exchange). before ++ x) all.0 ∙ append-nil before) in
      let full : length before ≡ count = all.1 in omega arith
  few_last terms before since es last new count is (inr stopped) =
      let same : length es ≡ length before + 1 = ap length (is ∙ ap (λ (x : List Exchange). before ++ x) stopped.2) ∙ length_push before stopped.1 in
      let fewer : length before < count = stopped.0 in omega arith

  few_served : (site : Site) (terms : Terms) (count : ℕ) (es : List Exchange) (old new : State N C K) (e : Exit) → ServesCount k f n c i o site terms count es old new e → length es ≤ count
  few_served site terms count es old new exit.Done h = few_last terms h.2 h.3 es h.5 new count h.4 h.7
  few_served site terms count es old new exit.Down h = few_since terms (suc (length h.2)) h.2 h.3 es h.5 (state new.network new.clock new.store h.9 new.output) h.8 count h.4 h.6 h.10
  few_served site terms count es old new exit.Unprinted h = let none : length es ≡ 0 = ap length h.0 in omega arith
  few_served site terms count es old new exit.Exists h = absurd h
  few_served site terms count es old new exit.Absent h = absurd h
  few_served site terms count es old new exit.InUse h = absurd h
  few_served site terms count es old new exit.Faults h = absurd h
  few_served site terms count es old new exit.Usage h = absurd h
  few_served site terms count es old new exit.BadFrame h = absurd h
  few_served site terms count es old new exit.Schema h = absurd h

  -- what a loop serves is as promised
  pub loop_serves : (site : Site) (terms : Terms) (count : ℕ) (old new : State N C K) (e : Exit) → AnswersCount k f n c i o site terms count old new e → k.clean new.store → k.sound old.store
      → AreLawful (k.rows old.store) → Serves (λ es. ServesCount k f n c i o site terms count es old new e) terms.door count (k.rows old.store) (k.rows new.store)
  loop_serves site terms count old new e answers clean sound lawful =
      let served = loops_are_served site terms count old new e answers clean sound in
      record {
        exchanges = served.0;
        few = few_served site terms count served.0 old new e served.1;
        of_connections = served.1;
        served = served.2;
        promised = services_are_as_promised (same_door terms.door served.0) served.0 (k.rows old.store) (k.rows new.store) served.2 lawful;
      }

  -- and so is nothing, if the network cannot listen
  pub none_serves : (terms : Terms) (count : ℕ) (why : Cause) (old new : State N C K) → new.network ≡ old.network → new.clock ≡ old.clock → new.store ≡ old.store
      → AreLawful (k.rows old.store) → Serves (λ es. ServesBound k f n c i o (Err why) terms count es old new exit.Down) terms.door count (k.rows old.store) (k.rows new.store)
  none_serves terms count why old new network clock store lawful =
      let stays = none_since terms.door old new store in
      record {
        exchanges = [];
        few = omega arith;
        of_connections = (refl, network, clock, store, refl);
        served = stays;
        promised = services_are_as_promised [] [] (k.rows old.store) (k.rows new.store) stays lawful;
      }
