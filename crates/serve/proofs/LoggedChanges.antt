-- What the row of a request tells of versions and runs is what comes of them.
use Rattle.std.proofs.Common.{◌≡◌, ◌≢◌, ◌⊎◌, inl, inr, ℕ, zero, suc, ◌+◌, ◌≤◌, ◌==◌, Bool, true, false, cond, List, [], ◌∷◌, map, Option, Some, None, Result, Ok, Err, IsSome, is_some, IfSome, refl, sym, ap, subst, ◌∙◌, arith, eq-eqb, eqb-true, ne_eqb}
use Rattle.serve.proofs.Outside.{if◌then◌else◌, option_or, bytes_eq, bytes_eq-Decides, same_Some, LogRow, Refusal, Holder, KeepsVersions, GainsVersion, IsAnew, Rises, holds, IsLawful, IsLawfulIfThere, Starts, Seen, missing, there, standing, workspace_in, rules, version_of, Act, Version, Workspace, Organization, workspaces_begin_anew, apart_from, Asked}
use Rattle.basis.specs.declared.rows.Holder.TheVariants.{Nobody, Lock as HeldLock, Run as HeldRun}
use Rattle.machine.proofs.VersionLemmas.{numbers_rise}
use Rattle.serve.specs.Checks.{checked}
use Rattle.serve.specs.Exchanges.{Makes, OfNamed, ComesAsLogged}
use Rattle.serve.specs.Logs.{workspace_named, number_given, version_made, run_holding, run_started, traced, request_row}
use Rattle.serve.specs.Steps.{seen_at, carried, request_step}
use Rattle.serve.specs.declared.checks.Task.{Task}
use Rattle.serve.specs.declared.checks.Task.TheVariants.{ListAll, Carry}
use Rattle.serve.proofs.CheckLemmas.{Passes, order_passes}
use Rattle.serve.proofs.CustodyLemmas.{own_after, other_after, seen_there}
use Rattle.serve.proofs.LogLemmas.{given_same}
use Rattle.serve.proofs.RecordLemmas.{standing_at}

-- above all numbers there is no version
none_above : (low : ℕ) (vs : List Version) (next : ℕ) → Rises low (map (λ (v : Version). v.number) vs) next → version_of next vs ≡ None
none_above low [] next rise = refl
none_above low (x ∷ vs) next rise = passed (x.number == next) refl (none_above x.number vs next rise.2)
  where
    passed : (b : Bool) → (x.number == next) ≡ b → version_of next vs ≡ None → option_or (version_of next vs) (cond b (Some x) None) ≡ None
    passed true t rest = absurd (omega (arith, eqb-true x.number next t, rise.1))
    passed false t rest = ap (λ (o : Option Version). option_or o None) rest

-- the number of a version that is made is told
given_next : (a b : ℕ) → 1 ≤ a → b ≡ a + 1 → number_given a b ≡ Some a
given_next a zero first e = absurd (omega (arith, e))
given_next a (suc zero) first e = absurd (omega (arith, first, e))
given_next a (suc (suc k)) first e = rw (ne_eqb (suc (suc k)) a (λ same. omega (arith, e, same))) (ap Some (omega (arith, e)))

-- a version comes, and its number is told, or none comes, and none is told
abbrev VersionLogged : Option ℕ → Workspace → Workspace → Type 0
VersionLogged reported w v = (KeepsVersions w v × (reported ≡ None)) ⊎ (Makes w.next_version w v × (reported ≡ Some w.next_version))

comes_logged : (w v : Workspace) → IsLawful w → KeepsVersions w v ⊎ GainsVersion w v
    → VersionLogged (number_given w.next_version v.next_version) w v
comes_logged w v lawful (inl keeps) = inl (keeps, ap (number_given w.next_version) keeps.next ∙ given_same w.next_version)
comes_logged w v lawful (inr gains) = inr (
  record { gains = gains; number = gains.number; absent = none_above 0 w.versions w.next_version lawful.versions.rise },
  given_next w.next_version v.next_version lawful.versions.next.0 gains.next,
)

-- the run that is told starts, and the one that starts is told
holding_starts : (before after : Holder) (n : ℕ) → run_holding before after ≡ Some n → (holds before n ≡ false) × (holds after n ≡ true)
holding_starts before Nobody n e = absurd (let none : ⊥ = cc in none)
holding_starts before (HeldLock id text) n e = absurd (let none : ⊥ = cc in none)
holding_starts before (HeldRun m) n e = by_before (holds before m) refl e
  where
    by_before : (b : Bool) → holds before m ≡ b → (if b then None else Some m) ≡ Some n → (holds before n ≡ false) × ((m == n) ≡ true)
    by_before true held is = absurd (let none : ⊥ = cc in none)
    by_before false held is = let same : m ≡ n = cc in (ap (holds before) (sym same) ∙ held, eq-eqb m n same)

starts_held : (before after : Holder) (n : ℕ) → holds before n ≡ false → holds after n ≡ true → run_holding before after ≡ Some n
starts_held before Nobody n unheld held = absurd (let none : ⊥ = cc in none)
starts_held before (HeldLock id text) n unheld held = absurd (let none : ⊥ = cc in none)
starts_held before (HeldRun m) n unheld held =
    let same : m ≡ n = eqb-true m n held in
    ap (λ (b : Bool). if b then None else Some m) (ap (holds before) same ∙ unheld) ∙ ap Some same

-- what is told is of a workspace that stood and is left
made_there : (s q : Option Workspace) (n : ℕ) → version_made s q ≡ Some n → (w : Workspace) × (v : Workspace) × (s ≡ Some w) × (q ≡ Some v)
made_there None q n e = absurd (let none : ⊥ = cc in none)
made_there (Some w) None n e = absurd (let none : ⊥ = cc in none)
made_there (Some w) (Some v) n e = (w, v, refl, refl)

started_there : (s q : Option Workspace) (n : ℕ) → run_started s q ≡ Some n → (w : Workspace) × (v : Workspace) × (s ≡ Some w) × (q ≡ Some v)
started_there None q n e = absurd (let none : ⊥ = cc in none)
started_there (Some w) None n e = absurd (let none : ⊥ = cc in none)
started_there (Some w) (Some v) n e = (w, v, refl, refl)

-- of a record before and after, and of the name, the version and the run that are told: the workspace of the name was ruled
record IsRuled (r after : Option Organization) (named : Option (List ℕ)) (version run : Option ℕ) : Type 0 where
  ws : List ℕ
  act : Act
  now : ℕ
  is : named ≡ Some ws
  left : workspace_in after ws ≡ (rules act now (seen_at r ws)).left
  others : (other : List ℕ) → other ≢ ws → workspace_in after other ≡ workspace_in r other
  made : version ≡ version_made (workspace_in r ws) (rules act now (seen_at r ws)).left
  started : run ≡ run_started (workspace_in r ws) (rules act now (seen_at r ws)).left

-- or nothing was
record IsStill (r after : Option Organization) (version run : Option ℕ) : Type 0 where
  stays : after ≡ r
  made : version ≡ None
  started : run ≡ None

abbrev Goes : Option Organization → Option Organization → Option (List ℕ) → Option ℕ → Option ℕ → Type 0
Goes r after named version run = IsStill r after version run ⊎ IsRuled r after named version run

task_goes : (r : Option Organization) (now : ℕ) (asked : Asked) (content_md5 : Option (List ℕ)) (body : List ℕ) (x : Result Task Refusal) → checked r now asked content_md5 body ≡ x
    → Goes r (carried asked.caller now r x).left (workspace_named asked.act) (traced now r x).version (traced now r x).run
task_goes r now asked content_md5 body (Err refusal) e = inl (record { stays = refl; made = refl; started = refl })
task_goes r now asked content_md5 body (Ok (ListAll after prefix)) e = inl (record { stays = refl; made = refl; started = refl })
task_goes r now asked content_md5 body (Ok (Carry its_ws its_act)) e =
    let p : Passes r asked body its_ws its_act = order_passes r now asked content_md5 body its_ws its_act e in
    inr (record {
      ws = its_ws;
      act = its_act;
      now = now;
      is = ap workspace_named p.asks;
      left = own_after r asked.caller its_ws its_act now p.there;
      others = λ other apart. other_after r asked.caller its_ws other its_act now apart;
      made = refl;
      started = refl;
    })

pub keeps_same : (w v : Workspace) → w ≡ v → KeepsVersions w v
keeps_same w v same = subst (KeepsVersions w) same (record { next = refl; left = λ n u e. e })

pub none_starts : (w v : Workspace) (n : ℕ) → w ≡ v → Starts n w v → ⊥
none_starts w v n same (unheld, held) = let none : ⊥ = cc (sym unheld ∙ ap (λ (x : Workspace). holds x.holder n) same ∙ held) in none

-- of a record that stays a row tells that nothing was made
pub still_logged : (row : LogRow) (r : Option Organization) → row.version ≡ None → row.run ≡ None → ComesAsLogged row r r
still_logged row r made started = record {
  version = subst (λ (o : Option ℕ). IfSome o (λ n. OfNamed row.workspace r r (Makes n))) (sym made) tt;
  run = subst (λ (o : Option ℕ). IfSome o (λ n. OfNamed row.workspace r r (Starts n))) (sym started) tt;
  versions = λ ws w v stood stands. inl (keeps_same w v (same_Some w v (sym stood ∙ stands)));
  runs = λ ws w v n stood stands starts. absurd (none_starts w v n (same_Some w v (sym stood ∙ stands)) starts);
  anew = λ ws v gone stands. absurd (let none : ⊥ = cc (sym gone ∙ stands) in none);
}

-- what comes of the record is what is told
module _ (row : LogRow) (r after : Option Organization) (lawful : (ws : List ℕ) → IsLawfulIfThere (workspace_in r ws)) where
  abbrev Ruled : Type 0
  Ruled = IsRuled r after row.workspace row.version row.run

  same_workspace : (ws : List ℕ) (w v : Workspace) → workspace_in after ws ≡ workspace_in r ws → workspace_in r ws ≡ Some w → workspace_in after ws ≡ Some v → w ≡ v
  same_workspace ws w v same stood stands = same_Some w v (sym stood ∙ sym same ∙ stands)

  -- of the workspace that was ruled
  version_comes : (h : Ruled) (w v : Workspace) → workspace_in r h.ws ≡ Some w → (rules h.act h.now (seen_at r h.ws)).left ≡ Some v
      → VersionLogged row.version w v
  version_comes h w v stood left = subst (λ (o : Option ℕ). VersionLogged o w v) (sym reported) (comes_logged w v (subst IsLawfulIfThere stood (lawful h.ws)) (numbers_rise h.act h.now w v there_left).1)
    where
      there_left : (rules h.act h.now (there w)).left ≡ Some v
      there_left = ap (λ (s : Seen). (rules h.act h.now s).left) (sym (seen_there r h.ws w stood)) ∙ left

      reported : row.version ≡ number_given w.next_version v.next_version
      reported = h.made ∙ ap (λ (o : Option Workspace). version_made o (rules h.act h.now (seen_at r h.ws)).left) stood ∙ ap (version_made (Some w)) left

  run_comes : (h : Ruled) (w v : Workspace) → workspace_in r h.ws ≡ Some w → (rules h.act h.now (seen_at r h.ws)).left ≡ Some v → row.run ≡ run_holding w.holder v.holder
  run_comes h w v stood left = h.started ∙ ap (λ (o : Option Workspace). run_started o (rules h.act h.now (seen_at r h.ws)).left) stood ∙ ap (run_started (Some w)) left

  -- what is told comes
  logged_version : (o : Option ℕ) → row.version ≡ o → Goes r after row.workspace row.version row.run → IfSome o (λ n. OfNamed row.workspace r after (Makes n))
  logged_version None e goes = tt
  logged_version (Some n) e (inl still) = absurd (let none : ⊥ = cc (sym still.made ∙ e) in none)
  logged_version (Some n) e (inr h) = let b = made_there (workspace_in r h.ws) (rules h.act h.now (seen_at r h.ws)).left n (sym h.made ∙ e) in by_case b.0 b.1 b.2 b.3 (version_comes h b.0 b.1 b.2 b.3)
    where
      by_case : (w v : Workspace) → workspace_in r h.ws ≡ Some w → (rules h.act h.now (seen_at r h.ws)).left ≡ Some v
          → VersionLogged row.version w v → OfNamed row.workspace r after (Makes n)
      by_case w v stood left (inl (keeps, unreported)) = absurd (let none : ⊥ = cc (sym unreported ∙ e) in none)
      by_case w v stood left (inr (makes, is)) =
          let same : w.next_version ≡ n = same_Some w.next_version n (sym is ∙ e) in
          record { ws = h.ws; is = h.is; before = w; after = v; stood = stood; stands = h.left ∙ left; so = subst (λ (m : ℕ). Makes m w v) same makes }

  logged_run : (o : Option ℕ) → row.run ≡ o → Goes r after row.workspace row.version row.run → IfSome o (λ n. OfNamed row.workspace r after (Starts n))
  logged_run None e goes = tt
  logged_run (Some n) e (inl still) = absurd (let none : ⊥ = cc (sym still.started ∙ e) in none)
  logged_run (Some n) e (inr h) =
      let b = started_there (workspace_in r h.ws) (rules h.act h.now (seen_at r h.ws)).left n (sym h.started ∙ e) in
      record {
        ws = h.ws;
        is = h.is;
        before = b.0;
        after = b.1;
        stood = b.2;
        stands = h.left ∙ b.3;
        so = holding_starts b.0.holder b.1.holder n (sym (run_comes h b.0 b.1 b.2 b.3) ∙ e);
      }

  -- a workspace is left as it is, or was ruled
  abbrev LeftOrRuled : List ℕ → Type 0
  LeftOrRuled ws = (workspace_in after ws ≡ workspace_in r ws) ⊎ ((h : Ruled) × (h.ws ≡ ws))

  by_workspace : Goes r after row.workspace row.version row.run → (ws : List ℕ) → LeftOrRuled ws
  by_workspace (inl still) ws = inl (ap (λ (q : Option Organization). workspace_in q ws) still.stays)
  by_workspace (inr h) ws = by_name (bytes_eq ws h.ws) refl
    where
      by_name : (b : Bool) → bytes_eq ws h.ws ≡ b → LeftOrRuled ws
      by_name true same = inr (h, sym ((bytes_eq-Decides ws h.ws).0 same))
      by_name false apart = inl (h.others ws (apart_from ws h.ws apart))

  -- what comes is told
  version_logged : (ws : List ℕ) (w v : Workspace) → workspace_in r ws ≡ Some w → workspace_in after ws ≡ Some v
      → LeftOrRuled ws → KeepsVersions w v ⊎ ((row.workspace ≡ Some ws) × IsSome row.version)
  version_logged ws w v stood stands (inl same) = inl (keeps_same w v (same_workspace ws w v same stood stands))
  version_logged ws w v stood stands (inr (h, is)) =
      by_case (version_comes h w v (ap (workspace_in r) is ∙ stood) (sym h.left ∙ ap (workspace_in after) is ∙ stands))
    where
      by_case : VersionLogged row.version w v → KeepsVersions w v ⊎ ((row.workspace ≡ Some ws) × IsSome row.version)
      by_case (inl (keeps, unreported)) = inl keeps
      by_case (inr (makes, reported)) = inr (h.is ∙ ap Some is, ap is_some reported)

  run_shown : (ws : List ℕ) (w v : Workspace) (n : ℕ) → workspace_in r ws ≡ Some w → workspace_in after ws ≡ Some v → Starts n w v
      → LeftOrRuled ws → (row.workspace ≡ Some ws) × (row.run ≡ Some n)
  run_shown ws w v n stood stands starts (inl same) = absurd (none_starts w v n (same_workspace ws w v same stood stands) starts)
  run_shown ws w v n stood stands (unheld, held) (inr (h, is)) = (
    h.is ∙ ap Some is,
    run_comes h w v (ap (workspace_in r) is ∙ stood) (sym h.left ∙ ap (workspace_in after) is ∙ stands) ∙ starts_held w.holder v.holder n unheld held,
  )

  -- what wasn't there begins anew
  made_anew : (ws : List ℕ) (v : Workspace) → workspace_in r ws ≡ None → workspace_in after ws ≡ Some v → LeftOrRuled ws → IsAnew v
  made_anew ws v gone stands (inl same) = absurd (let none : ⊥ = cc (sym gone ∙ sym same ∙ stands) in none)
  made_anew ws v gone stands (inr (h, is)) =
      by_seen (seen_at r h.ws) (standing_at r h.ws ∙ ap (workspace_in r) is ∙ gone) (sym h.left ∙ ap (workspace_in after) is ∙ stands)
    where
      by_seen : (s : Seen) → standing s ≡ None → (rules h.act h.now s).left ≡ Some v → IsAnew v
      by_seen (missing room) e left = workspaces_begin_anew h.act h.now room v left
      by_seen (there w) e left = absurd (let none : ⊥ = cc e in none)

  goes_as_logged : Goes r after row.workspace row.version row.run → ComesAsLogged row r after
  goes_as_logged goes = record {
    version = logged_version row.version refl goes;
    run = logged_run row.run refl goes;
    versions = λ ws w v stood stands. version_logged ws w v stood stands (by_workspace goes ws);
    runs = λ ws w v n stood stands starts. run_shown ws w v n stood stands starts (by_workspace goes ws);
    anew = λ ws v gone stands. made_anew ws v gone stands (by_workspace goes ws);
  }

-- of a request
pub request_as_logged : (r after : Option Organization) (now : ℕ) (asked : Asked) (content_md5 : Option (List ℕ)) (body : List ℕ) → ((ws : List ℕ) → IsLawfulIfThere (workspace_in r ws))
    → after ≡ (request_step r now asked content_md5 body).left → ComesAsLogged (request_row r now asked content_md5 body) r after
request_as_logged r after now asked content_md5 body lawful e =
    subst (ComesAsLogged (request_row r now asked content_md5 body) r) (sym e)
    (goes_as_logged (request_row r now asked content_md5 body) r (request_step r now asked content_md5 body).left lawful
    (task_goes r now asked content_md5 body (checked r now asked content_md5 body) refl))
