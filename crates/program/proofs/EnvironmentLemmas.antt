-- What lies at paths, from an open to a close.
use Rattle.std.proofs.Common.{◌≡◌, ◌⊎◌, ℕ, true, false, List, [], Option, Result, Ok, IfOk, sym, subst}
use Rattle.basis.specs.declared.memory.Down.{Down}
use Rattle.machine.specs.declared.keeps.Keep as keep
use Rattle.machine.specs.declared.records.Organization.{Organization}
use Rattle.wire.specs.declared.devices.Inlet as inlet
use Rattle.wire.specs.declared.devices.Outlet as outlet
use Rattle.command_line.specs.Orders.{Site}
use Rattle.program.specs.declared.exits.Exit.{Exit}
use Rattle.program.specs.declared.environment.Clock as clock
use Rattle.program.specs.declared.environment.Connections as connections
use Rattle.program.specs.declared.environment.Files as files
use Rattle.program.specs.declared.environment.Opening.{Opening}
use Rattle.program.specs.declared.environment.Opening.TheVariants.{Read, Existing, Created}
use Rattle.program.specs.declared.reasons.Cause.{Cause}
use Rattle.program.specs.declared.totals.Findings.{Findings}
use Rattle.program.specs.declared.serving.Terms.{Terms}
use Rattle.program.specs.Inner.Outcomes.{ChecksFirst, ServesOpened}
use Rattle.serve.specs.declared.steps.Admin.{Admin}
use Rattle.machine.specs.StoreCalls.{Unchanged, Lasts}
use Rattle.program.specs.Outcomes.{stream, error_stream, environment, ReportsFound, opening_of, HasFailed, IsOperated, Operates, ReportsCause, Opens, OpensSound, Closes, ServesFrom, ServesChecked, ChecksFile, SaysServed, ReportsUnsound}
use Rattle.program.specs.Serving.{State, Serves, ServesBound, state, AnswersBound}
use Rattle.program.specs.Streams.{Reported}

-- records that are the same at each organization
pub same_records : (a b : List ℕ → Option Organization) → ((org : List ℕ) → a org ≡ b org) → a ≡ b
same_records a b same = λ i org. same org i

module _ {K F : Type 0} (k : keep.Ghosts K) (f : files.Ghosts F K) where
  none_found : (opened store : K) (found : Result Findings Down) (findings : Findings) → found ≡ Ok findings → findings.faults ≡ []
      → IfOk found (λ findings. findings.faults ≡ [] → k.clean store → f.is_ours opened → k.sound opened × k.keyed opened) → k.clean store → f.is_ours opened → k.sound opened × k.keyed opened
  none_found opened store found findings is none sound = subst (λ (r : Result Findings Down). IfOk r (λ findings. findings.faults ≡ [] → k.clean store → f.is_ours opened → k.sound opened × k.keyed opened)) is sound none

  -- a store is opened at a path, and a check finds no fault in its tables
  pub opens_sound : (path : List ℕ) (opening : Opening) (why : Cause) (old mid : F) (opened store : K) (before noted known : Reported)
      → Opens k f path opening old mid opened (error_stream before noted) → ChecksFirst k f why opened true store (error_stream noted known)
      → OpensSound k f path opening old mid store (error_stream before known)
  opens_sound path opening why old mid opened store before noted known opens unchanged =
      let sound : k.clean store → f.is_ours opened → k.sound opened × k.keyed opened = none_found opened store unchanged.result unchanged.says.0.0 unchanged.says.0.1 unchanged.says.0.2 unchanged.sound in
      record {
        opened = opened;
        opens = subst (λ (e : Reported). Opens k f path opening old mid opened (error_stream before e)) (sym unchanged.says.1) opens;
        unchanged = unchanged.unchanged;
        findings = unchanged.says.0.0;
        finds = subst (λ (r : Result Findings Down). f.finds opened r store) unchanged.says.0.1 unchanged.finds;
        none = unchanged.says.0.2;
        sound_ours = λ clean ours. let is = sound clean ours in (is.0, unchanged.unchanged.kept clean is.0);
        keyed_ours = λ clean ours. let is = sound clean ours in (is.1, unchanged.unchanged.keys clean is.0 is.1);
      }

  -- a store is opened at a path, its tables are looked over, what is found is told, and it is closed there
  pub checks_at : (path : List ℕ) (old mid new : F) (opened store : K) (found : Result Findings Down) (e : Exit) (out heard said : Option (List ℕ)) (before noted reported after : Reported)
      → Opens k f path Read old mid opened (error_stream before noted) → heard ≡ out
      → Unchanged k.rows k.clean k.sound k.keyed k.shielded opened store → f.finds opened found store
      → IfOk found (λ findings. findings.faults ≡ [] → k.clean store → f.is_ours opened → k.sound opened × k.keyed opened)
      → ReportsFound found e (stream heard said) (error_stream noted reported) → Closes k f path mid new store (error_stream reported after)
      → ChecksFile k f path Read (λ found reported. ReportsFound found e (stream out said) reported) old new (error_stream before after)
  checks_at path old mid new opened store found e out heard said before noted reported after opens same unchanged finds sound reports closes = record {
    before = opened;
    after = store;
    worked = mid;
    noted = noted;
    reported = reported;
    opens = opens;
    unchanged = record {
      unchanged = unchanged;
      result = found;
      finds = finds;
      sound = sound;
      says = subst (λ (o : Option (List ℕ)). ReportsFound found e (stream o said) (error_stream noted reported)) same reports;
    };
    closes = closes;
    others = λ other store differs held. closes.others other store differs (opens.others other store differs held);
  }

  -- a store is opened at a path, a check finds faults in its tables or is refused, and it is closed there
  pub checks_file : (path : List ℕ) (opening : Opening) (why : Cause) (old mid new : F) (opened store : K) (before noted known after : Reported)
      → Opens k f path opening old mid opened (error_stream before noted) → ChecksFirst k f why opened false store (error_stream noted known)
      → Closes k f path mid new store (error_stream known after)
      → ChecksFile k f path opening (ReportsUnsound why) old new (error_stream before after)
  checks_file path opening why old mid new opened store before noted known after opens unchanged closes = record {
    before = opened;
    after = store;
    worked = mid;
    noted = noted;
    reported = known;
    opens = opens;
    unchanged = record { unchanged = unchanged.unchanged; result = unchanged.result; finds = unchanged.finds; sound = unchanged.sound; says = unchanged.says };
    closes = closes;
    others = λ other store differs held. closes.others other store differs (opens.others other store differs held);
  }

module _ {K F : Type 0} (k : keep.Ghosts K) (f : files.Ghosts F K) where
  -- a store is opened at a path, a command is carried out on it, and it is closed there
  pub operates : (path : List ℕ) (command : Admin) (old mid new : F) (before after : K) (e : Exit) (out heard said : Option (List ℕ)) (first noted reported last : Reported)
      → Opens k f path (opening_of command) old mid before (error_stream first noted) → heard ≡ out
      → Lasts k.clean k.sound k.keyed k.shielded before after
      → (k.clean after → k.sound before → IsOperated (HasFailed k f after) command (k.rows before) (k.rows after) e (stream heard said) (error_stream noted reported))
      → (reported ≡ noted) ⊎ ((why : Cause) × HasFailed k f after why × ReportsCause why (error_stream noted reported))
      → Closes k f path mid new after (error_stream reported last)
      → Operates k f path command old new e (stream out said) (error_stream first last)
  operates path command old mid new before after e out heard said first noted reported last opens same lasts model why closes = record {
    before = before;
    after = after;
    worked = mid;
    noted = noted;
    reported = reported;
    opens = opens;
    lasts = lasts;
    model = λ clean sound. subst (λ (o : Option (List ℕ)). IsOperated (HasFailed k f after) command (k.rows before) (k.rows after) e (stream o said) (error_stream noted reported)) same (model clean sound);
    why = why;
    closes = closes;
    others = λ other store differs held. closes.others other store differs (opens.others other store differs held);
  }

module _ {K F N C R W : Type 0} (k : keep.Ghosts K) (f : files.Ghosts F K) (n : connections.Ghosts N R W) (c : clock.Ghosts C) (i : inlet.Ghosts R) (o : outlet.Ghosts W) where
  -- connections are answered from an opened store, and it is closed
  pub serves_opened : (path : List ℕ) (bound : Result Site Cause) (terms : Terms) (count : ℕ) (old new : F) (network network' : N) (time time' : C) (opened from to closed : K) (served e : Exit) (out reported last : Option (List ℕ)) (before lines after : Reported)
      → from ≡ opened → closed ≡ to
      → Lasts k.clean k.sound k.keyed k.shielded from to
      → (k.clean to → k.sound from
      → Serves (λ es. ServesBound k f n c i o bound terms count es (state network time from before out) (state network' time' to lines reported) served) terms.door count (k.rows from) (k.rows to))
      → AnswersBound k f n c i o bound terms count (state network time from before out) (state network' time' to lines reported) served
      → Closes k f path old new closed (error_stream lines after) → SaysServed served e reported last
      → ServesOpened k f n c i o path bound terms count opened (environment old network time) (environment new network' time') e (stream out last) (error_stream before after)
  serves_opened path bound terms count old new network network' time time' opened from to closed served e out reported last before lines after begins ends lasts serves answers closes says =
      subst (λ (s : K). ServesOpened k f n c i o path bound terms count s (environment old network time) (environment new network' time') e (stream out last) (error_stream before after)) begins
      (record {
        after = to;
        lasts = lasts;
        served = served;
        reported = reported;
        lines = lines;
        serves = serves;
        answers = answers;
        says = says;
        closes = subst (λ (s : K). Closes k f path old new s (error_stream lines after)) ends closes;
      })

  -- what is served over one output is served over another that holds the same
  serves_over : (bound : Result Site Cause) (terms : Terms) (count : ℕ) (network : N) (time : C) (store : K) (errors : Reported) (heard out : Option (List ℕ)) (new : State N C K) (served : Exit) (old' new' : List ℕ → Option Organization) → heard ≡ out
      → Serves (λ es. ServesBound k f n c i o bound terms count es (state network time store errors heard) new served) terms.door count old' new'
      → Serves (λ es. ServesBound k f n c i o bound terms count es (state network time store errors out) new served) terms.door count old' new'
  serves_over bound terms count network time store errors heard out new served old' new' same serves =
      subst (λ (o' : Option (List ℕ)). Serves (λ es. ServesBound k f n c i o bound terms count es (state network time store errors o') new served) terms.door count old' new') same serves

  -- a store is opened at a path, and connections are answered from it
  pub serves_from : (path : List ℕ) (bound : Result Site Cause) (terms : Terms) (count : ℕ) (old mid new : F) (network network' : N) (time time' : C) (opened : K) (e : Exit) (out heard last : Option (List ℕ)) (before noted after : Reported)
      → Opens k f path Created old mid opened (error_stream before noted) → heard ≡ out
      → ServesOpened k f n c i o path bound terms count opened (environment mid network time) (environment new network' time') e (stream heard last) (error_stream noted after)
      → ServesFrom k f n c i o path bound terms count (environment old network time) (environment new network' time') e (stream out last) (error_stream before after)
  serves_from path bound terms count old mid new network network' time time' opened e out heard last before noted after opens same from = record {
    before = opened;
    after = from.after;
    worked = mid;
    noted = noted;
    opens = opens;
    lasts = from.lasts;
    served = from.served;
    reported = from.reported;
    lines = from.lines;
    serves = λ clean sound. serves_over bound terms count network time opened noted heard out (state network' time' from.after from.lines from.reported) from.served (k.rows opened) (k.rows from.after) same (from.serves clean sound);
    answers = subst (λ (o' : Option (List ℕ)). AnswersBound k f n c i o bound terms count (state network time opened noted o') (state network' time' from.after from.lines from.reported) from.served) same from.answers;
    says = from.says;
    closes = from.closes;
    others = λ other store differs held. from.closes.others other store differs (opens.others other store differs held);
  }

  -- a store is opened at a path, a check finds no fault in its tables, and connections are answered from it
  pub serves_checked : (path : List ℕ) (bound : Result Site Cause) (terms : Terms) (count : ℕ) (old mid new : F) (network network' : N) (time time' : C) (store : K) (e : Exit) (out heard last : Option (List ℕ)) (before known after : Reported)
      → OpensSound k f path Existing old mid store (error_stream before known) → heard ≡ out
      → ServesOpened k f n c i o path bound terms count store (environment mid network time) (environment new network' time') e (stream heard last) (error_stream known after)
      → ServesChecked k f n c i o path bound terms count (environment old network time) (environment new network' time') e (stream out last) (error_stream before after)
  serves_checked path bound terms count old mid new network network' time time' store e out heard last before known after opens same from = record {
    before = store;
    after = from.after;
    worked = mid;
    noted = known;
    opens = opens;
    lasts = from.lasts;
    served = from.served;
    reported = from.reported;
    lines = from.lines;
    serves = λ clean sound. serves_over bound terms count network time store known heard out (state network' time' from.after from.lines from.reported) from.served (k.rows store) (k.rows from.after) same (from.serves clean sound);
    sound_ours = λ clean ours. let is = opens.sound_ours (from.lasts.so_far clean) ours in (is.0, from.lasts.kept clean is.1);
    keyed_ours = λ clean ours.
        let before = from.lasts.so_far clean in
        let is = opens.keyed_ours before ours in
        (is.0, from.lasts.keys clean (opens.sound_ours before ours).1 is.1);
    serves_ours = λ clean ours.
        let served = serves_over bound terms count network time store known heard out (state network' time' from.after from.lines from.reported) from.served (k.rows store) (k.rows from.after) same (from.serves clean (opens.sound_ours (from.lasts.so_far clean) ours).1) in
        subst (λ (rows : List ℕ → Option Organization). Serves (λ es. ServesBound k f n c i o bound terms count es (state network time store known out) (state network' time' from.after from.lines from.reported) from.served) terms.door count rows (k.rows from.after))
        (same_records (k.rows store) (k.rows opens.opened) (opens.unchanged.same (from.lasts.so_far clean))) served;
    answers = subst (λ (o' : Option (List ℕ)). AnswersBound k f n c i o bound terms count (state network time store known o') (state network' time' from.after from.lines from.reported) from.served) same from.answers;
    says = from.says;
    closes = from.closes;
    others = λ other kept differs held. from.closes.others other kept differs (opens.opens.others other kept differs held);
  }
