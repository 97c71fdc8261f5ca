-- What stands on the streams, by how the program ends.
use Rattle.std.proofs.Common.{◌≡◌, ◌⊎◌, ◌≢◌, ℕ, Bool, List, Option, Some, None, IfSome, Result, Ok, Err, refl, sym, subst, inl, inr}
use Rattle.command_line.specs.Orders.{Site, at_port, at_socket}
use Rattle.std.proofs.KnownBytes.{Appends-trans}
use Rattle.serve.specs.declared.steps.Admin.{Admin}
use Rattle.serve.specs.declared.steps.Admin.TheVariants.{OrgAdd, OrgLimit, OrgRemove, OrgList, TokenAdd, TokenList, TokenRevoke}
use Rattle.std.specs.Io.KnownBytes.{Appends}
use Rattle.program.specs.declared.exits.Exit.{Exit}
use Rattle.program.specs.declared.exits.Exit.TheVariants.{Done, Exists, Absent, InUse, Faults, Usage, BadFrame, Schema, Down, Unprinted}
use Rattle.program.specs.Exits.{ending_line}
use Rattle.program.specs.Logs.{with_log}
use Rattle.program.specs.declared.environment.Connections as connections
use Rattle.program.specs.declared.environment.Files as files
use Rattle.program.specs.declared.reasons.Cause.{Cause}
use Rattle.program.specs.declared.environment.Opening.{Opening}
use Rattle.machine.specs.declared.keeps.Keep as keep
use Rattle.program.specs.Outcomes.{Stream, Errors, stream, error_stream, Gets, Says, IsSaid, ReplaysFrames, RefusesToOpen, ServesAt, AnswersCommand, AnswersFaults}
use Rattle.program.specs.Replies.{AnswersFrames, printed, bad_frame_text, answer_line}
use Rattle.program.specs.Listening.{AsksToListen, IsGivenFor}
use Rattle.program.specs.Serving.{Listens, ListensAt, listening_line}
use Rattle.program.specs.Streams.{Reported, GetsAll}

-- whatever allows an ending whose line is said, and one whose streams took not all
pub said : (P : Exit → Type 0) (e result : Exit) (old new : Option (List ℕ)) → (Says e (stream old new) → P e) → P Unprinted → IsSaid e result old new → P result
said P e result old new right wrong (inl h) = subst P (sym h.0) (right h.1)
said P e result old new right wrong (inr h) = subst P (sym h) wrong

-- what is said behind an output that is as before is said behind that
pub said_behind : (e result : Exit) (old mid new : Option (List ℕ)) → mid ≡ old → IsSaid e result mid new → IsSaid e result old new
said_behind e result old mid new same is = subst (λ (o : Option (List ℕ)). IsSaid e result o new) same is

pub replayed : (input : Option (List ℕ)) (replies : List (List ℕ)) (bad : Option ℕ) (result : Exit) (output : Stream) (errors : Errors) → IfSome input (λ bytes. AnswersFrames bytes replies bad) → Gets output (printed replies)
    → (bad ≡ None → result ≡ Done) → IfSome bad (λ frame. ((result ≡ BadFrame) × GetsAll errors.old errors.new (bad_frame_text frame)) ⊎ (result ≡ Unprinted)) → ReplaysFrames input result output errors
replayed input replies None result output errors answers out done bad =
    subst (λ (e : Exit). ReplaysFrames input e output errors) (sym (done refl)) (whole input answers)
  where
    whole : (known : Option (List ℕ)) → IfSome known (λ bytes. AnswersFrames bytes replies None) → ReplaysFrames known Done output errors
    whole None h = tt
    whole (Some bytes) h = (h.0, replies, h.1, h.2, out)
replayed input replies (Some frame) result output errors answers out done (inr h) = subst (λ (e : Exit). ReplaysFrames input e output errors) (sym h) tt
replayed input replies (Some frame) result output errors answers out done (inl h) =
    subst (λ (e : Exit). ReplaysFrames input e output errors) (sym h.0) (to_bad input answers)
  where
    to_bad : (known : Option (List ℕ)) → IfSome known (λ bytes. AnswersFrames bytes replies (Some frame)) → ReplaysFrames known BadFrame output errors
    to_bad None a = tt
    to_bad (Some bytes) a = (a.0, replies, a.1, a.2, out, subst (λ (n : ℕ). GetsAll errors.old errors.new (bad_frame_text n)) a.3 h.1)

-- what was told before, and then the last line
pub served : (IsSite : Site → Type 0) (logs : Bool) (exit result : Exit) (old mid new : Option (List ℕ)) → Listens IsSite logs exit old mid → (exit ≡ Down → IsSaid Down result mid new) → (exit ≢ Down → (result ≡ exit) × (new ≡ mid)) → ServesAt IsSite logs result (stream old new)
served IsSite logs Done result old mid new listens down other =
    let same = other (λ e. cc) in
    subst (λ (e : Exit). ServesAt IsSite logs e (stream old new)) (sym same.0)
    (listens.0, listens.1, listens.2, subst (λ (o : Option (List ℕ)). Appends old o (with_log logs (listening_line listens.0) listens.2)) (sym same.1) listens.3)
served IsSite logs Exists result old mid new listens down other = absurd listens
served IsSite logs Absent result old mid new listens down other = absurd listens
served IsSite logs InUse result old mid new listens down other = absurd listens
served IsSite logs Faults result old mid new listens down other = absurd listens
served IsSite logs Usage result old mid new listens down other = absurd listens
served IsSite logs BadFrame result old mid new listens down other = absurd listens
served IsSite logs Schema result old mid new listens down other = absurd listens
served IsSite logs Unprinted result old mid new listens down other = subst (λ (e : Exit). ServesAt IsSite logs e (stream old new)) (sym (other (λ e. cc)).0) tt
served IsSite logs Down result old mid new listens down other = go listens (down refl)
  where
    go : Listens IsSite logs Down old mid → IsSaid Down result mid new → ServesAt IsSite logs result (stream old new)
    go heard (inr h) = subst (λ (e : Exit). ServesAt IsSite logs e (stream old new)) (sym h) tt
    go (inl same) (inl h) = subst (λ (e : Exit). ServesAt IsSite logs e (stream old new)) (sym h.0) (inl (subst (λ (o : Option (List ℕ)). Appends o new (answer_line (ending_line Down))) same h.1))
    go (inr reported) (inl h) = subst (λ (e : Exit). ServesAt IsSite logs e (stream old new)) (sym h.0)
        (inr (reported.0, reported.1, reported.2, Appends-trans old mid new (with_log logs (listening_line reported.0) reported.2) (answer_line (ending_line Down)) reported.3 h.1))

-- if the site is known, it is the one of these
pub listens_at : (bound : Result Site Cause) (site : Site) (logs : Bool) (e : Exit) (old new : Option (List ℕ)) → bound ≡ Ok site → ListensAt site logs e old new → Listens (λ (x : Site). bound ≡ Ok x) logs e old new
listens_at bound site logs Done old new is h = (site, is, h.0, h.1)
listens_at bound site logs Exists old new is h = absurd h
listens_at bound site logs Absent old new is h = absurd h
listens_at bound site logs InUse old new is h = absurd h
listens_at bound site logs Faults old new is h = absurd h
listens_at bound site logs Usage old new is h = absurd h
listens_at bound site logs BadFrame old new is h = absurd h
listens_at bound site logs Schema old new is h = absurd h
listens_at bound site logs Unprinted old new is h = tt
listens_at bound site logs Down old new is h = inr (site, is, h.0, h.1)

-- what is served at one of these sites is served at one of those, if these are among them
pub served_among : {These Those : Site → Type 0} → ((site : Site) → These site → Those site) → (logs : Bool) (e : Exit) (output : Stream) → ServesAt These logs e output → ServesAt Those logs e output
served_among among logs Done output h = (h.0, among h.0 h.1, h.2, h.3)
served_among among logs Exists output h = absurd h
served_among among logs Absent output h = absurd h
served_among among logs InUse output h = absurd h
served_among among logs Faults output h = absurd h
served_among among logs Usage output h = absurd h
served_among among logs BadFrame output h = absurd h
served_among among logs Schema output h = h
served_among among logs Unprinted output h = tt
served_among among logs Down output (inl h) = inl h
served_among among logs Down output (inr h) = inr (h.0, among h.0 h.1, h.2, h.3)

-- the site at which the network listens is one that may be printed
pub site_given : {N R W : Type 0} (n : connections.Ghosts N R W) (asked : Site) (bound : Result Site Cause) (old new : N) → AsksToListen n asked old bound new → (site : Site) → bound ≡ Ok site → IsGivenFor asked site
site_given n (at_port port) (Ok given) old new h site is = (h.0, (let same : given ≡ at_port h.0 = h.1 in let it : site ≡ at_port h.0 = cc in it))
site_given n (at_socket path) (Ok given) old new h site is = (let same : given ≡ at_socket path = h.1 in let it : site ≡ at_socket path = cc in it)
site_given n (at_port port) (Err why) old new h site is = absurd (let no : ⊥ = cc in no)
site_given n (at_socket path) (Err why) old new h site is = absurd (let no : ⊥ = cc in no)

-- `refused down` and `refused schema` answer each command
pub command_refused : (command : Admin) (e result : Exit) (old new : Option (List ℕ)) → (e ≡ Down) ⊎ (e ≡ Schema) → IsSaid e result old new → AnswersCommand command result (stream old new)
command_refused command e result old new (inl h) is = by_down command (subst (λ (x : Exit). IsSaid x result old new) h is)
  where
    by_down : (command : Admin) → IsSaid Down result old new → AnswersCommand command result (stream old new)
    by_down OrgList is = said (λ (x : Exit). AnswersCommand OrgList x (stream old new)) Down result old new (λ h. h) tt is
    by_down (OrgAdd org limit) is = said (λ (x : Exit). AnswersCommand (OrgAdd org limit) x (stream old new)) Down result old new (λ h. h) tt is
    by_down (OrgLimit org limit) is = said (λ (x : Exit). AnswersCommand (OrgLimit org limit) x (stream old new)) Down result old new (λ h. h) tt is
    by_down (OrgRemove org is_forced) is = said (λ (x : Exit). AnswersCommand (OrgRemove org is_forced) x (stream old new)) Down result old new (λ h. h) tt is
    by_down (TokenAdd org name role secret bounds) is = said (λ (x : Exit). AnswersCommand (TokenAdd org name role secret bounds) x (stream old new)) Down result old new (λ h. h) tt is
    by_down (TokenList org) is = said (λ (x : Exit). AnswersCommand (TokenList org) x (stream old new)) Down result old new (λ h. h) tt is
    by_down (TokenRevoke org name) is = said (λ (x : Exit). AnswersCommand (TokenRevoke org name) x (stream old new)) Down result old new (λ h. h) tt is
command_refused command e result old new (inr h) is = by_schema command (subst (λ (x : Exit). IsSaid x result old new) h is)
  where
    by_schema : (command : Admin) → IsSaid Schema result old new → AnswersCommand command result (stream old new)
    by_schema OrgList is = said (λ (x : Exit). AnswersCommand OrgList x (stream old new)) Schema result old new (λ h. h) tt is
    by_schema (OrgAdd org limit) is = said (λ (x : Exit). AnswersCommand (OrgAdd org limit) x (stream old new)) Schema result old new (λ h. h) tt is
    by_schema (OrgLimit org limit) is = said (λ (x : Exit). AnswersCommand (OrgLimit org limit) x (stream old new)) Schema result old new (λ h. h) tt is
    by_schema (OrgRemove org is_forced) is = said (λ (x : Exit). AnswersCommand (OrgRemove org is_forced) x (stream old new)) Schema result old new (λ h. h) tt is
    by_schema (TokenAdd org name role secret bounds) is = said (λ (x : Exit). AnswersCommand (TokenAdd org name role secret bounds) x (stream old new)) Schema result old new (λ h. h) tt is
    by_schema (TokenList org) is = said (λ (x : Exit). AnswersCommand (TokenList org) x (stream old new)) Schema result old new (λ h. h) tt is
    by_schema (TokenRevoke org name) is = said (λ (x : Exit). AnswersCommand (TokenRevoke org name) x (stream old new)) Schema result old new (λ h. h) tt is

-- which of the two a refusal to open is
pub refused_by : {K F : Type 0} (k : keep.Ghosts K) (f : files.Ghosts F K) (path : List ℕ) (opening : Opening) (was is : F) (e : Exit) (old new : Option (List ℕ)) (before after : Reported)
    → RefusesToOpen k f path opening was is e (stream old new) (error_stream before after) → IsSaid Down e old new ⊎ IsSaid Schema e old new
refused_by k f path opening was is e old new before after (stays, left, inl h) = inl h.2.0
refused_by k f path opening was is e old new before after (stays, left, inr (inl h)) = inl h.2
refused_by k f path opening was is e old new before after (stays, left, inr (inr h)) = inr h.2

pub refused_command : (command : Admin) (result : Exit) (old new : Option (List ℕ)) → IsSaid Down result old new ⊎ IsSaid Schema result old new → AnswersCommand command result (stream old new)
refused_command command result old new (inl h) = command_refused command Down result old new (inl refl) h
refused_command command result old new (inr h) = command_refused command Schema result old new (inr refl) h

pub refused_faults : (result : Exit) (old new : Option (List ℕ)) → IsSaid Down result old new ⊎ IsSaid Schema result old new → AnswersFaults result (stream old new)
refused_faults result old new (inl h) = said (λ (x : Exit). AnswersFaults x (stream old new)) Down result old new (λ h. h) tt h
refused_faults result old new (inr h) = said (λ (x : Exit). AnswersFaults x (stream old new)) Schema result old new (λ h. h) tt h

pub refused_serving : (IsSite : Site → Type 0) (logs : Bool) (result : Exit) (old new : Option (List ℕ)) → IsSaid Down result old new ⊎ IsSaid Schema result old new → ServesAt IsSite logs result (stream old new)
refused_serving IsSite logs result old new (inl h) = said (λ (x : Exit). ServesAt IsSite logs x (stream old new)) Down result old new (λ h. inl h) tt h
refused_serving IsSite logs result old new (inr h) = said (λ (x : Exit). ServesAt IsSite logs x (stream old new)) Schema result old new (λ h. h) tt h
