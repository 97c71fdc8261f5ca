-- Operator's commands one after another.
use Rattle.std.proofs.Common.{◌≡◌, ◌⊎◌, inl, inr, ℕ, ◌+◌, ◌<◌, List, [], ◌∷◌, ◌++◌, Bool, true, false, cond, nat_eq, Bor, Option, Some, None, IfSome, ap, sym, subst, ◌∙◌, append-nil, drop, get_or, length, refl, arith, eqb-true}
use Rattle.std.specs.Prelude.{option_copied}
use Rattle.std.proofs.lemmas.List.{drop_more}
use Rattle.machine.specs.declared.keeps.Keep as keep
use Rattle.serve.specs.declared.steps.Admin.{Admin}
use Rattle.serve.specs.declared.steps.Admin.TheVariants.{OrgAdd, OrgLimit, OrgRemove, OrgList, TokenAdd, TokenList, TokenRevoke}
use Rattle.program.specs.Batches.{Ends, AreLines, first_command, line_and_rest}
use Rattle.program.specs.Inner.Batches.{IsUnread}
use Rattle.program.specs.declared.batches.BatchLine.{BatchLine}
use Rattle.program.specs.declared.batches.LineUnread.{LineUnread}
use Rattle.program.specs.declared.batches.LineUnread.TheVariants.{Fault}
use Rattle.program.specs.declared.line_faults.LineFault.{LineFault}
use Rattle.program.specs.Outcomes.{Stream, Errors, stream, error_stream, IsSaid, Opens, Closes, RefusesToOpen, opening_of, CarriesEach, CarriesLines, CarriesFrom, CarriesAll, AnswersCommand, AnswersLine, AnswersList, AnswersTokens, EndsBatch}
use Rattle.program.specs.Streams.{Reported}
use Rattle.program.specs.declared.exits.Exit.{Exit}
use Rattle.program.specs.declared.exits.Exit.TheVariants as exit
use Rattle.program.specs.declared.environment.Files as files
use Rattle.program.proofs.OutcomeLemmas.{said}

-- the end of the rest is the end of all
pub lines_end : (bytes : List ℕ) (lines : List BatchLine) (rest : List ℕ) (fault : Option LineFault)
    → ((more : List BatchLine) (last : Option LineFault) → AreLines rest more last → AreLines bytes (lines ++ more) last)
    → Ends rest fault → AreLines bytes lines fault
lines_end bytes lines rest fault h e =
    let P : List BatchLine → Type 0 = λ ls. AreLines bytes ls fault in
    subst P (append-nil lines) (h [] fault e)

-- bytes without a first line are none
pub no_line : (bytes : List ℕ) → line_and_rest bytes ≡ None → bytes ≡ []
no_line [] none = refl
no_line (b ∷ bytes) none = by_test (nat_eq (length (b ∷ bytes)) 0) _ refl none
  where
    by_test : (t : Bool) (found : List ℕ × List ℕ) → nat_eq (length (b ∷ bytes)) 0 ≡ t → cond t None (Some found) ≡ None → b ∷ bytes ≡ []
    by_test true found is e = absurd (omega (arith, eqb-true (length (b ∷ bytes)) 0 is))
    by_test false found is e = cc

-- the line that follows is neither skipped nor a command
pub fault_ends : (bytes : List ℕ) (lines : List BatchLine) (rest line left : List ℕ) (unread : LineUnread) (fault : LineFault)
    → ((more : List BatchLine) (last : Option LineFault) → AreLines rest more last → AreLines bytes (lines ++ more) last)
    → line_and_rest rest ≡ Some (line, left) → IsUnread line unread → unread ≡ Fault fault → AreLines bytes lines (Some fault)
fault_ends bytes lines rest line left unread fault h parts why is =
    let known : IsUnread line (Fault fault) = subst (λ (u : LineUnread). IsUnread line u) is why in
    lines_end bytes lines rest (Some fault) h (line, left, parts, known.0, known.1)

-- how a command ends a batch may end
line_ends : (e : Exit) (output : Stream) → AnswersLine e output → EndsBatch e
line_ends exit.Done output h = tt
line_ends exit.Exists output h = tt
line_ends exit.Absent output h = tt
line_ends exit.InUse output h = tt
line_ends exit.Faults output h = h
line_ends exit.Usage output h = h
line_ends exit.BadFrame output h = h
line_ends exit.Schema output h = tt
line_ends exit.Down output h = tt
line_ends exit.Unprinted output h = tt

list_ends : (e : Exit) (output : Stream) → AnswersList e output → EndsBatch e
list_ends exit.Done output h = tt
list_ends exit.Exists output h = absurd h
list_ends exit.Absent output h = absurd h
list_ends exit.InUse output h = absurd h
list_ends exit.Faults output h = h
list_ends exit.Usage output h = h
list_ends exit.BadFrame output h = h
list_ends exit.Schema output h = tt
list_ends exit.Down output h = tt
list_ends exit.Unprinted output h = tt

tokens_end : (e : Exit) (output : Stream) → AnswersTokens e output → EndsBatch e
tokens_end exit.Done output h = tt
tokens_end exit.Exists output h = absurd h
tokens_end exit.Absent output h = tt
tokens_end exit.InUse output h = absurd h
tokens_end exit.Faults output h = h
tokens_end exit.Usage output h = h
tokens_end exit.BadFrame output h = h
tokens_end exit.Schema output h = tt
tokens_end exit.Down output h = tt
tokens_end exit.Unprinted output h = tt

pub command_ends : (command : Admin) (e : Exit) (output : Stream) → AnswersCommand command e output → EndsBatch e
command_ends OrgList e output h = list_ends e output h
command_ends (OrgAdd org limit) e output h = line_ends e output h
command_ends (OrgLimit org limit) e output h = line_ends e output h
command_ends (OrgRemove org is_forced) e output h = line_ends e output h
command_ends (TokenAdd org name role secret bounds) e output h = line_ends e output h
command_ends (TokenList org) e output h = tokens_end e output h
command_ends (TokenRevoke org name) e output h = line_ends e output h

module _ {K F : Type 0} (k : keep.Ghosts K) (f : files.Ghosts F K) where
  -- the commands that are left are the one at this place and those behind it
  pub carries_left : (commands : List BatchLine) (i : ℕ) (command : BatchLine) (command_index : ℕ) (old new : K) (e : Exit) (out out' : Option (List ℕ)) (err err' : Reported) → i < length commands → command ≡ get_or commands i command
      → CarriesEach k f (command ∷ drop (i + 1) commands) command_index old new e out out' err err' → CarriesEach k f (drop i commands) command_index old new e out out' err err'
  carries_left commands i command command_index old new e out out' err err' within is carries =
      subst (λ (cs : List BatchLine). CarriesEach k f cs command_index old new e out out' err err') (sym (drop_more commands i command within ∙ ap (λ (c : BatchLine). c ∷ drop (i + 1) commands) (sym is))) carries

  -- a store is opened at a path, commands are carried out on it, and it is closed
  pub carries_lines : (path : List ℕ) (first : Admin) (commands : List BatchLine) (old mid new : F) (store start end closed : K) (e : Exit) (out heard last : Option (List ℕ)) (before noted reported after : Reported)
      → Opens k f path (opening_of first) old mid store (error_stream before noted) → heard ≡ out → start ≡ store → closed ≡ end
      → CarriesEach k f commands 1 start end e heard last noted reported → Closes k f path mid new closed (error_stream reported after)
      → CarriesLines k f path first commands old new e (stream out last) (error_stream before after)
  carries_lines path first commands old mid new store start end closed e out heard last before noted reported after opens same begins ends carries closes = record {
    before = store;
    after = end;
    worked = mid;
    noted = noted;
    reported = reported;
    opens = opens;
    carries = subst (λ (o : Option (List ℕ)). CarriesEach k f commands 1 store end e o last noted reported) same (subst (λ (s : K). CarriesEach k f commands 1 s end e heard last noted reported) begins carries);
    closes = subst (λ (s : K). Closes k f path mid new s (error_stream reported after)) ends closes;
    others = λ other kept differs held. closes.others other kept differs (opens.others other kept differs held);
  }

  -- the first command that was found
  pub carries_some : (path : List ℕ) (lines : List BatchLine) (found : Option (Bor Admin)) (first : Bor Admin) (old new : F) (e : Exit) (output : Stream) (errors : Errors) → option_copied found ≡ first_command lines → found ≡ Some first
      → CarriesLines k f path first.now lines old new e output errors ⊎ RefusesToOpen k f path (opening_of first.now) old new e output errors
      → CarriesAll k f path lines old new e output errors
  carries_some path lines found first old new e output errors reported is h = subst (λ (o : Option Admin). CarriesFrom k f o path lines old new e output errors) (sym (ap option_copied is) ∙ reported) h

  -- no command
  pub carries_none : (path : List ℕ) (lines : List BatchLine) (found : Option (Bor Admin)) (old : F) (output : Option (List ℕ)) (errors : Reported) → option_copied found ≡ first_command lines → found ≡ None
      → CarriesAll k f path lines old old exit.Done (stream output output) (error_stream errors errors)
  carries_none path lines found old output errors reported is =
      subst (λ (o : Option Admin). CarriesFrom k f o path lines old old exit.Done (stream output output) (error_stream errors errors)) (sym (ap option_copied is) ∙ reported) (refl, refl, refl, refl)

-- what isn't opened ends so
pub refusal_ends : (result : Exit) (old new : Option (List ℕ)) → IsSaid exit.Down result old new ⊎ IsSaid exit.Schema result old new → EndsBatch result
refusal_ends result old new (inl h) = said EndsBatch exit.Down result old new (λ h. tt) tt h
refusal_ends result old new (inr h) = said EndsBatch exit.Schema result old new (λ h. tt) tt h

-- what is at fault in the line that follows is known
pub batch_known : (input : Option (List ℕ)) (lines : List BatchLine) (fault reported : Option LineFault) → fault ≡ reported → IfSome input (λ bytes. AreLines bytes lines fault) → IfSome input (λ bytes. AreLines bytes lines reported)
batch_known input lines fault reported is h = subst (λ (f : Option LineFault). IfSome input (λ bytes. AreLines bytes lines f)) is h
