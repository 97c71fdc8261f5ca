-- The numbers by which SQL keeps a flag, a role, a status or an action: each means one. Moments and limits fit into an integer of SQL. Texts and numbers that may be absent.
use Rattle.statements.proofs.Outside.{◌≡◌, ◌≤◌, inl, inr, Bool, true, false, not, cond, ℕ, ℤ, pos, int_eq, SFits, w64, arith, refl, sym, ap, ◌∙◌, subst, List, Option, Some, None, option_map, Bor, Text, Int, MAX_MOMENT, MAX_SERIAL, Role, RunStatus, Pending, Planning, Planned, Applying, Applied, PlannedAndFinished, Errored, Discarded, Canceled, RunAction}
use Rattle.sqlite.specs.Values.{or_null, bound_value}
use Rattle.sqlite_typed.specs.Columns.{or_null as typed_null}
use Rattle.basis.specs.declared.roles.Role.TheVariants.{Read, Write, Admin}
use Rattle.basis.specs.declared.runs.RunAction.TheVariants.{ReportPlanned, ReportUnchanged, Fail, Confirm, ReportApplied, Discard, Cancel}
use Rattle.statements.specs.Calls.{LimitsTo}
use Rattle.statements.specs.Rows.{number, role_code, status_code, action_code, role_at, status_at, action_at}

pub moment_fits : (n : ℕ) → n ≤ MAX_MOMENT → SFits w64 (pos n)
moment_fits n most = record { sfits = omega (arith, most) }

pub serial_fits : (n : ℕ) → n ≤ MAX_SERIAL → SFits w64 (pos n)
serial_fits n most = record { sfits = omega (arith, most) }

pub limit_fits : (most : ℕ) (n : ℤ) → LimitsTo most n → SFits w64 n
limit_fits most n (inl h) = subst (SFits w64) (sym h.1) (record { sfits = omega (arith, h.0) })
limit_fits most n (inr h) = subst (SFits w64) (sym h.1) (record { sfits = omega arith })

-- a text that may be absent, as SQL takes it
pub optional_text : (o : Option (Bor (List ℕ))) → or_null (λ s. Text s.now) o ≡ typed_null Text (option_map (λ s. s.now) o)
optional_text None = refl
optional_text (Some s) = refl

pub bound_text : (o : Option (List ℕ)) → bound_value (typed_null Text o) ≡ typed_null Text o
bound_text None = refl
bound_text (Some t) = refl

-- a number that may be absent
pub optional_number : (o : Option ℕ) → or_null Int (option_map pos o) ≡ typed_null number o
optional_number None = refl
optional_number (Some n) = refl

pub bound_number : (o : Option ℕ) → bound_value (typed_null number o) ≡ typed_null number o
bound_number None = refl
bound_number (Some n) = refl

-- an action that may be absent
pub optional_action : (o : Option RunAction) → or_null (λ n. Int (pos n)) (option_map action_code o) ≡ typed_null (λ a. number (action_code a)) o
optional_action None = refl
optional_action (Some a) = refl

pub bound_action : (o : Option RunAction) → bound_value (typed_null (λ a. number (action_code a)) o) ≡ typed_null (λ a. number (action_code a)) o
bound_action None = refl
bound_action (Some a) = refl

pub flag_back : (b : Bool) → not (int_eq (cond b (pos 1) (pos 0)) (pos 0)) ≡ b
flag_back true = refl
flag_back false = refl

pub role_back : (r : Role) → role_at (role_code r) ≡ r
role_back Read = refl
role_back Write = refl
role_back Admin = refl

pub status_back : (s : RunStatus) → status_at (status_code s) ≡ s
status_back Pending = refl
status_back Planning = refl
status_back Planned = refl
status_back Applying = refl
status_back Applied = refl
status_back PlannedAndFinished = refl
status_back Errored = refl
status_back Discarded = refl
status_back Canceled = refl

pub action_back : (a : RunAction) → action_at (action_code a) ≡ a
action_back ReportPlanned = refl
action_back ReportUnchanged = refl
action_back Fail = refl
action_back Confirm = refl
action_back ReportApplied = refl
action_back Discard = refl
action_back Cancel = refl

pub same_role : (a b : Role) → role_code a ≡ role_code b → a ≡ b
same_role a b e = sym (role_back a) ∙ ap role_at e ∙ role_back b

pub same_status : (a b : RunStatus) → status_code a ≡ status_code b → a ≡ b
same_status a b e = sym (status_back a) ∙ ap status_at e ∙ status_back b
