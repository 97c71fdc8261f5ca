use Rattle.std.proofs.Common.{◌≡◌, ◌∙◌, List, Option, Some, None, ap, ap₂, refl, sym, subst, codes, option_map, IfOk}
use Rattle.std.specs.Prelude.{Box}
use Rattle.std.specs.Box.{box_value}
use Rattle.clap.specs.Words.{Row, Text, found_of, rows_of, subcommand_rows_of}
use Rattle.clap.specs.Simple.{subcommand_rows}
use Rattle.clap.specs.declared.parser.matches.Found.{Found}
use Rattle.clap.specs.declared.parser.matches.SubCommand.{SubCommand}
use Rattle.clap.specs.declared.parser.matches.ArgMatches.TheViews.{out-ArgMatches, out-SubCommand}
use Rattle.clap.proofs.WalkLemmas.{first_value-rows}
use Rattle.std.proofs.lemmas.Result.{IfErr-weaker}
use Rattle.std.proofs.lemmas.Option.{same_Some}
use Rattle.command_line.specs.Arguments.{first_misfit}
use Rattle.command_line.specs.Inner.Misfits.{IsUnread, IsUnreadOf}
use Rattle.command_line.specs.declared.misfits.Unread.{Unread}
use Rattle.command_line.specs.declared.misfits.Unread.TheVariants.{Value, Down}
use Rattle.command_line.specs.Orders.{Given, asked_with, given_found, given_in, given_of, said_by}
use Rattle.command_line.specs.Words.{asked_by_command, misfit_by_command}
use Rattle.command_line.proofs.words.ordered.Goals as goal
use Rattle.command_line.proofs.words.ordered.Goals.{After-read_order}

names_agree : {Z : Type 0} (x : Option (Box SubCommand Z)) → option_map (λ p. p.0) (subcommand_rows x) ≡ option_map (λ b. (out-SubCommand (box_value b)).name.now) x
names_agree None = refl
names_agree (Some b) = refl

found_is : {X : Type 0} (F : Option (Text × List Row) → X) (G : Text → Given → X) → ((p : Text × List Row) → F (Some p) ≡ G p.0 (given_in p.1)) → (o : Option (Text × List Row)) (name : Text) (rows : List Row) → option_map (λ p. p.0) o ≡ Some name → option_map (λ p. p.1) o ≡ Some rows → F o ≡ G name (given_in rows)
found_is F G same None name rows n r = cc
found_is F G same (Some p) name rows n r = same p ∙ ap₂ (λ a b. G a (given_in b)) (same_Some p.0 name n) (same_Some p.1 rows r)

same_unread : (found : Option (Text × List Row)) (command : Text) (given : Given) (unread : Unread) → asked_by_command found ≡ asked_with command given → misfit_by_command found ≡ first_misfit command given → IsUnread command given unread → IsUnreadOf found unread
same_unread found command given (Value argument) asked misfit is = (asked ∙ is.0, misfit ∙ is.1)
same_unread found command given Down asked misfit is = tt

values_agree : (f : Found) → given_found f ≡ given_in (rows_of f)
values_agree f = rw (first_value-rows f (codes "db"), first_value-rows f (codes "to"), first_value-rows f (codes "copied-to"), first_value-rows f (codes "org"), first_value-rows f (codes "limit"), first_value-rows f (codes "name"), first_value-rows f (codes "role"), first_value-rows f (codes "until"), first_value-rows f (codes "prefix"), first_value-rows f (codes "port"), first_value-rows f (codes "socket"), first_value-rows f (codes "count"), first_value-rows f (codes "idle"), first_value-rows f (codes "most"), first_value-rows f (codes "unlimited"), first_value-rows f (codes "log"), first_value-rows f (codes "check"), first_value-rows f (codes "operator"), first_value-rows f (codes "force")) refl

-- what is asked for, and the first misfit, of the command and the values that `clap` finds
of_found : {X : Type 0} (F : Option (Text × List Row) → X) (G : Text → Given → X) → ((p : Text × List Row) → F (Some p) ≡ G p.0 (given_in p.1)) → (c : After-read_order) → F (subcommand_rows_of c.args.matches.now) ≡ G c.in-Some.name.now (given_of c.of.result)
of_found F G same c =
    let found = subcommand_rows_of c.args.matches.now in
    let named : option_map (λ p. p.0) found ≡ Some c.in-Some.name.now = names_agree (out-ArgMatches c.args.matches.now).subcommand ∙ sym c.in-Some.ensures.name in
    let rows : option_map (λ p. p.1) found ≡ Some (rows_of (found_of c.in-Some.inner.now)) = sym c.in-Some.ensures.rows in
    let given : given_of c.of.result ≡ given_in (rows_of (found_of c.in-Some.inner.now)) = c.of.ensures ∙ values_agree (found_of c.in-Some.inner.now) in
    found_is F G same found c.in-Some.name.now _ named rows ∙ ap (G c.in-Some.name.now) (sym given)

pub returns-in-Some-clause-ok : goal.returns-in-Some-clause-ok
returns-in-Some-clause-ok c =
    let is = of_found asked_by_command asked_with (λ p. refl) c in
    subst (λ (o : Option _). IfOk c.read_order.result (λ order. o ≡ Some (said_by order))) (sym is) c.read_order.ensures.ok

pub returns-in-Some-clause-why : goal.returns-in-Some-clause-why
returns-in-Some-clause-why c =
    let asked = of_found asked_by_command asked_with (λ p. refl) c in
    let misfit = of_found misfit_by_command first_misfit (λ p. refl) c in
    IfErr-weaker c.read_order.result _ _ (λ unread. same_unread (subcommand_rows_of c.args.matches.now) c.in-Some.name.now (given_of c.of.result) unread asked misfit) c.read_order.ensures.why
