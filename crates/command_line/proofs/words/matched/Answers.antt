use Rattle.std.proofs.Common.{◌≡◌, ◌∙◌, ap, refl, subst, true}
use Rattle.std.proofs.lemmas.Result.{IfOk-weaker}
use Rattle.clap.proofs.OnLiterals.{clap_on_literals}
use Rattle.clap.specs.Words.{App, FailsBy, fault_of, is_simple, is_simple_and_free, subcommand_of}
use Rattle.command_line.specs.Words.{custody, words_bytes}
use Rattle.command_line.proofs.words.matched.Goals as goal

is_free : is_simple_and_free custody ≡ true
unfolding clap_on_literals
is_free = refl

is_plain : is_simple custody ≡ true
unfolding clap_on_literals
is_plain = refl

pub returns-clause-kinds : goal.returns-clause-kinds
returns-clause-kinds c =
    let parse = c.try_get_matches_from in
    subst (λ (a : App). FailsBy (fault_of a (words_bytes c.args.words.now)) parse.result) c.in_ok-command.ensures (parse.ensures.kinds (ap is_simple_and_free c.in_ok-command.ensures ∙ is_free))

pub returns-clause-found : goal.returns-clause-found
returns-clause-found c =
    let parse = c.try_get_matches_from in
    IfOk-weaker parse.result _ _ (λ m has. (has (ap is_simple c.in_ok-command.ensures ∙ is_plain)).1 ∙ ap (λ (a : App). subcommand_of a (words_bytes c.args.words.now)) c.in_ok-command.ensures) parse.ensures.matches
