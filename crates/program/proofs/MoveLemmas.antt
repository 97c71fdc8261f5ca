-- Organizations that are copied: what becomes of their records, and of runs over them.
use Rattle.std.proofs.Common.{◌≡◌, ◌⊎◌, ◌∙◌, ◌++◌, Bool, true, false, List, [], ◌∷◌, Option, Some, None, refl, sym, ap, subst, inl, inr}
use Rattle.machine.specs.Effects.{Effect}
use Rattle.machine.specs.declared.keeps.AdminAnswer.{AdminAnswer}
use Rattle.machine.specs.declared.records.Organization.{Organization}
use Rattle.serve.specs.Asks.{Ask, Owner, organization}
use Rattle.serve.specs.Steps.{Said, own_said, own_record}
use Rattle.serve.specs.Service.{AreTexts, is_own, with_own, own_asks, replies_at}
use Rattle.serve.proofs.RunLemmas.{own_record-append, own_said-append, AreTexts-append}
use Rattle.program.specs.Moves.{org_copied, copied_into, DoneCopiesAreEqual, CopiesToNoneAreTheSame, StoppedCopiesGoOn, CopiedOrganizationsGoOn}

-- what is copied twice is as copied once
pub copied_again : (from there : Option Organization) → copied_into from (copied_into from there) ≡ copied_into from there
copied_again None None = refl
copied_again (Some o) None = refl
copied_again from (Some p) = refl

-- where there is nothing to copy the record stays
pub copied_none : (there : Option Organization) → copied_into None there ≡ there
copied_none None = refl
copied_none (Some p) = refl

-- the record that the rule leaves
pub copied_left : (from there : Option Organization) → (org_copied from there).left ≡ copied_into from there
copied_left None None = refl
copied_left None (Some p) = refl
copied_left (Some o) None = refl
copied_left (Some o) (Some p) = refl

pub done : DoneCopiesAreEqual
done None None new is = absurd (let said = ap (λ (e : Effect AdminAnswer (Option Organization)). e.answer) is in let no : ⊥ = cc in no)
done None (Some p) new is = absurd (let said = ap (λ (e : Effect AdminAnswer (Option Organization)). e.answer) is in let no : ⊥ = cc in no)
done (Some o) None new is = (ap (λ (e : Effect AdminAnswer (Option Organization)). e.left) is, refl)
done (Some o) (Some p) new is = absurd (let said = ap (λ (e : Effect AdminAnswer (Option Organization)). e.answer) is in let no : ⊥ = cc in no)

pub to_none : CopiesToNoneAreTheSame
to_none from old new all none org = all org ∙ ap (copied_into (from org)) (none org)

pub stopped : StoppedCopiesGoOn
stopped from old mid new some all org = all org ∙ by_cases (some org)
  where
    by_cases : (mid org ≡ old org) ⊎ (mid org ≡ copied_into (from org) (old org)) → copied_into (from org) (mid org) ≡ copied_into (from org) (old org)
    by_cases (inl same) = ap (copied_into (from org)) same
    by_cases (inr copied) = ap (copied_into (from org)) copied ∙ copied_again (from org) (old org)

-- ---- a run behind another

own_asks-append : (owner : Owner) (first second : List Ask) → own_asks owner (first ++ second) ≡ own_asks owner first ++ own_asks owner second
own_asks-append owner [] second = refl
own_asks-append owner (a ∷ first) second = ap (with_own (is_own owner a) a) (own_asks-append owner first second) ∙ one (is_own owner a) (own_asks owner first)
  where
    one : (b : Bool) (rest : List Ask) → with_own b a (rest ++ own_asks owner second) ≡ with_own b a rest ++ own_asks owner second
    one true rest = refl
    one false rest = refl

pub go_on : CopiedOrganizationsGoOn
go_on org first second a b c d said later run copied further =
    let own = organization org in
    let begun : c org ≡ own_record (a org) (own_asks own first) = copied ∙ run.own_record in
    let both : own_asks own (first ++ second) ≡ own_asks own first ++ own_asks own second = own_asks-append own first second in
    let spoken : AreTexts (own_said (own_record (a org) (own_asks own first)) (own_asks own second)) (replies_at own second later) =
    subst (λ (r : Option Organization). AreTexts (own_said r (own_asks own second)) (replies_at own second later)) begun further.own_replies in
    let texts : AreTexts (own_said (a org) (own_asks own first ++ own_asks own second)) (replies_at own first said ++ replies_at own second later) =
    subst (λ (s : List Said). AreTexts s (replies_at own first said ++ replies_at own second later)) (sym (own_said-append (a org) (own_asks own first) (own_asks own second)))
    (AreTexts-append _ _ _ _ run.own_replies spoken) in (
      further.own_record ∙ ap (λ (r : Option Organization). own_record r (own_asks own second)) begun ∙ sym (own_record-append (a org) (own_asks own first) (own_asks own second)) ∙ ap (own_record (a org)) (sym both),
      subst (λ (asks : List Ask). AreTexts (own_said (a org) asks) (replies_at own first said ++ replies_at own second later)) (sym both) texts,
    )
