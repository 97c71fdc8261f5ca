use Rattle.serve.proofs.Outside.{◌≡◌, ◌∙◌, ℕ, List, true, false, cond, Option, Some, None, Bor, ap, sym, subst, length, drop, MatchOption, option_map, IsCharBoundary}
use Rattle.std.specs.Str.Pattern.{FindsTextPrefix, StripsPrefix}
use Rattle.std.proofs.lemmas.Str.Pattern.{starts_text}
use Rattle.serve.specs.Bounds.{behind}
use Rattle.serve.proofs.bounds.behind.Goals as goal

-- what is left of a text without its front is what stands behind a mark
behind_is : (found : Option (Bor (List ℕ))) (mark word : List ℕ) → MatchOption found (FindsTextPrefix mark word None) (λ x. StripsPrefix (FindsTextPrefix mark) word x.now)
    → option_map (λ rest. rest.now) found ≡ behind mark word
behind_is None mark word lacks = ap (λ b. cond b (Some (drop (length mark) word)) None) (starts_text false mark word lacks)
behind_is (Some rest) mark word (n, found, is, _) =
    let begins = starts_text true mark word (n, found, subst (IsCharBoundary word) (sym found.0) found.2) in
    ap Some (is ∙ ap (λ k. drop k word) found.0) ∙ ap (λ b. cond b (Some (drop (length mark) word)) None) begins

pub returns : goal.returns
returns c = behind_is c.strip_prefix.result c.args.mark.now c.args.word.now c.strip_prefix.ensures.cases
