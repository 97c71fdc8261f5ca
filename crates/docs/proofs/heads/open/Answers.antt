use Rattle.docs.proofs.Outside.{◌≡◌, [], ◌∷◌, true, false, ap, ◌∙◌, arith, token_of}
use Rattle.docs.specs.Inner.Heads.{opens_object, object_in}
use Rattle.docs.proofs.Heading.{no_tokens, no_object, object_token}
use Rattle.docs.proofs.heads.open.Goals as goal

pub returns-in_err-token-clause-err : goal.returns-in_err-token-clause-err
returns-in_err-token-clause-err c = let empty : c.args.reader.now ≡ [] = grind arith in let none = ap object_in empty ∙ no_tokens in grind (arith, none)

pub returns-then-opens_object-clause-ok : goal.returns-then-opens_object-clause-ok
returns-then-opens_object-clause-ok c =
    let first : c.args.reader.now ≡ token_of c.in_ok-token.token ∷ c.next.new.self = grind arith in
    let opens : opens_object (token_of c.in_ok-token.token) ≡ true = grind arith in
    first ∙ ap (λ t. t ∷ c.next.new.self) (object_token _ opens)

pub returns-else-opens_object-clause-err : goal.returns-else-opens_object-clause-err
returns-else-opens_object-clause-err c =
    let first : c.args.reader.now ≡ token_of c.in_ok-token.token ∷ c.next.new.self = grind arith in
    let opens : opens_object (token_of c.in_ok-token.token) ≡ false = grind arith in
    ap object_in first ∙ no_object _ _ opens
