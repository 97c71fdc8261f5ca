use Rattle.serve.proofs.Outside.{◌≡◌, ◌≢◌, ℕ, List, Bool, true, false, cond, Option, Some, None, refl, bytes_eq, bytes_eq-Decides, role_word, Role}
use Rattle.std.specs.Option.{IfSome, IfNone}
use Rattle.basis.specs.declared.roles.Role.TheVariants.{Read, Write, Admin}
use Rattle.serve.specs.Parts.{role_of}
use Rattle.serve.proofs.parts.read_role.Goals as goal

-- each role's word names that role
of_word : (role : Role) → Some role ≡ role_of (role_word role)
of_word Read = refl
of_word Write = refl
of_word Admin = refl

-- tests that fail each go on to the next
passed : {X : Type 0} (b : Bool) (x : Option X) (y : Option X) → (b ≡ true → ⊥) → y ≡ cond b x y
passed true x y h = absurd (h refl)
passed false x y h = refl

of_none : (word : List ℕ) → ((role : Role) → word ≢ role_word role) → None ≡ role_of word
of_none word h =
    let no : (role : Role) → bytes_eq word (role_word role) ≡ true → ⊥ = λ role is. h role ((bytes_eq-Decides word (role_word role)).0 is) in
    let last = passed (bytes_eq word (role_word Admin)) (Some Admin) None (no Admin) in
    let middle = passed (bytes_eq word (role_word Write)) (Some Write) (cond (bytes_eq word (role_word Admin)) (Some Admin) None) (no Write) in
    let first = passed (bytes_eq word (role_word Read)) (Some Read) (cond (bytes_eq word (role_word Write)) (Some Write) (cond (bytes_eq word (role_word Admin)) (Some Admin) None)) (no Read) in
    cc

named_is : (word : List ℕ) (found : Option Role) → IfSome found (λ role. word ≡ role_word role) → IfNone found ((role : Role) → word ≢ role_word role) → found ≡ role_of word
named_is word (Some role) h g = rw h (of_word role)
named_is word None h g = of_none word g

pub returns : goal.returns
returns c = named_is c.args.word.now c.named.result c.named.ensures.named c.named.ensures.unknown
