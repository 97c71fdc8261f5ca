use Rattle.std.proofs.Common.{◌≡◌, Bool, true, false, cond, Option, None, codes, refl}
use Rattle.std.specs.Str.{bytes_eq}
use Rattle.std.proofs.lemmas.Slice.Eq.{bytes_eq-Decides}
use Rattle.command_line.proofs.orders.on_file.Goals as goal

-- a test that fails leaves what follows
passed : {X : Type 0} (b : Bool) (x y : Option X) → (b ≡ true → ⊥) → y ≡ None → cond b x y ≡ None
passed true x y fails is = absurd (fails refl)
passed false x y fails is = is

pub returns-in_default-clause-syntax : goal.returns-in_default-clause-syntax
returns-in_default-clause-syntax c is =
    let command = c.args.command.now in
    passed (bytes_eq command (codes "serve")) _ _ (λ e. c.in_default.not-serve ((bytes_eq-Decides command (codes "serve")).0 e))
    (passed (bytes_eq command (codes "check")) _ _ (λ e. c.in_default.not-check ((bytes_eq-Decides command (codes "check")).0 e))
    (passed (bytes_eq command (codes "admin")) _ _ (λ e. c.in_default.not-admin ((bytes_eq-Decides command (codes "admin")).0 e))
    (passed (bytes_eq command (codes "org-copy")) _ _ (λ e. c.in_default.not-text ((bytes_eq-Decides command (codes "org-copy")).0 e))
    (passed (bytes_eq command (codes "compact")) _ _ (λ e. c.in_default.not-compact ((bytes_eq-Decides command (codes "compact")).0 e))
    (passed (bytes_eq command (codes "token-add")) _ _ (λ e. c.in_default.not-text-2 ((bytes_eq-Decides command (codes "token-add")).0 e))
    (passed (bytes_eq command (codes "org-remove")) _ _ (λ e. c.in_default.not-text-3 ((bytes_eq-Decides command (codes "org-remove")).0 e))
    (c.carrying.ensures.syntax is)))))))
