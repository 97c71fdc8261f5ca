use Rattle.serve.proofs.Outside.{◌≡◌, ◌∙◌, ◌++◌, ℕ, List, Option, Result, Ok, Err, ap, sym, subst, append_assoc, Appends-trans, Appends}
use Rattle.std.specs.Prelude.{OnOk}
use Rattle.serve.proofs.lists.write_token.Goals as goal

-- what is written of a caller stands behind its name, one piece after another
onto : (x r s u p e : List ℕ) → x ++ (r ++ s ++ u ++ s ++ p ++ e) ≡ x ++ r ++ s ++ u ++ s ++ p ++ e
onto x r s u p e =
    sym (append_assoc x (r ++ s ++ u ++ s ++ p) e)
    ∙ ap (λ t. t ++ e) (sym (append_assoc x (r ++ s ++ u ++ s) p) ∙ ap (λ t. t ++ p) (sym (append_assoc x (r ++ s ++ u) s) ∙ ap (λ t. t ++ s) (sym (append_assoc x (r ++ s) u) ∙ ap (λ t. t ++ u) (sym (append_assoc x r s)))))

printed : {T E : Type 0} (result : Result T E) (a b c d : Option (List ℕ)) (n r s u p e : List ℕ) → Appends a b n → Appends b c s → OnOk result (Appends c d (r ++ s ++ u ++ s ++ p ++ e))
    → OnOk result (Appends a d (n ++ s ++ r ++ s ++ u ++ s ++ p ++ e))
printed (Ok done) a b c d n r s u p e first second third =
    subst (λ (t : List ℕ). Appends a d t) (onto (n ++ s) r s u p e) (Appends-trans a c d (n ++ s) (r ++ s ++ u ++ s ++ p ++ e) (Appends-trans a b c n s first second) third)
printed (Err fault) a b c d n r s u p e first second third = tt

pub returns : goal.returns
returns g c =
    let named = subst (λ (t : List ℕ). Appends (g.O.Write.contents c.args.output.now) (g.O.Write.contents c.write_all.new.self) t) (c.as_bytes.ensures.value ∙ c.as_str.ensures) c.in_ok-write_all.ensures.bytes in
    printed c.write_caller.result _ _ _ _ _ _ _ _ _ _ named c.in_ok-write_all-2.ensures.bytes c.write_caller.ensures
