use Rattle.serve.proofs.Outside.{◌∙◌, ◌+◌, ◌<◌, ℕ, List, [], Option, ap, sym, subst, take, length, get_or, Appends, flat_map, take_more, flat_map_more, Appends-trans, TokenRow}
use Rattle.serve.specs.Service.{token_line}
use Rattle.serve.proofs.lists.write_token_lines.Goals as goal

-- one more row behind those that are written
printed_more : {X : Type 0} (f : X → List ℕ) (a b c : Option (List ℕ)) (xs : List X) (i : ℕ) (x : X) → i < length xs → Appends a b (flat_map f (take i xs)) → Appends b c (f (get_or xs i x))
    → Appends a c (flat_map f (take (i + 1) xs))
printed_more f a b c xs i x inside so_far one =
    let more = ap (flat_map f) (take_more xs i x inside) ∙ sym (flat_map_more f [] (take i xs) (get_or xs i x)) in
    subst (λ (t : List ℕ). Appends a c t) (sym more) (Appends-trans a b c (flat_map f (take i xs)) (f (get_or xs i x)) so_far one)

pub rows-preserved : goal.rows-preserved
rows-preserved g c =
    let row = subst (λ (r : TokenRow). Appends (g.O.Write.contents c.rows.output) (g.O.Write.contents c.write_token.new.output) (token_line r)) c.row-item.is c.in_ok-write_token.ensures in
    printed_more token_line _ _ _ c.args.rows.now c.rows.row-index c.row-item.result c.rows-test.true c.rows.invariant row
