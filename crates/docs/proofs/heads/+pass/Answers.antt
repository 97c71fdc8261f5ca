use Rattle.docs.proofs.Outside.{◌≡◌, ◌-◌, ◌<◌, [], ◌∷◌, length, Some, None, refl, ap, ap₂, ◌∙◌, arith, Token, parse_map, after_end_array, read_key, items, members, value, token_of, left, left_none, left_some, value_is, value-begin_array, value-begin_object, read_key-shorter, null, boolean, number, string, array, object, no_members, put, of_json, of_items, converted}
use Rattle.serde_json.specs.View.{number_view}
use Rattle.docs.proofs.Passing.{converted-array, converted-object, item_passed, item_refused, items_over, member_passed, member_refused, key_refused, members_over}
use Rattle.docs.proofs.heads.+pass.Goals as goal

pub pass-returns-in_err-token-clause-err : goal.pass-returns-in_err-token-clause-err
pass-returns-in_err-token-clause-err t c =
    let empty : c.args.reader.now ≡ [] = grind arith in
    let none : converted of_json (value c.args.depth c.args.reader.now) ≡ None = ap (converted of_json) (ap (value c.args.depth) empty ∙ value_is c.args.depth []) in
    grind (arith, none)

pub pass-returns-then-depth-eq0-clause-err : goal.pass-returns-then-depth-eq0-clause-err
unfolding value
pass-returns-then-depth-eq0-clause-err t c =
    let first : c.args.reader.now ≡ token_of c.in_ok-token.token ∷ c.next.new.self = grind arith in
    let none : c.args.depth ≡ 0 = omega arith in
    ap (converted of_json) (ap₂ value none (first ∙ ap (λ k. token_of k ∷ c.next.new.self) c.in-BeginArray.is))

pub pass-returns-then-depth-eq0-2-clause-err : goal.pass-returns-then-depth-eq0-2-clause-err
unfolding value
pass-returns-then-depth-eq0-2-clause-err t c =
    let first : c.args.reader.now ≡ token_of c.in_ok-token.token ∷ c.next.new.self = grind arith in
    let none : c.args.depth ≡ 0 = omega arith in
    ap (converted of_json) (ap₂ value none (first ∙ ap (λ k. token_of k ∷ c.next.new.self) c.in-BeginObject.is))

pub pass-returns-in_err-pass_items-in-BeginArray-clause-err : goal.pass-returns-in_err-pass_items-in-BeginArray-clause-err
pass-returns-in_err-pass_items-in-BeginArray-clause-err t c =
    let first : c.args.reader.now ≡ token_of c.in_ok-token.token ∷ c.next.new.self = grind arith in
    let opened = ap (converted of_json) (ap (value c.args.depth) (first ∙ ap (λ k. token_of k ∷ c.next.new.self) c.in-BeginArray.is) ∙ value-begin_array c.args.depth c.next.new.self (omega arith)) ∙ converted-array (items (value (c.args.depth - 1)) (length c.next.new.self) c.next.new.self) in
    let none = opened ∙ ap (parse_map array) c.in_err-pass_items-in-BeginArray.ensures.err in
    grind (arith, none)

pub pass-returns-in_err-pass_members-in-BeginObject-clause-err : goal.pass-returns-in_err-pass_members-in-BeginObject-clause-err
pass-returns-in_err-pass_members-in-BeginObject-clause-err t c =
    let first : c.args.reader.now ≡ token_of c.in_ok-token.token ∷ c.next.new.self = grind arith in
    let opened = ap (converted of_json) (ap (value c.args.depth) (first ∙ ap (λ k. token_of k ∷ c.next.new.self) c.in-BeginObject.is) ∙ value-begin_object c.args.depth c.next.new.self (omega arith)) ∙ converted-object (members (value (c.args.depth - 1)) (length c.next.new.self) c.next.new.self) in
    let none = opened ∙ ap (parse_map object) c.in_err-pass_members-in-BeginObject.ensures.err in
    grind (arith, none)

pub pass-returns-in-String-clause-ok : goal.pass-returns-in-String-clause-ok
pass-returns-in-String-clause-ok t c =
    let first : c.args.reader.now ≡ token_of c.in_ok-token.token ∷ c.next.new.self = grind arith in
    let is : c.args.reader.now ≡ Token.string c.in-String.text.now ∷ c.next.new.self = grind (arith, first) in
    (string c.in-String.text.now, ap (converted of_json) (ap (value c.args.depth) is ∙ value_is c.args.depth _), (refl, refl))

pub pass-returns-in-Bool-clause-ok : goal.pass-returns-in-Bool-clause-ok
pass-returns-in-Bool-clause-ok t c =
    let first : c.args.reader.now ≡ token_of c.in_ok-token.token ∷ c.next.new.self = grind arith in
    let is = first ∙ ap (λ k. token_of k ∷ c.next.new.self) c.in-Bool.is in
    (boolean c.in-Bool.field-0, ap (converted of_json) (ap (value c.args.depth) is ∙ value_is c.args.depth _), (refl, refl))

pub pass-returns-in-Null-clause-ok : goal.pass-returns-in-Null-clause-ok
pass-returns-in-Null-clause-ok t c =
    let first : c.args.reader.now ≡ token_of c.in_ok-token.token ∷ c.next.new.self = grind arith in
    let is : c.args.reader.now ≡ Token.null ∷ c.next.new.self = grind (arith, first) in
    (null, ap (converted of_json) (ap (value c.args.depth) is ∙ value_is c.args.depth _), (refl, refl))

pub pass-returns-in-Some-clause-ok : goal.pass-returns-in-Some-clause-ok
pass-returns-in-Some-clause-ok t c =
    let first : c.args.reader.now ≡ token_of c.in_ok-token.token ∷ c.next.new.self = grind arith in
    let is : c.args.reader.now ≡ Token.number c.in-Number.text.now ∷ c.next.new.self = grind (arith, first) in
    (number (number_view c.in-Some.number), ap (converted of_json) (ap (value c.args.depth) is ∙ value_is c.args.depth _) ∙ rw (← c.in-Some.ensures), (refl, refl))

pub pass-returns-in-None-clause-err : goal.pass-returns-in-None-clause-err
pass-returns-in-None-clause-err t c =
    let first : c.args.reader.now ≡ token_of c.in_ok-token.token ∷ c.next.new.self = grind arith in
    let is : c.args.reader.now ≡ Token.number c.in-Number.text.now ∷ c.next.new.self = grind (arith, first) in
    ap (converted of_json) (ap (value c.args.depth) is ∙ value_is c.args.depth _) ∙ rw (← c.in-None.ensures)

pub pass-returns-in-EndObject-clause-err : goal.pass-returns-in-EndObject-clause-err
pass-returns-in-EndObject-clause-err t c =
    let first : c.args.reader.now ≡ token_of c.in_ok-token.token ∷ c.next.new.self = grind arith in
    let none : value c.args.depth c.args.reader.now ≡ None = rw (value_is c.args.depth c.args.reader.now, first) (grind arith) in
    ap (converted of_json) none

pub pass-returns-in_ok-pass_items-in-BeginArray-clause-ok : goal.pass-returns-in_ok-pass_items-in-BeginArray-clause-ok
pass-returns-in_ok-pass_items-in-BeginArray-clause-ok t c =
    let first : c.args.reader.now ≡ token_of c.in_ok-token.token ∷ c.next.new.self = grind arith in
    let opened = ap (converted of_json) (ap (value c.args.depth) (first ∙ ap (λ k. token_of k ∷ c.next.new.self) c.in-BeginArray.is) ∙ value-begin_array c.args.depth c.next.new.self (omega arith)) ∙ converted-array (items (value (c.args.depth - 1)) (length c.next.new.self) c.next.new.self) in
    let done = c.in_ok-pass_items-in-BeginArray.ensures.ok in
    (array done.0, opened ∙ ap (parse_map array) done.1, (refl, refl))

pub pass-returns-in_ok-pass_members-in-BeginObject-clause-ok : goal.pass-returns-in_ok-pass_members-in-BeginObject-clause-ok
pass-returns-in_ok-pass_members-in-BeginObject-clause-ok t c =
    let first : c.args.reader.now ≡ token_of c.in_ok-token.token ∷ c.next.new.self = grind arith in
    let opened = ap (converted of_json) (ap (value c.args.depth) (first ∙ ap (λ k. token_of k ∷ c.next.new.self) c.in-BeginObject.is) ∙ value-begin_object c.args.depth c.next.new.self (omega arith)) ∙ converted-object (members (value (c.args.depth - 1)) (length c.next.new.self) c.next.new.self) in
    let done = c.in_ok-pass_members-in-BeginObject.ensures.ok in
    (object done.0, opened ∙ ap (parse_map object) done.1, (refl, refl))

pub pass_items-items-init : goal.pass_items-items-init
pass_items-items-init t c = (length c.args.reader.now, omega arith, refl, omega arith)

pub pass_items-returns-in_err-pass-clause-err : goal.pass_items-returns-in_err-pass-clause-err
pass_items-returns-in_err-pass-clause-err t c =
    let p = value c.args.depth in
    let l = c.items in
    let n = l.invariant.0 in
    let going : (after_end_array l.reader ≡ None) × (c.take_end_array.new.self ≡ l.reader) = grind arith in
    let here : converted of_items (items p n l.reader) ≡ None = item_refused p n l.reader going.0 (rw (← going.1) c.in_err-pass.ensures.err) in
    let none = left_none (converted of_items (items p (length c.args.reader.now) c.args.reader.now)) (l.invariant.2 ∙ ap left here) in
    grind (arith, none)

pub pass_items-items-preserved : goal.pass_items-items-preserved
pass_items-items-preserved t c =
    let p = value c.args.depth in
    let l = c.items in
    let n = l.invariant.0 in
    let going : (after_end_array l.reader ≡ None) × (c.take_end_array.new.self ≡ l.reader) = grind arith in
    let done = c.in_ok-pass.ensures in
    let r = c.pass.new.reader in
    let less : length r < length l.reader = rw (← going.1) done.shorter in (
      n - 1,
      omega (arith, l.invariant.1),
      l.invariant.2 ∙ item_passed p n l.reader r done.ok.0 (omega (arith, l.invariant.1)) going.0 (rw (← going.1) done.ok.1),
      omega (arith, l.invariant.3),
    )

pub pass_items-returns-clause-ok : goal.pass_items-returns-clause-ok
pass_items-returns-clause-ok t c =
    let p = value c.args.depth in
    let l = c.items in
    let n = l.invariant.0 in
    let r = c.take_end_array.new.self in
    left_some _ r (l.invariant.2 ∙ items_over p n l.reader r l.invariant.1 (grind arith))

pub pass_members-members-init : goal.pass_members-members-init
pass_members-members-init t c = (length c.args.reader.now, no_members, omega arith, refl, omega arith)

pub pass_members-returns-in_err-next_key-clause-err : goal.pass_members-returns-in_err-next_key-clause-err
pass_members-returns-in_err-next_key-clause-err t c =
    let p = value c.args.depth in
    let l = c.members in
    let n = l.invariant.0 in
    let none = l.invariant.3 ∙ key_refused p l.invariant.1 n l.reader c.in_err-next_key.ensures.value in
    grind (arith, none)

pub pass_members-returns-in_err-pass-clause-err : goal.pass_members-returns-in_err-pass-clause-err
pass_members-returns-in_err-pass-clause-err t c =
    let p = value c.args.depth in
    let l = c.members in
    let n = l.invariant.0 in
    let k = c.in-Some.field-0.now in
    let s = c.next_key.new.self in
    let named : read_key l.reader ≡ Some (Some k, s) = grind arith in
    let none = l.invariant.3 ∙ member_refused p l.invariant.1 n k l.reader s named c.in_err-pass.ensures.err in
    grind (arith, none)

pub pass_members-members-preserved : goal.pass_members-members-preserved
pass_members-members-preserved t c =
    let p = value c.args.depth in
    let l = c.members in
    let n = l.invariant.0 in
    let old = l.invariant.1 in
    let k = c.in-Some.field-0.now in
    let s = c.next_key.new.self in
    let named : read_key l.reader ≡ Some (Some k, s) = grind arith in
    let done = c.in_ok-pass.ensures in
    let r = c.pass.new.reader in
    let less = read_key-shorter l.reader (Some k) s named in
    let lesser = done.shorter in (
      n - 1,
      put k done.ok.0 old,
      omega (arith, l.invariant.2),
      l.invariant.3 ∙ member_passed p old n k l.reader s r done.ok.0 (omega (arith, l.invariant.2)) named done.ok.1,
      omega (arith, l.invariant.4),
    )

pub pass_members-returns-clause-ok : goal.pass_members-returns-clause-ok
pass_members-returns-clause-ok t c =
    let p = value c.args.depth in
    let l = c.members in
    let n = l.invariant.0 in
    (l.invariant.1, l.invariant.3 ∙ members_over p l.invariant.1 n l.reader c.next_key.new.self l.invariant.2 (grind arith))
