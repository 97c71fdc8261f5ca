use Rattle.docs.proofs.Outside.{◌≡◌, ◌-◌, length, Some, refl, ◌∙◌, arith, read_key, value, read_key-shorter, no_members, put}
use Rattle.docs.proofs.Passing.{member_passed, member_refused, key_refused, members_over}
use Rattle.docs.proofs.heads.read_members.Goals as goal

pub members-init : goal.members-init
members-init c = (length c.args.reader.now, no_members, omega arith, refl, record { serial = refl; lineage = refl })

pub returns-in_err-name-clause-err : goal.returns-in_err-name-clause-err
returns-in_err-name-clause-err c =
    let p = value c.args.depth in
    let l = c.members in
    let none = l.invariant.3 ∙ key_refused p l.invariant.1 l.invariant.0 l.reader c.in_err-name.ensures.value in
    grind (arith, none)

pub returns-in_err-part-clause-err : goal.returns-in_err-part-clause-err
returns-in_err-part-clause-err c =
    let p = value c.args.depth in
    let l = c.members in
    let k = c.in-Some.name.now in
    let s = c.next_key.new.self in
    let named : read_key l.reader ≡ Some (Some k, s) = grind arith in
    let none = l.invariant.3 ∙ member_refused p l.invariant.1 l.invariant.0 k l.reader s named c.in_err-part.ensures.err in
    grind (arith, none)

pub members-preserved : goal.members-preserved
members-preserved c =
    let p = value c.args.depth in
    let l = c.members in
    let n = l.invariant.0 in
    let old = l.invariant.1 in
    let k = c.in-Some.name.now in
    let s = c.next_key.new.self in
    let named : read_key l.reader ≡ Some (Some k, s) = grind arith in
    let done = c.in_ok-part.ensures in
    let r = c.pass.new.reader in
    let less = read_key-shorter l.reader (Some k) s named in
    let lesser = done.shorter in (
      n - 1,
      put k done.ok.0 old,
      omega (arith, l.invariant.2),
      l.invariant.3 ∙ member_passed p old n k l.reader s r done.ok.0 (omega (arith, l.invariant.2)) named done.ok.1,
      c.with-head.ensures done.ok.0 old done.ok.2 l.invariant.4,
    )

pub returns-clause-ok : goal.returns-clause-ok
returns-clause-ok c =
    let p = value c.args.depth in
    let l = c.members in
    (l.invariant.1, l.invariant.3 ∙ members_over p l.invariant.1 l.invariant.0 l.reader c.next_key.new.self l.invariant.2 (grind arith), l.invariant.4)
