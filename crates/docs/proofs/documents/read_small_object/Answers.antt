use Rattle.docs.proofs.Outside.{◌≡◌, length, arith, rules, no_members}
use Rattle.std.proofs.lemmas.Bool.Decides.{nat_tests}
use Rattle.serde_json.specs.declared.value.Value.{the_lemmas}
use Rattle.docs.proofs.Objects.{no_bytes}
use Rattle.docs.proofs.documents.read_small_object.Goals as goal

pub returns-then-is_empty-clause-ok : goal.returns-then-is_empty-clause-ok
returns-then-is_empty-clause-ok c =
    let empty : length c.args.bytes.now ≡ 0 = grind (arith, nat_tests) in
    (no_members, search (rules, the_lemmas), no_bytes c.args.bytes.now empty)
