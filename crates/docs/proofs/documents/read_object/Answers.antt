use Rattle.serde_json.specs.Errors.{IsMemory}
use Rattle.docs.proofs.Objects.{object_found, unread, not_memory, some_bytes}
use Rattle.docs.proofs.documents.read_object.Goals as goal

pub returns-in_err-value-clause-bad : goal.returns-in_err-value-clause-bad
returns-in_err-value-clause-bad c is_bad =
    unread c.args.bytes.now (c.in_err-value.ensures.err (not_memory c.from_residual.result (IsMemory c.in_err-value.field-0.0) c.from_residual.ensures.1 is_bad))

pub returns-clause-ok : goal.returns-clause-ok
returns-clause-ok c = object_found c.args.bytes.now _ c.in_ok-value.ensures.ok.0 c.in_ok-value.ensures.ok.1 (cc)

pub returns-clause-some : goal.returns-clause-some
returns-clause-some c =
    let found = object_found c.args.bytes.now _ c.in_ok-value.ensures.ok.0 c.in_ok-value.ensures.ok.1 (cc) in
    some_bytes c.args.bytes.now found.0 found.2
