use Rattle.std.proofs.Common.{ℕ, ◌++◌, take, append_assoc, take-append-drop}
use Rattle.std.proofs.KnownBytes.{Appends-trans}
use Rattle.wire.proofs.replies.write_all.Goals as goal

pub writing-preserved : goal.writing-preserved
writing-preserved g c =
    let n : ℕ = c.in-Ok.count in
    let done = c.writing.invariant.done in
    record {
      sound = c.in-Ok.ensures.cause;
      done = (
        done.0 ++ take n c.writing.rest.now,
        rw (c.split_at.ensures.back, append_assoc, take-append-drop n c.writing.rest.now) done.1,
        Appends-trans _ _ _ done.0 (take n c.writing.rest.now) done.2 c.in-Ok.ensures.bytes,
      );
    }
