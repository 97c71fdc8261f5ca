use Rattle.std.proofs.lemmas.Result.{on_ok_weaker}
use Rattle.basis.proofs.ListingLemmas.{room_offered, full_offered}
use Rattle.basis.proofs.rows.Listing.offer.Goals as goal

pub returns-then-as_slice-lt-MAX_ITEMS-clause-ok : goal.returns-then-as_slice-lt-MAX_ITEMS-clause-ok
returns-then-as_slice-lt-MAX_ITEMS-clause-ok g c =
    on_ok_weaker c.push.result (λ is xs e. room_offered xs c.args.item c.args.self.now e c.as_slice.result.now c.as_slice.ensures c.push.new.self is c.if-as_slice-lt-MAX_ITEMS.true) c.push.ensures.ok

pub returns-else-as_slice-lt-MAX_ITEMS-clause-ok : goal.returns-else-as_slice-lt-MAX_ITEMS-clause-ok
returns-else-as_slice-lt-MAX_ITEMS-clause-ok g c xs e = full_offered xs c.args.item c.args.self.now e c.as_slice.result.now c.as_slice.ensures c.if-as_slice-lt-MAX_ITEMS.false
