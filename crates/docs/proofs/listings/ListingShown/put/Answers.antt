use Rattle.docs.proofs.Outside.{ap, on_ok_weaker, array}
use Rattle.docs.specs.Bodies.{objects}
use Rattle.docs.proofs.Putting.{put_as, then_put}
use Rattle.docs.proofs.listings.ListingShown.put.Goals as goal

pub returns : goal.returns
returns g c = on_ok_weaker c.put_flag.result (then_put (put_as (ap (λ rows. array (objects g.T.Shown.members rows)) c.as_slice.ensures) c.in_ok-put_list.ensures)) c.put_flag.ensures.puts
