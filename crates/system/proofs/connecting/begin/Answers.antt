use Rattle.std.proofs.Common.{rules, ◌≡◌, [], ap, ◌∙◌, arith}
use Rattle.std.proofs.Math.Logic.{∥∥₁_map}
use Rattle.sqlite_wal.specs.Files.{seen_image}
use Rattle.sqlite_pool.specs.Stored.{is_summed}
use Rattle.sqlite_trees.proofs.Doubt.{no_doubt}
use Rattle.sqlite_store.specs.Listed.{catalog_rows}
use Rattle.sqlite_store.specs.Listing.{listed_from}
use Rattle.sqlite_store.specs.Unopened.{state_of, wanted_by, image}
use Rattle.system.proofs.Beginning.{fails_for, may_begin, can_create}
use Rattle.system.proofs.connecting.begin.Goals as goal

pub returns-in-Err-create-clause-cause : goal.returns-in-Err-create-clause-cause
returns-in-Err-create-clause-cause g c clean =
    let unbegun = c.in-Ok-with_sums.unbegun in
    let made = c.in-Ok-with_sums.ensures in
    let page : c.in-Ok.pager.log.page_size ≡ 1024 = search rules in
    let size : (state_of unbegun).page_size ≡ 1016 = omega (arith, made.size, page) in
    let at : image unbegun ≡ seen_image g.D.Disk c.args.files.log c.args.files.db = ap (λ f. seen_image g.D.Disk f.0 f.1) (made.files ∙ c.in-Ok.ensures.files) in
    let none : wanted_by unbegun ≡ [] = made.schema in
    ((state_of unbegun).faults, fails_for _ _ _ _ _ c.in-Err-create.error (can_create unbegun 1016 _ size at none) (c.in-Err-create.ensures.cause clean))

pub returns-in-Ok-create-clause-begun : goal.returns-in-Ok-create-clause-begun
returns-in-Ok-create-clause-begun g c clean =
    let unbegun = c.in-Ok-with_sums.unbegun in
    let made = c.in-Ok-with_sums.ensures in
    let page : c.in-Ok.pager.log.page_size ≡ 1024 = search rules in
    let size : (state_of unbegun).page_size ≡ 1016 = omega (arith, made.size, page) in
    let at : image unbegun ≡ seen_image g.D.Disk c.args.files.log c.args.files.db = ap (λ f. seen_image g.D.Disk f.0 f.1) (made.files ∙ c.in-Ok.ensures.files) in
    ∥∥₁_map (c.in-Ok-create.ensures.started clean) (may_begin unbegun 1016 _ size at)

pub returns-in-Ok-create-clause-fresh : goal.returns-in-Ok-create-clause-fresh
returns-in-Ok-create-clause-fresh g c clean =
    let unbegun = c.in-Ok-with_sums.unbegun in
    let made = c.in-Ok-with_sums.ensures in
    let page : c.in-Ok.pager.log.page_size ≡ 1024 = search rules in
    let size : (state_of unbegun).page_size ≡ 1016 = omega (arith, made.size, page) in
    let e = c.in-Ok-create.ensures in
    let none : wanted_by unbegun ≡ [] = made.schema in
    record {
      fresh = record { sound = e.ready.sound (no_doubt _ clean); numbered = e.numbered; clean = e.ready.clean; unmarked = e.ready.unmarked };
      empty = (λ tree low. ap (λ d. d tree) e.ready.clean ∙ e.empty clean tree low, rw clean (catalog_rows _ _ _ ∙ ap (listed_from 0) (e.schema ∙ none)));
      sums = ap is_summed ((e.kept clean).size ∙ size);
      guarded = e.guarded clean;
    }
