use Rattle.std.proofs.Common.{ℕ, List, true, ap, sym, subst, ◌∙◌, inl, inr, IfOk, Result, Ok, Err}
use Rattle.sqlite_wal.specs.Recovery.{Image}
use Rattle.sqlite_wal.proofs.CleanLemmas.{halves}
use Rattle.sqlite.specs.Files.{file_state, image_of, IsBlankAs, IsNothing}
use Rattle.sqlite.specs.Start.{FindsIn}
use Rattle.sqlite.proofs.FileLemmas.{is_something}
use Rattle.system.proofs.connecting.connect.Goals as goal

abbrev image : List ℕ → List ℕ → Image
image log db = record { log = log; db = db }

new_found : {C E : Type 0} (Clean Empty Found : C → Type 0) (Honest : Type 0) (result : Result C E) → IfOk result (λ c. Clean c → Honest) → IfOk result (λ c. Clean c → Empty c) → ((c : C) → Honest → Empty c → Found c) → IfOk result (λ c. Clean c → Found c)
new_found Clean Empty Found Honest (Ok c) honest empty found = λ clean. found c (honest clean) (empty clean)
new_found Clean Empty Found Honest (Err e) honest empty found = tt

pub returns-in-Ok-eq0-clause-found : goal.returns-in-Ok-eq0-clause-found
returns-in-Ok-eq0-clause-found g c =
    new_found _ _ _ _ c.connect_new.result c.connect_new.ensures.honest c.connect_new.ensures.empty (λ conn honest empty.
    let start = image_of g.D.Disk c.args.files in
    let nothing : IsNothing start = inl (inl (sym (c.in-Ok-eq0.ensures.len (halves g.D.Disk _ _ honest).1) ∙ c.in-Ok-eq0.field-0-test)) in
    record { holds = λ db held. absurd (is_something start db held nothing); reads = inr (nothing, empty) })

pub returns-in-Ok-open_files_with-clause-found : goal.returns-in-Ok-open_files_with-clause-found
returns-in-Ok-open_files_with-clause-found g c clean =
    let found = c.in-Ok-open_files_with.ensures.found clean in
    let same = ap (image (g.D.Disk.seen c.args.files.log)) c.in-Ok.ensures.seen in
    subst (λ i. FindsIn i (file_state c.in-Ok-open_files_with.conn)) same (record { holds = found.holds; reads = found.reads })

pub returns-in-Ok-open_files_with-clause-sums : goal.returns-in-Ok-open_files_with-clause-sums
returns-in-Ok-open_files_with-clause-sums g c clean blank =
    let same = ap (image (g.D.Disk.seen c.args.files.log)) c.in-Ok.ensures.seen in
    c.in-Ok-open_files_with.ensures.sums clean (subst (IsBlankAs true) (sym same) blank)
