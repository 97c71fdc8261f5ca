-- Copies from one store to another, one after the other, and the two files that they lie in.
use Rattle.std.proofs.Common.{◌≡◌, ◌≢◌, ◌⊎◌, ◌∙◌, ◌||◌, ℕ, Bool, true, false, List, [], ◌∷◌, Option, Some, None, Result, Ok, Err, IfOk, OnOk, IsSomeAnd, refl, sym, ap, subst, inl, inr}
use Rattle.std.specs.Prelude.{OnErr}
use Rattle.std.specs.List.{AllByRecursion, list_any}
use Rattle.std.specs.Str.{bytes_eq}
use Rattle.std.proofs.lemmas.Slice.Eq.{bytes_eq-Decides}
use Rattle.basis.specs.declared.memory.Down.{Down}
use Rattle.machine.specs.Effects.{Effect, effect}
use Rattle.machine.specs.StoreCalls.{Unchanged}
use Rattle.machine.specs.Tokens.{AreOrganizations, ListsOrganizations, is_row_of}
use Rattle.machine.specs.declared.keeps.AdminAnswer.{AdminAnswer}
use Rattle.machine.specs.declared.keeps.AdminAnswer.TheVariants.{Done, Exists, Absent, InUse, Organizations, Tokens}
use Rattle.machine.specs.declared.keeps.Keep as keep
use Rattle.machine.specs.declared.keeps.OrgRow.{OrgRow}
use Rattle.machine.specs.declared.records.Organization.{Organization}
use Rattle.serve.specs.Service.{Stays}
use Rattle.program.specs.declared.exits.Exit.{Exit}
use Rattle.program.specs.declared.environment.Files as files
use Rattle.program.specs.declared.reasons.Cause.{Cause}
use Rattle.program.specs.declared.reasons.Cause.TheVariants.{Unfinished}
use Rattle.program.specs.Moves.{org_copied, copied_into, Arrives, AllAreCopied, SomeAreCopied, IsFilled, lists_none, CopiesBetween}
use Rattle.program.specs.declared.environment.Opening.{Opening}
use Rattle.program.specs.Outcomes.{Stream, Errors, stream, error_stream, IsSaid, filled_ending, ReportsCause, ReportsWord, Refuses, RefusesToOpen, RefusesSecond, OpensSource, OpensBoth, Closes, ClosesBoth, CopiesOver, IsCopied, IsCompacted}
use Rattle.program.specs.Streams.{Reported}
use Rattle.program.proofs.MoveLemmas.{copied_none, copied_left}
use Rattle.program.proofs.EnvironmentLemmas.{same_records}

-- ---- records

abbrev Records : Type 0
Records = List ℕ → Option Organization

listed : (P : List ℕ → Type 0) (rows : List OrgRow) (org : List ℕ) → AllByRecursion (λ row. P row.name) rows → list_any (is_row_of org) rows ≡ true → P org
listed P [] org all is = absurd (let no : ⊥ = cc in no)
listed P (row ∷ rows) org all is = by_test (bytes_eq row.name org) refl is (listed P rows org all.1)
  where
    by_test : (b : Bool) → bytes_eq row.name org ≡ b → b || list_any (is_row_of org) rows ≡ true → (list_any (is_row_of org) rows ≡ true → P org) → P org
    by_test true e there later = subst P ((bytes_eq-Decides row.name org).0 e) all.0
    by_test false e there later = later there

-- where those of the list of all organizations were copied, every one was
all_listed : (from old new : Records) (rows : List OrgRow) → AreOrganizations from rows → SomeAreCopied from old new → AllByRecursion (λ row. Arrives from old new row.name) rows → AllAreCopied from old new
all_listed from old new rows are some all org = by_record (from org) refl
  where
    by_cases : from org ≡ None → (new org ≡ old org) ⊎ Arrives from old new org → Arrives from old new org
    by_cases none (inl stays) = stays ∙ sym (copied_none (old org)) ∙ ap (λ (r : Option Organization). copied_into r (old org)) (sym none)
    by_cases none (inr copied) = copied

    by_record : (r : Option Organization) → from org ≡ r → Arrives from old new org
    by_record (Some o) is = listed (Arrives from old new) rows org all (are.whole org o is)
    by_record None is = by_cases is (some org)

-- the same by the answer that has the list
pub by_list : {T : Type 0} (from old new : Records) (reported : AdminAnswer) (rows : List OrgRow) (result : Result T Down) → reported ≡ Organizations rows
    → SomeAreCopied from old new × OnOk result (AllByRecursion (λ row. Arrives from old new row.name) rows) → SomeAreCopied from old new × OnOk result (ListsOrganizations from reported → AllAreCopied from old new)
by_list from old new reported rows (Ok done) is copies = (copies.0, λ lists. all_listed from old new rows (subst (ListsOrganizations from) is lists) copies.0 copies.1)
by_list from old new reported rows (Err refused) is copies = (copies.0, tt)

-- an answer by the rule, and the record that it says
arrives : (from old new : Records) (org : List ℕ) (answer : AdminAnswer) → effect answer (new org) ≡ org_copied (from org) (old org) → Arrives from old new org
arrives from old new org answer is = ap (λ (e : Effect AdminAnswer (Option Organization)). e.left) is ∙ copied_left (from org) (old org)

-- one organization is copied, and each other record stays
pub one_copied : (from old new : Records) (org name : List ℕ) (answer : AdminAnswer) → org ≡ name → effect answer (new org) ≡ org_copied (from org) (old org)
    → ((other : List ℕ) → other ≢ org → new other ≡ old other) → SomeAreCopied from old new × Arrives from old new name
one_copied from old new org name answer is own others = (some, subst (Arrives from old new) is here)
  where
    here : Arrives from old new org
    here = arrives from old new org answer own

    by_test : (other : List ℕ) (b : Bool) → bytes_eq other org ≡ b → (new other ≡ old other) ⊎ Arrives from old new other
    by_test other true e = inr (subst (Arrives from old new) (sym ((bytes_eq-Decides other org).0 e)) here)
    by_test other false e = inl (others other (λ same. let is_so = (bytes_eq-Decides other org).1 same in let no : ⊥ = cc in no))

    some : SomeAreCopied from old new
    some other = by_test other (bytes_eq other org) refl

-- ---- stores

module _ {K : Type 0} (k : keep.Ghosts K) where
  -- what became of the records, told otherwise
  pub copies_as : (Q R : Records → Records → Records → Type 0) (a b x y : K) → ((from old new : Records) → Q from old new → R from old new) → CopiesBetween k Q a b x y → CopiesBetween k R a b x y
  copies_as Q R a b x y means copies = record {
    unchanged = copies.unchanged;
    so_far = copies.so_far;
    shield = copies.shield;
    kept = copies.kept;
    keys = copies.keys;
    model = λ clean sound clean_source sound_source. means (k.rows a) (k.rows x) (k.rows y) (copies.model clean sound clean_source sound_source);
  }

  -- the target is looked at first, and more is known of its records then
  pub copies_behind : (Q R : Records → Records → Records → Type 0) (a b x y z : K) → Unchanged k.rows k.clean k.sound k.keyed k.shielded x y
      → (k.clean y → k.sound x → (from new : Records) → Q from (k.rows x) new → R from (k.rows x) new) → CopiesBetween k Q a b y z → CopiesBetween k R a b x z
  copies_behind Q R a b x y z unchanged means copies = record {
    unchanged = copies.unchanged;
    so_far = λ clean. unchanged.so_far (copies.so_far clean);
    shield = λ shielded. copies.shield (unchanged.shield shielded);
    kept = λ clean sound clean_source sound_source. copies.kept clean (unchanged.kept (copies.so_far clean) sound) clean_source sound_source;
    keys = λ clean sound clean_source sound_source keyed.
        let before = copies.so_far clean in
        copies.keys clean (unchanged.kept before sound) clean_source sound_source (unchanged.keys before sound keyed);
    model = λ clean sound clean_source sound_source. means (copies.so_far clean) sound (k.rows a) (k.rows z)
        (subst (λ (rows : Records). Q (k.rows a) rows (k.rows z)) (same_records (k.rows y) (k.rows x) (unchanged.same (copies.so_far clean)))
        (copies.model clean (unchanged.kept (copies.so_far clean) sound) clean_source sound_source));
  }

  -- the target is looked at behind the copies
  pub copies_checked : (Q : Records → Records → Records → Type 0) (a b x y z : K) → CopiesBetween k Q a b x y → Unchanged k.rows k.clean k.sound k.keyed k.shielded y z → CopiesBetween k Q a b x z
  copies_checked Q a b x y z copies unchanged = record {
    unchanged = copies.unchanged;
    so_far = λ clean. copies.so_far (unchanged.so_far clean);
    shield = λ shielded. unchanged.shield (copies.shield shielded);
    kept = λ clean sound clean_source sound_source. unchanged.kept clean (copies.kept (unchanged.so_far clean) sound clean_source sound_source);
    keys = λ clean sound clean_source sound_source keyed.
        let before = unchanged.so_far clean in
        unchanged.keys clean (copies.kept before sound clean_source sound_source) (copies.keys before sound clean_source sound_source keyed);
    model = λ clean sound clean_source sound_source. subst (λ (rows : Records). Q (k.rows a) (k.rows x) rows) (sym (same_records (k.rows z) (k.rows y) (unchanged.same clean)))
        (copies.model (unchanged.so_far clean) sound clean_source sound_source);
  }

  -- the target is looked at, and nothing is copied
  pub copies_none : (R : Records → Records → Records → Type 0) (a x y : K) → Unchanged k.rows k.clean k.sound k.keyed k.shielded x y
      → (k.clean y → k.sound x → ((org : List ℕ) → k.rows y org ≡ k.rows x org) → (from : Records) → R from (k.rows x) (k.rows y)) → CopiesBetween k R a a x y
  copies_none R a x y unchanged means = record {
    unchanged = record { so_far = λ clean. clean; kept = λ clean sound. sound; keys = λ clean sound keyed. keyed; shield = λ shielded. shielded; same = λ clean org. refl };
    so_far = unchanged.so_far;
    shield = unchanged.shield;
    kept = λ clean sound clean_source sound_source. unchanged.kept clean sound;
    keys = λ clean sound clean_source sound_source. unchanged.keys clean sound;
    model = λ clean sound clean_source sound_source. means clean sound (unchanged.same clean) (k.rows a);
  }

-- ---- a target that has to be without organizations

there_by : (records : Records) (org : List ℕ) (P : Organization → Type 0) (r : Option Organization) → records org ≡ r → IsSomeAnd r P → (there : Organization) × (records org ≡ Some there)
there_by records org P None is so = absurd so
there_by records org P (Some o) is so = (o, is)

-- a list with one
some_listed : (records : Records) (reported : AdminAnswer) → ListsOrganizations records reported → lists_none reported ≡ false → (org : List ℕ) × (there : Organization) × (records org ≡ Some there)
some_listed records Done are e = absurd are
some_listed records Exists are e = absurd are
some_listed records Absent are e = absurd are
some_listed records InUse are e = absurd are
some_listed records (Tokens rows) are e = absurd are
some_listed records (Organizations []) are e = absurd (let no : ⊥ = cc in no)
some_listed records (Organizations (row ∷ rows)) are e =
    let found = there_by records row.name _ (records row.name) refl are.reported.0 in (row.name, found.0, found.1)

-- where some were listed nothing was copied
pub is_left : (from old new : Records) (reported : AdminAnswer) → ListsOrganizations old reported → lists_none reported ≡ false → ((org : List ℕ) → new org ≡ old org) → IsFilled from old new false
is_left from old new reported are e same = (same, some_listed old reported are e)

pub some_stay : (from old new : Records) → ((org : List ℕ) → new org ≡ old org) → SomeAreCopied from old new
some_stay from old new same org = inl (same org)

-- ---- answers

-- an answer is told as it is, and where there is none `refused down`, with its cause
pub copied : (Fails : Cause → Type 0) (org : List ℕ) (from old new : Records) (e : Exit) (output : Stream) (errors : Errors) (result : Result AdminAnswer Down)
    → IfOk result (λ answer. effect answer (new org) ≡ org_copied (from org) (old org)) → ((other : List ℕ) → other ≢ org → new other ≡ old other) → OnErr result (Stays old new)
    → IfOk result (λ answer. ReportsWord answer e output × (errors.new ≡ errors.old)) → OnErr result ((why : Cause) × Fails why × Refuses why e output errors) → IsCopied Fails org from old new e output errors
copied Fails org from old new e output errors (Ok answer) own others stays reports down = inl (answer, own, others, reports.0, reports.1)
copied Fails org from old new e output errors (Err d) own others stays reports down = inr (stays, down)

pub compacted : (from old new : Records) (e : Exit) (output : Stream) (errors : Errors) (result : Result Bool Down) → SomeAreCopied from old new → IfOk result (IsFilled from old new)
    → IfOk result (λ is_filled. IsSaid (filled_ending is_filled) e output.old output.new × (errors.new ≡ errors.old)) → OnErr result (Refuses Unfinished e output errors) → IsCompacted from old new e output errors
compacted from old new e output errors (Ok is_filled) some filled reports down = inl (is_filled, filled, reports.0, reports.1)
compacted from old new e output errors (Err d) some filled reports down = inr (some, down)

-- the only cause of a copy that isn't finished
pub unfinished : (P : Type 0) (errors : Errors) → P ⊎ ReportsCause Unfinished errors → P ⊎ ((why : Cause) × (why ≡ Unfinished) × ReportsCause why errors)
unfinished P errors (inl p) = inl p
unfinished P errors (inr h) = inr (Unfinished, refl, h)

-- ---- files

module _ {K F : Type 0} (k : keep.Ghosts K) (f : files.Ghosts F K) where
  -- the second of two paths isn't opened, and the first is closed again
  pub refuses_second : (from to : List ℕ) (opening : Opening) (old opened unopened new : F) (source : K) (e : Exit) (out said : Option (List ℕ)) (before noted reported after : Reported) → from ≢ to
      → OpensSource k f from old opened source (error_stream before noted) → RefusesToOpen k f to opening opened unopened e (stream out said) (error_stream noted reported) → Closes k f from unopened new source (error_stream reported after)
      → RefusesSecond k f from to opening old new e (stream out said) (error_stream before after)
  refuses_second from to opening old opened unopened new source e out said before noted reported after differ first second closes = record {
    differ = differ;
    source = source;
    opened = opened;
    unopened = unopened;
    noted = noted;
    reported = reported;
    first = first;
    second = second;
    closes = closes;
    others = λ other store apart held. closes.others other store apart (second.0 other store (first.opens.others other store apart held));
  }

  -- stores are opened at two paths, it is copied from one to the other, and they are closed
  pub copies_over : (from to : List ℕ) (opening : Opening) (Becomes : K → Records → Records → Records → Errors → Type 0) (Fails : K → Cause → Type 0) (old worked new : F) (source source' target target' : K) (before noted reported after : Reported)
      → OpensBoth k f from to opening old worked source target (error_stream before noted)
      → CopiesBetween k (λ s o n. Becomes target' s o n (error_stream noted reported)) source source' target target'
      → (reported ≡ noted) ⊎ ((why : Cause) × Fails target' why × ReportsCause why (error_stream noted reported))
      → ClosesBoth k f from to worked new source' target' (error_stream reported after)
      → CopiesOver k f from to opening Becomes Fails old new (error_stream before after)
  copies_over from to opening Becomes Fails old worked new source source' target target' before noted reported after opens copies why closes = record {
    source_before = source;
    source_after = source';
    target_before = target;
    target_after = target';
    worked = worked;
    noted = noted;
    reported = reported;
    opens = opens;
    copies = copies;
    ours = λ clean sound clean_source ours. subst (λ (rows : Records). Becomes target' rows (k.rows target) (k.rows target') (error_stream noted reported))
        (same_records (k.rows source) (k.rows opens.first.opened) (opens.first.unchanged.same (copies.unchanged.so_far clean_source)))
        (copies.model clean sound clean_source (opens.first.sound_ours (copies.unchanged.so_far clean_source) ours).1);
    why = why;
    closes = closes;
    left_source = closes.first.left;
    left_target = closes.first.others to target' (λ e. opens.differ (sym e)) closes.second.left;
    others = λ other store apart_from apart_to held.
        closes.first.others other store apart_from (closes.second.others other store apart_to (opens.second.others other store apart_to (opens.first.opens.others other store apart_from held)));
  }
