-- The rules keep the laws of a workspace.
use Rattle.machine.proofs.Outside.{◌≡◌, ℕ, ◌+◌, ◌-◌, ◌<◌, ◌≤◌, nat_le, Bool, true, false, cond, List, [], ◌∷◌, ◌++◌, length, drop, map, suc, zero, ◌&&◌, not, Option, Some, None, IsTrue, refl, sym, ap, subst, ◌∙◌, arith, length-append, AllByRecursion, leb-true, le-leb, Settings, StateHead, Holder, is_free_id}
use Rattle.std.specs.Prelude.{find, option_map}
use Rattle.machine.specs.Laws.{IsLawful, IsVersion, Rises, IsRun, is_pending, is_nobody}
use Rattle.machine.specs.Ranges.{IsHeadInRange, IsRetention}
use Rattle.machine.specs.Workspaces.{last_of}
use Rattle.machine.specs.Rules.{number_left, with_version, max_number, with_settings, purged, locked}
use Rattle.machine.specs.Settling.{is_waiting, first_waiting, to_start, started_if, settled}
use Rattle.machine.proofs.CutLemmas.{last_length}
use Rattle.basis.specs.declared.rows.Holder.TheVariants.{Nobody, Lock, Run as HoldingRun}
use Rattle.basis.specs.declared.rows.RunRow.{RunRow as Run}
use Rattle.machine.specs.declared.records.Version.{Version}
use Rattle.machine.specs.declared.records.Workspace.{Workspace}

-- a number more at the end
Rises-push : (low : ℕ) (vs : List Version) (v : Version) → low < v.number → Rises low (map (λ (v : Version). v.number) vs) v.number → Rises low (map (λ (v : Version). v.number) (vs ++ v ∷ [])) (v.number + 1)
Rises-push low [] v above h = (above, omega arith, tt)
Rises-push low (u ∷ vs) v above h = (h.0, omega arith, Rises-push u.number vs v h.1 h.2)

-- a lower bound below
Rises-below : (low lower : ℕ) (ns : List ℕ) (top : ℕ) → lower ≤ low → Rises low ns top → Rises lower ns top
Rises-below low lower [] top h r = tt
Rises-below low lower (n ∷ ns) top h r = (omega arith, r.1, r.2)

-- the first ones gone
Rises-drop : (k low : ℕ) (vs : List Version) (top : ℕ) → Rises low (map (λ (v : Version). v.number) vs) top → Rises low (map (λ (v : Version). v.number) (drop k vs)) top
Rises-drop zero low vs top r = r
Rises-drop (suc k) low [] top r = tt
Rises-drop (suc k) low (v ∷ vs) top r = Rises-drop k low vs top (Rises-below v.number low (map (λ (v : Version). v.number) vs) top (omega arith) r.2)

All-push : (vs : List Version) (v : Version) → AllByRecursion IsVersion vs → IsVersion v → AllByRecursion IsVersion (vs ++ v ∷ [])
All-push [] v all h = (h, tt)
All-push (u ∷ vs) v all h = (all.0, All-push vs v all.1 h)

All-drop : (k : ℕ) (vs : List Version) → AllByRecursion IsVersion vs → AllByRecursion IsVersion (drop k vs)
All-drop zero vs all = all
All-drop (suc k) [] all = tt
All-drop (suc k) (v ∷ vs) all = All-drop k vs all.1

-- what the next number is, where one is left
pub number_left-is : (n m : ℕ) → number_left n ≡ Some m → (m ≡ n) × (1 ≤ m) × (m ≤ max_number)
number_left-is n m e = let p = tests (nat_le 1 n) (nat_le n max_number) n m e in (p.0, rw p.0 (leb-true 1 n p.1), rw p.0 (leb-true n max_number p.2))
  where
    tests : (b c : Bool) (n m : ℕ) → cond (b && c) (Some n) None ≡ Some m → (m ≡ n) × (b ≡ true) × (c ≡ true)
    tests true true n m e = (cc, refl, refl)
    tests true false n m e = absurd (let no : ⊥ = cc in no)
    tests false c n m e = absurd (let no : ⊥ = cc in no)

-- a number that is in range is left
pub in_range_is_left : (n : ℕ) → 1 ≤ n → n ≤ max_number → number_left n ≡ Some n
in_range_is_left n low high = ap (λ (b : Bool). cond (b && nat_le n max_number) (Some n) None) (le-leb 1 n low) ∙ ap (λ (b : Bool). cond b (Some n) None) (le-leb n max_number high)

pub version_is_lawful : (w : Workspace) (n : ℕ) (head : StateHead) (text : List ℕ) (now : ℕ) → number_left w.next_version ≡ Some n
    → IsHeadInRange head → now ≤ 253_402_300_799 → IsLawful w → IsLawful (with_version w n head text now)
version_is_lawful w n head text now e range moment lawful =
    let v : Version = record { number = n; serial = head.serial; lineage = head.lineage; created = now; text = text } in
    let left : (n ≡ w.next_version) × (1 ≤ n) × (n ≤ max_number) = number_left-is w.next_version n e in
    let below : 0 < n = omega (arith, left.1) in
    let most : n + 1 ≤ 1_000_000_001 = omega (arith, left.2) in
    let rose : Rises 0 (map (λ (u : Version). u.number) w.versions) n = subst (λ (t : ℕ). Rises 0 (map (λ (u : Version). u.number) w.versions) t) (sym left.0) lawful.versions.rise in
    let staying : ℕ = w.settings.retention - 1 in
    let k : ℕ = length w.versions - staying in
    let kept : length (last_of staying w.versions ++ v ∷ []) ≤ w.settings.retention = rw length-append (omega (arith, last_length staying w.versions, lawful.versions.retention.0)) in
    record {
      versions = record {
        retention = lawful.versions.retention;
        next = (omega arith, most);
        rise = Rises-push 0 (last_of staying w.versions) v below (Rises-drop k 0 w.versions n rose);
        each = All-push (last_of staying w.versions) v (All-drop k w.versions lawful.versions.each) (record { serial = range.0; lineage = range.1; created = moment });
        kept = kept;
      };
      runs = lawful.runs;
      released = lawful.released;
    }

-- while the laws hold, nobody is to start
pub none_waits : (holder : Holder) (runs : List Run) → is_nobody holder ≡ true → AllByRecursion (IsRun holder) runs → first_waiting runs ≡ None
none_waits holder [] nobody all = refl
none_waits holder (r ∷ runs) nobody all = passed (is_pending r.status) r.plan_only refl (none_waits holder runs nobody all.1)
  where
    passed : (b c : Bool) → is_pending r.status ≡ b → first_waiting runs ≡ None → option_map (λ (s : Run). s.number) (cond (b && not c) (Some r) (find is_waiting runs)) ≡ None
    passed true c e more = absurd (let no : ⊥ = cc (sym nobody ∙ (all.0.waiting e).1) in no)
    passed false c e more = more

pub nobody_starts : (holder : Holder) (runs : List Run) → AllByRecursion (IsRun holder) runs → to_start holder (first_waiting runs) ≡ None
nobody_starts Nobody runs all = none_waits Nobody runs refl all
nobody_starts (Lock id text) runs all = refl
nobody_starts (HoldingRun n) runs all = refl

-- so a lawful workspace has settled
pub still_is_lawful : (w : Workspace) → IsLawful w → IsLawful (settled w)
still_is_lawful w lawful = subst (λ (start : Option ℕ). IsLawful (started_if start w)) (sym (nobody_starts w.holder w.runs lawful.runs.each)) lawful

pub purged_is_lawful : (w : Workspace) → IsLawful w → IsLawful (purged w)
purged_is_lawful w lawful = record {
  versions = record { retention = lawful.versions.retention; next = lawful.versions.next; rise = tt; each = tt; kept = omega arith };
  runs = lawful.runs;
  released = lawful.released;
}

-- with other settings, of which the number is in range
pub set_is_lawful : (settings : Settings) (w : Workspace) → IsRetention settings.retention → IsLawful w → IsLawful (with_settings w settings)
set_is_lawful settings w range lawful =
    let k : ℕ = length w.versions - settings.retention in
    record {
      versions = record {
        retention = range;
        next = lawful.versions.next;
        rise = Rises-drop k 0 w.versions w.next_version lawful.versions.rise;
        each = All-drop k w.versions lawful.versions.each;
        kept = last_length settings.retention w.versions;
      };
      runs = lawful.runs;
      released = lawful.released;
    }

-- under a lock the runs stand as they did under nobody
pub under_lock : (id text : List ℕ) (runs : List Run) → AllByRecursion (IsRun Nobody) runs → AllByRecursion (IsRun (Lock id text)) runs
under_lock id text [] all = tt
under_lock id text (r ∷ runs) all = (
  record {
    key = all.0.key;
    message = all.0.message;
    created = all.0.created;
    action = all.0.action;
    active = all.0.active;
    waiting = λ e. ((all.0.waiting e).0, refl);
  },
  under_lock id text runs all.1,
)

pub locked_is_lawful : (id text : List ℕ) (w : Workspace) → w.holder ≡ Nobody → IsTrue (is_free_id id) → IsLawful w → IsLawful (locked id text w)
locked_is_lawful id text w e range lawful = record {
  versions = lawful.versions;
  runs = record {
    next = lawful.runs.next;
    rise = lawful.runs.rise;
    each = under_lock id text w.runs (subst (λ (h : Holder). AllByRecursion (IsRun h) w.runs) e lawful.runs.each);
    open_runs = lawful.runs.open_runs;
    keys = lawful.runs.keys;
    held = range;
  };
  released = lawful.released;
}
