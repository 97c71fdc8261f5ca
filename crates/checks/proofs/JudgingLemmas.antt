-- Looks for faults, one after the other.
use Rattle.checks.proofs.Outside.{◌≡◌, ◌≤◌, ◌<◌, ◌+◌, ℕ, Bool, true, false, cond, nat_le, List, [], ◌∷◌, ◌++◌, length, length-append, append_assoc, arith, refl, sym, ap, ◌∙◌, subst, ◌⊎◌, inl, inr, All, Contains, leb-true, leb-false, All-nil, All-cons, All-append, All-weaker, Contains-append_left, Contains-append_right, Contains-push}
use Rattle.checks.specs.declared.found.Fault.{Fault}
use Rattle.checks.specs.declared.found.Found.{Found}
use Rattle.checks.specs.Judging.{Breaks, noted, Adds, AreReported, Judges}

pub adds_both : {A B : Fault → Type 0} (x y z : List Fault) → Adds A x y → Adds B y z → Adds (λ f. A f ⊎ B f) x z
adds_both {A} {B} x y z one two = record {
  faults = one.faults ++ two.faults;
  are = two.are ∙ ap (λ l. l ++ two.faults) one.are ∙ append_assoc x one.faults two.faults;
  right = All-append (λ f. A f ⊎ B f) one.faults two.faults (All-weaker A (λ f. A f ⊎ B f) (λ f a. inl a) one.faults one.right) (All-weaker B (λ f. A f ⊎ B f) (λ f b. inr b) two.faults two.right);
  few = λ low. two.few (one.few low);
  every = λ low f says.
      let size : length z ≡ length y + length two.faults = ap length two.are ∙ length-append y two.faults in
      by (omega (arith, low, size)) low f says;
}
  where
    by : length y < 50 → length z < 50 → (f : Fault) → A f ⊎ B f → Contains (one.faults ++ two.faults) f
    by mid low f (inl a) = Contains-append_left one.faults two.faults f (one.every mid f a)
    by mid low f (inr b) = Contains-append_right one.faults two.faults f (two.every low f b)

pub adds_as : {A B : Fault → Type 0} (x y : List Fault) → ((f : Fault) → A f → B f) → ((f : Fault) → B f → A f) → Adds A x y → Adds B x y
adds_as {A} {B} x y to from checked = record {
  faults = checked.faults;
  are = checked.are;
  right = All-weaker A B to checked.faults checked.right;
  few = checked.few;
  every = λ low f says. checked.every low f (from f says);
}

append_none : (x : List Fault) → x ≡ x ++ []
append_none [] = refl
append_none (f ∷ x) = ap (λ l. f ∷ l) (append_none x)

pub adds_none : {A : Fault → Type 0} (x : List Fault) → ((f : Fault) → A f → ⊥) → Adds A x x
adds_none {A} x none = record {
  faults = [];
  are = append_none x;
  right = All-nil A;
  few = λ low. low;
  every = λ low f says. absurd (none f says);
}

full_false : (n : ℕ) → nat_le 50 n ≡ false → n < 50
full_false n e = leb-false 50 n e

full_true : (n : ℕ) → nat_le 50 n ≡ true → 50 ≤ n
full_true n e = leb-true 50 n e

-- one fault is noted, where there is room
pub adds_one : (fault : Fault) (x : List Fault) → Adds (λ f. f ≡ fault) x (noted fault x)
adds_one fault x = by (nat_le 50 (length x)) refl
  where
    by : (full : Bool) → nat_le 50 (length x) ≡ full → Adds (λ f. f ≡ fault) x (cond full x (x ++ fault ∷ []))
    by true e = record {
      faults = [];
      are = append_none x;
      right = All-nil (λ f. f ≡ fault);
      few = λ low. low;
      every = λ low f says. let high = full_true (length x) e in absurd (omega (arith, low, high));
    }
    by false e = record {
      faults = fault ∷ [];
      are = refl;
      right = All-cons (λ f. f ≡ fault) fault [] refl (All-nil (λ f. f ≡ fault));
      few = λ low.
          let below = full_false (length x) e in
          let size : length (x ++ fault ∷ []) ≡ length x + 1 = length-append x (fault ∷ []) in
          omega (arith, below, size);
      every = λ low f says. subst (Contains (fault ∷ [])) (sym says) (Contains-push [] fault);
    }

pub noted_some : (fault : Fault) (x : List Fault) → noted fault x ≡ [] → ⊥
noted_some fault [] e = absurd (cc)
noted_some fault (y ∷ x) e = by (nat_le 50 (length (y ∷ x))) e
  where
    by : (full : Bool) → cond full (y ∷ x) (y ∷ (x ++ fault ∷ [])) ≡ [] → ⊥
    by true e = cc
    by false e = cc

-- two looks look for both laws
pub judges_both : {S T : Fault → Type 0} {A B : Type 0} (x y z : Found) → Judges S A x y → Judges T B y z → Judges (λ f. S f ⊎ T f) (A × B) x z
judges_both x y z one two = record {
  reported = λ clean. let mid = two.reported clean in let first = one.reported mid.0 in (first.0, (first.1, mid.1));
  spared = λ clean laws. two.spared (one.spared clean laws.0) laws.1;
  adds = adds_both x.faults y.faults z.faults one.adds two.adds;
}

-- another law that holds just where this does
pub judges_as : {S : Fault → Type 0} {A B : Type 0} (x y : Found) → (A → B) → (B → A) → Judges S A x y → Judges S B x y
judges_as x y to from checked = record {
  reported = λ clean. let both = checked.reported clean in (both.0, to both.1);
  spared = λ clean law. checked.spared clean (from law);
  adds = checked.adds;
}

-- the same faults, said otherwise
pub judges_says : {S T : Fault → Type 0} {A : Type 0} (x y : Found) → ((f : Fault) → S f → T f) → ((f : Fault) → T f → S f) → Judges S A x y → Judges T A x y
judges_says x y to from checked = record { reported = checked.reported; spared = checked.spared; adds = adds_as x.faults y.faults to from checked.adds }

-- another law that holds just where this does, broken by the same fault
pub judges_law : {A B : Type 0} {fault : Fault} (x y : Found) → (A → B) → (B → A) → Judges (Breaks A fault) A x y → Judges (Breaks B fault) B x y
judges_law x y to from checked = judges_says x y (λ f says. (λ law. says.0 (from law), says.1)) (λ f says. (λ law. says.0 (to law), says.1)) (judges_as x y to from checked)

-- the same fault, named otherwise
pub judges_named : {A : Type 0} {fault other : Fault} (x y : Found) → fault ≡ other → Judges (Breaks A fault) A x y → Judges (Breaks A other) A x y
judges_named {A} x y same checked = subst (λ (f : Fault). Judges (Breaks A f) A x y) same checked

-- the law doesn't hold, and the one fault that tells it was noted
pub judges_this : {S : Fault → Type 0} {A : Type 0} (fault : Fault) (x y : Found) → ¬ A → y.faults ≡ noted fault x.faults → S fault → ((f : Fault) → S f → f ≡ fault) → Judges S A x y
judges_this {S} {A} fault x y broken is says only = record {
  reported = λ clean. absurd (noted_some fault x.faults (sym is ∙ clean));
  spared = λ clean law. absurd (broken law);
  adds = subst (Adds S x.faults) (sym is) (adds_as x.faults (noted fault x.faults) (λ f e. subst S (sym e) says) only (adds_one fault x.faults));
}

-- the law holds, and there is no fault to tell
pub judges_none : {S : Fault → Type 0} {A : Type 0} (x : Found) → A → ((f : Fault) → S f → ⊥) → Judges S A x x
judges_none x law none = record { reported = λ clean. (clean, law); spared = λ clean other. clean; adds = adds_none x.faults none }

-- what was added to nothing
pub all_reported : {S : Fault → Type 0} (old new : List Fault) → old ≡ [] → Adds S old new → AreReported S new
all_reported {S} old new empty checked =
    let are : new ≡ checked.faults = checked.are ∙ ap (λ l. l ++ checked.faults) empty in
    record {
      right = subst (All S) (sym are) checked.right;
      few = checked.few (subst (λ (l : List Fault). length l ≤ 50) (sym empty) (omega arith));
      every = λ low f says. subst (λ l. Contains l f) (sym are) (checked.every low f says);
    }

pub reported_adds : {S : Fault → Type 0} (faults : List Fault) → AreReported S faults → Adds S [] faults
reported_adds faults reported = record { faults = faults; are = refl; right = reported.right; few = λ low. reported.few; every = reported.every }

-- the law doesn't hold, and its fault was noted
pub judges_fault : {A : Type 0} {fault : Fault} (x y : Found) → ¬ A → y.faults ≡ noted fault x.faults → Judges (Breaks A fault) A x y
judges_fault {A} {fault} x y broken is = record {
  reported = λ clean. absurd (noted_some fault x.faults (sym is ∙ clean));
  spared = λ clean law. absurd (broken law);
  adds = subst (Adds (Breaks A fault) x.faults) (sym is) (adds_as x.faults (noted fault x.faults) (λ f e. (broken, e)) (λ f says. says.1) (adds_one fault x.faults));
}

-- the law holds, and nothing was noted
pub judges_right : {A : Type 0} {fault : Fault} (x : Found) → A → Judges (Breaks A fault) A x x
judges_right x law = record { reported = λ clean. (clean, law); spared = λ clean other. clean; adds = adds_none x.faults (λ f says. says.0 law) }

-- a law that is a test, of which this tells
pub judges_where : {x y : Found} {test law : Bool} {fault : Fault} → test ≡ law → Judges (Breaks (test ≡ true) fault) (test ≡ true) x y → Judges (Breaks (law ≡ true) fault) (law ≡ true) x y
judges_where {x} {y} same checked = judges_law x y (λ h. sym same ∙ h) (λ h. same ∙ h) checked
