-- What is asked of the fields of a head, asked of their spans.
use Rattle.std.proofs.Common.{◌≡◌, ℕ, ◌+◌, List, [], ◌∷◌, suc, Bool, true, false, cond, ◌||◌, Option, Some, None, option_map, unwrap_or, refl, sym, ap, ◌∙◌, arith, subst}
use Rattle.std.specs.Prelude.{All, count_by, find, fold}
use Rattle.std.specs.List.{list_any}
use Rattle.httparse.specs.declared.spans.HeaderSpan.{HeaderSpan}
use Rattle.httparse.specs.Spans.{span_bytes, header_bytes}
use Rattle.wire.specs.Fields.{is_named, stands_twice, value_of}
use Rattle.wire.specs.Inner.Spans.{fields_at}

module _ (head : List ℕ) (test : List ℕ × List ℕ → Bool) where
  pub any_at : (spans : List HeaderSpan) → list_any (λ span. test (header_bytes head span)) spans ≡ list_any test (fields_at head spans)
  any_at [] = refl
  any_at (span ∷ spans) = ap (λ b. test (header_bytes head span) || b) (any_at spans)

  count_from : (n : ℕ) (spans : List HeaderSpan) → fold (λ sum span. sum + cond (test (header_bytes head span)) 1 0) n spans ≡ fold (λ sum field. sum + cond (test field) 1 0) n (fields_at head spans)
  count_from n [] = refl
  count_from n (span ∷ spans) = count_from (n + cond (test (header_bytes head span)) 1 0) spans

  pub count_at : (spans : List HeaderSpan) → count_by (λ span. test (header_bytes head span)) spans ≡ count_by test (fields_at head spans)
  count_at spans = count_from 0 spans

  pub found_at : (spans : List HeaderSpan) → option_map (λ span. (header_bytes head span).1) (find (λ span. test (header_bytes head span)) spans) ≡ option_map (λ field. field.1) (find test (fields_at head spans))
  found_at [] = refl
  found_at (span ∷ spans) = by (test (header_bytes head span)) (found_at spans)
    where
      by : (b : Bool) → option_map (λ s. (header_bytes head s).1) (find (λ s. test (header_bytes head s)) spans) ≡ option_map (λ field. field.1) (find test (fields_at head spans))
          → option_map (λ s. (header_bytes head s).1) (cond b (Some span) (find (λ s. test (header_bytes head s)) spans)) ≡ option_map (λ field. field.1) (cond b (Some (header_bytes head span)) (find test (fields_at head spans)))
      by true rest = refl
      by false rest = rest

-- what is found is one of them
pub found_within : {T : Type 0} (P : T → Type 0) (test : T → Bool) (xs : List T) (x : T) → All P xs → find test xs ≡ Some x → P x
found_within P test [] x all is = absurd (cc)
found_within {T} P test (y ∷ xs) x all is = by (test y) is (found_within P test xs x (λ k d within. all (suc k) d (omega (arith, within))))
  where
    by : (b : Bool) → cond b (Some y) (find test xs) ≡ Some x → (find test xs ≡ Some x → P x) → P x
    by true same rest = subst P (ap (λ (o : Option T). unwrap_or o y) same) (all 0 y (omega arith))
    by false same rest = rest same

-- the value of the first span of a name, where there is no second
pub value_found : (head name : List ℕ) (spans : List HeaderSpan) (first : Option HeaderSpan) (twice : Bool) → twice ≡ stands_twice name (fields_at head spans) → twice ≡ false
    → first ≡ find (λ span. is_named name (header_bytes head span)) spans → option_map (λ (span : HeaderSpan). span_bytes head span.value) first ≡ value_of name (fields_at head spans)
value_found head name spans first twice is single found =
    ap (option_map (λ (span : HeaderSpan). span_bytes head span.value)) found ∙ found_at head (is_named name) spans
    ∙ ap (λ (b : Bool). cond b None (option_map (λ (field : List ℕ × List ℕ). field.1) (find (is_named name) (fields_at head spans)))) (sym (sym is ∙ single))
