use Rattle.std.proofs.Common.{◌≡◌, ℕ, List, Bool, true, false, cond, Some, None, Result, Ok, Err, Bor, option_map, refl, ap}
use Rattle.std.specs.Result.{MatchResult, result_ok}
use Rattle.std.specs.Str.{IsUtf8}
use Rattle.std.proofs.lemmas.Str.{is_utf8-from_IsUtf8, IsUtf8-from_is_utf8}
use Rattle.serve.specs.Words.{text_of}
use Rattle.serve.proofs.words.read_text.Goals as goal

none_chosen : (b : Bool) (line : List ℕ) → (b ≡ true → ⊥) → None ≡ cond b (Some line) None
none_chosen true line h = absurd (h refl)
none_chosen false line h = refl

text_read : {E : Type 0} (line : List ℕ) (P : E → Type 0) (r : Result (Bor (List ℕ)) E) → MatchResult r (λ s. (s.now ≡ line) × IsUtf8 line) (λ e. ¬ (IsUtf8 line) × P e) → option_map (λ (text : Bor (List ℕ)). text.now) (result_ok r) ≡ text_of line
text_read line P (Ok s) h = rw (is_utf8-from_IsUtf8 line h.1) (ap Some h.0)
text_read line P (Err e) h = none_chosen _ line (λ is. h.0 (IsUtf8-from_is_utf8 line is))

pub returns : goal.returns
returns c = rw c.ok.ensures.value (text_read c.args.line.now _ c.from_utf8.result c.from_utf8.ensures.cases)
