-- Connections one after the other.
use Rattle.std.proofs.Common.{◌≡◌, ◌∙◌, ◌+◌, ◌++◌, ◌∷◌, [], List, ℕ, Bool, true, false, suc, length, refl, subst, arith, ap}
use Rattle.std.proofs.lemmas.List.{length_push}
use Rattle.machine.specs.StoreCalls.{Lasts}
use Rattle.machine.specs.declared.keeps.Keep as keep
use Rattle.wire.specs.declared.devices.Inlet as inlet
use Rattle.wire.specs.declared.devices.Outlet as outlet
use Rattle.program.specs.declared.environment.Connections as connections
use Rattle.program.specs.declared.environment.Files as files
use Rattle.program.specs.declared.environment.Clock as clock
use Rattle.program.specs.declared.serving.Terms.{Terms}
use Rattle.program.specs.Serving.{State, AfterReply, AnswersNext, AnswersAll}

-- what is so once the store was tended
module _ {K F : Type 0} (k : keep.Ghosts K) (f : files.Ghosts F K) where
  pub after_reply_lasts : (is_down : Bool) (old : K) (is_shut : Bool) (new : K) → AfterReply k f is_down old is_shut new → Lasts k.clean k.sound k.keyed k.shielded old new
  after_reply_lasts true old is_shut new after_reply = let unchanged = after_reply.2 in record { so_far = unchanged.so_far; kept = unchanged.kept; keys = unchanged.keys; shield = unchanged.shield }
  after_reply_lasts false old is_shut new after_reply = let checkpointed = after_reply.2 in record { so_far = checkpointed.so_far; kept = checkpointed.kept; keys = checkpointed.keys; shield = checkpointed.shield }

  pub after_reply_rows : (is_down : Bool) (old : K) (is_shut : Bool) (new : K) → AfterReply k f is_down old is_shut new → k.clean new → k.sound old → k.rows new ≡ k.rows old
  after_reply_rows true old is_shut new after_reply clean sound = λ i org. after_reply.2.same clean org i
  after_reply_rows false old is_shut new after_reply clean sound = λ i org. after_reply.2.same clean sound org i

-- one connection more behind those that were answered
module _ {K F N C R W : Type 0} (k : keep.Ghosts K) (f : files.Ghosts F K) (n : connections.Ghosts N R W) (c : clock.Ghosts C) (i : inlet.Ghosts R) (o : outlet.Ghosts W) where
  pub answers_more : (terms : Terms) (from connection : ℕ) (moments : List ℕ) (at : ℕ) (old mid new : State N C K)
      → connection ≡ from + length moments → AnswersAll k f n c i o terms from moments old mid → AnswersNext k f n c i o terms connection at false false true mid new → AnswersAll k f n c i o terms from (moments ++ at ∷ []) old new
  answers_more terms from connection [] at old mid new is so_far one =
      let first : connection ≡ from = omega arith in
      (new, subst (λ (s : State N C K). AnswersNext k f n c i o terms from at false false true s new) so_far (subst (λ (p : ℕ). AnswersNext k f n c i o terms p at false false true mid new) first one), refl)
  answers_more terms from connection (m ∷ moments) at old mid new is so_far one =
      let further : connection ≡ suc from + length moments = omega arith in
      (so_far.0, so_far.1, answers_more terms (suc from) connection moments at so_far.0 mid new further so_far.2 one)

pub one_more : (moments : List ℕ) (at count : ℕ) → length moments ≡ count → length (moments ++ at ∷ []) ≡ count + 1
one_more moments at count is = length_push moments at ∙ ap (λ n. n + 1) is
