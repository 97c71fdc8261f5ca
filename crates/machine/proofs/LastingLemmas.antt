-- Calls of a store one after the other.
use Rattle.std.proofs.Common.{ℕ, List, Option}
use Rattle.machine.specs.StoreCalls.{Unchanged, Lasts, LastsWhere}
use Rattle.machine.specs.declared.records.Organization.{Organization}

module _ {S : Type 0} {clean sound keyed shielded : S → Type 0} where
  -- no call
  pub lasts_still : (a : S) → Lasts clean sound keyed shielded a a
  lasts_still a = record { so_far = λ is. is; kept = λ is was. was; keys = λ is was had. had; shield = λ is. is }

  -- a call, and another behind it
  pub lasts_then : (a b c : S) → Lasts clean sound keyed shielded a b → Lasts clean sound keyed shielded b c → Lasts clean sound keyed shielded a c
  lasts_then a b c first next = record {
    so_far = λ is. first.so_far (next.so_far is);
    kept = λ is was. next.kept is (first.kept (next.so_far is) was);
    keys = λ is was had. next.keys is (first.kept (next.so_far is) was) (first.keys (next.so_far is) was had);
    shield = λ is. next.shield (first.shield is);
  }

  module _ {rows : S → List ℕ → Option Organization} where
    -- a query, and behind it a call that is due
    pub lasts_behind : {due : Type 0} (a b c : S) → Unchanged rows clean sound keyed shielded a b → LastsWhere due clean sound keyed shielded b c → (clean b → sound a → due) → Lasts clean sound keyed shielded a c
    lasts_behind a b c query made is_due = record {
      so_far = λ is. query.so_far (made.so_far is);
      kept = λ is was. made.kept is (query.kept (made.so_far is) was) (is_due (made.so_far is) was);
      keys = λ is was had. made.keys is (query.kept (made.so_far is) was) (query.keys (made.so_far is) was had);
      shield = λ is. made.shield (query.shield is);
    }
