-- Contracts between functions: what is put into the text that a writer makes, token by token.
use Rattle.std.specs.Prelude.{◌≡◌, ℕ, List, [], ◌∷◌, ◌++◌}
use Rattle.json.specs.Print.{print}
use Rattle.json.specs.Token.{Token, begin_object, end_object}
use Rattle.json.specs.Tree.{json_tokens, items_tokens, members_tokens}
use Rattle.json.specs.Written.{Written}
use Rattle.serde_json.specs.Data.{Data, Items, Members, object, member, no_members}
use Rattle.serde_json.specs.Written.{compact_text, outline, items_outline, members_outline}

-- the tokens of a writer, once these members follow and the brace behind them
abbrev pub then_members : Written → Members → List Token
then_members written rest = written.tokens ++ members_tokens (members_outline rest)

-- members are put, whatever follows them
pub record Puts (old new : Written) (put : Members → Members) : Type 0 where
  pub before : new.before ≡ old.before
  pub tokens : (rest : Members) → then_members new rest ≡ then_members old (put rest)

-- one member more, as tokens
unfoldable pub with_member : List Token → List ℕ → Data → List Token
with_member tokens name value = tokens ++ Token.key name ∷ json_tokens (outline value)

-- more members, one behind another
abbrev pub with_members : List Token → Members → List Token
with_members tokens no_members = tokens
with_members tokens (member name value ms) = with_members (with_member tokens name value) ms

-- members with others behind them
abbrev pub ahead : Members → Members → Members
ahead no_members rest = rest
ahead (member key value ms) rest = member key value (ahead ms rest)

-- a value is put whole
pub record PutsValue (old new : Written) (value : Data) : Type 0 where
  pub before : new.before ≡ old.before
  pub tokens : new.tokens ≡ old.tokens ++ json_tokens (outline value)

-- the tokens of a writer, once these items follow and the bracket behind them
abbrev pub then_items : Written → Items → List Token
then_items written rest = written.tokens ++ items_tokens (items_outline rest)

-- of these items the first ones are put, and those are left
pub record PutsItems (old new : Written) (items left : Items) : Type 0 where
  pub before : new.before ≡ old.before
  pub tokens : then_items new left ≡ then_items old items

-- a text is begun: it is a brace
pub record IsBegun (written : Written) : Type 0 where
  pub before : written.before ≡ []
  pub tokens : written.tokens ≡ begin_object ∷ []

-- the text of a writer, with the brace that ends it
abbrev pub text_of : Written → List ℕ
text_of written = written.before ++ print (written.tokens ++ end_object ∷ [])

-- the text of the object that has these members
unfoldable pub object_text : Members → List ℕ
object_text members = compact_text (object members)
