-- One request with two targets: two strings of bytes that are one head, as the grammar prints it, but for its target, and the same bytes behind it.
use Rattle.std.specs.Prelude.{◌≡◌, ◌≤◌, ℕ, List, length, ◌++◌, Bool, Some}
use Rattle.httparse.specs.Grammar.{RequestHead, IsRequestHead, print_request}
use Rattle.wire.specs.declared.heads.TheConstants.{MAX_HEAD}
use Rattle.wire.specs.declared.messages.Message.{Message}
use Rattle.wire.specs.Messages.{Reads, whole}
use Rattle.wire.specs.Targets.{origin_of, path_of, query_of}

-- both heads are of the grammar, and have at most as many bytes as a head may have
pub record SameButTarget (bytes other target aim : List ℕ) : Type 0 where
  pub head : RequestHead
  pub behind : List ℕ
  pub target_is : head.target ≡ target
  pub is_head : IsRequestHead head
  pub is_other : IsRequestHead (record head { target = aim })
  pub first : bytes ≡ print_request head ++ behind
  pub second : other ≡ print_request (record head { target = aim }) ++ behind
  pub first_size : length (print_request head) ≤ MAX_HEAD
  pub second_size : length (print_request (record head { target = aim })) ≤ MAX_HEAD

-- where the first is a message, the second is the same message with the path and the query of the other target
abbrev pub RetargetedReads : Type 0
RetargetedReads = (bytes other target aim from to : List ℕ) (message : Message) (awaited : Bool)
    → SameButTarget bytes other target aim → origin_of target ≡ Some from → origin_of aim ≡ Some to → Reads bytes (whole message awaited)
    → (message.path ≡ path_of from) × (message.query ≡ query_of from) × Reads other (whole (record message { path = path_of to; query = query_of to }) awaited)
