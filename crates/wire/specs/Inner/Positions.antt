-- Where the reading of a head stands between two reads, and what is still to come from there.
use Rattle.std.specs.Prelude.{◌≡◌, ℕ, ◌+◌, ◌≤◌, suc, List, length, if◌then◌else◌, false, Option, Some, None, option_map, is_some, ⊤}
use Rattle.std.specs.Io.KnownBytes.{IsAtEnd}
use Rattle.std.specs.Prelude.{Result, Ok, Err}
use Rattle.wire.specs.declared.heads.HeadPosition.{HeadPosition}
use Rattle.wire.specs.declared.heads.HeadPosition.TheVariants.{Blank, Text, Feed, FeedReturn}
use Rattle.wire.specs.declared.heads.ReceivedHead.{ReceivedHead}
use Rattle.wire.specs.declared.messages.WireFault.{WireFault}
use Rattle.wire.specs.declared.messages.WireFault.TheVariants.{Ended, Read, Continue, Refused, Down}
use Rattle.basis.specs.declared.refusals.Refusal.TheVariants.{HeadTooLarge}
use Rattle.wire.specs.Heads.{head_len, text_len, empty_line, has_feed, head_end_of, Unfinished, Long, Whole}

-- how many bytes stand up to the head's end, from each position
abbrev pub len_from : HeadPosition → List ℕ → Option ℕ
len_from Blank bytes = head_len bytes
len_from Text bytes = text_len bytes
len_from Feed bytes = if is_some (empty_line bytes) then empty_line bytes else text_len bytes
len_from FeedReturn bytes = if has_feed bytes then Some 1 else text_len bytes

-- the same after one byte more: the head has ended with it, or a position follows
abbrev pub len_after : Option HeadPosition → List ℕ → Option ℕ
len_after None bytes = Some 1
len_after (Some position) bytes = option_map suc (len_from position bytes)

-- the same after a piece: the head has ended in it, or a position follows
abbrev pub len_past : Option ℕ → ℕ → HeadPosition → List ℕ → Option ℕ
len_past (Some n) len position more = Some n
len_past None len position more = option_map (λ n. len + n) (len_from position more)

-- what the reading of a head reports, by the bytes received and those left
abbrev pub Finds : List ℕ → Option (List ℕ) → Result ReceivedHead WireFault → Type 0
Finds received left (Ok head) = (head.bytes ≡ received) × (head_end_of received ≡ Whole head.len) × (head.len ≤ length received)
Finds received left (Err (Refused refusal is_head)) = (refusal ≡ HeadTooLarge) × (is_head ≡ false) × (head_end_of received ≡ Long)
Finds received left (Err Ended) = (head_end_of received ≡ Unfinished) × IsAtEnd left
Finds received left (Err Read) = head_end_of received ≡ Unfinished
Finds received left (Err Continue) = ⊥
Finds received left (Err Down) = ⊤
