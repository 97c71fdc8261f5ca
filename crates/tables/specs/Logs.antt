-- What counts as written into the WAL, and what a checkpoint leaves of this count.
use Rattle.std.specs.Prelude.{◌≡◌, ◌<◌, ◌≤◌, ℕ, length}
use Rattle.machine.specs.declared.acts.Edit.{Edit}
use Rattle.machine.specs.declared.acts.Edit.TheVariants.{AddVersion}
use Rattle.tables.specs.declared.store.TheConstants.{LONG_LOG}

-- the number of bytes that an edit counts for: those of the text that it writes
abbrev pub text_bytes : Edit → ℕ
text_bytes (AddVersion version outgoing) = length version.text
text_bytes other = 0

-- If fewer than `LONG_LOG` bytes count as written, the store is unchanged. Otherwise none count afterwards. This says neither that the WAL
-- was copied into the file, nor that the store refused.
pub record CopiesLog {K : Type 0} (logged left : ℕ) (old new : K) : Type 0 where
  pub short : logged < LONG_LOG → new ≡ old
  pub long : LONG_LOG ≤ logged → left ≡ 0
