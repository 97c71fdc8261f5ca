-- The table of refusals: a number, a word and the status of HTTP for each.
use Rattle.std.specs.Prelude.{ℕ, List, codes}
use Rattle.basis.specs.declared.refusals.Allow.{Allow}
use Rattle.basis.specs.declared.refusals.Allow.TheVariants.{Lists, Workspaces, States, Runs, Actions}
use Rattle.basis.specs.declared.refusals.Refusal.{Refusal}
use Rattle.basis.specs.declared.refusals.Refusal.TheVariants.{BadMessage, TwoTokens, BadQuery, BadDigest, BadState, BadLock, BadBody, NoToken, BadToken, NeedWrite, NeedAdmin, NoRoute, NotFound, NoMethod, NotHeld, NotApplying, OtherLineage, OldSerial, WrongState, HeldByRun, OpenRuns, OverLimit, NoLength, TooLarge, Locked, HeadTooLarge, Unavailable, BadSecret, Exists, Absent, InUse}

-- a line of the table
pub record Line : Type 0 where
  pub number : ℕ
  pub word : List ℕ
  pub status : ℕ

abbrev pub line : ℕ → List ℕ → ℕ → Line
line number word status = record { number = number; word = word; status = status }

abbrev pub line_of : Refusal → Line
line_of BadMessage = line 1 (codes "bad-message") 400
line_of TwoTokens = line 2 (codes "two-tokens") 400
line_of BadQuery = line 3 (codes "bad-query") 400
line_of BadDigest = line 4 (codes "bad-digest") 400
line_of BadState = line 5 (codes "bad-state") 400
line_of BadLock = line 6 (codes "bad-lock") 400
line_of BadBody = line 7 (codes "bad-body") 400
line_of NoToken = line 8 (codes "no-token") 401
line_of BadToken = line 9 (codes "bad-token") 401
line_of NeedWrite = line 10 (codes "need-write") 403
line_of NeedAdmin = line 11 (codes "need-admin") 403
line_of NoRoute = line 12 (codes "no-route") 404
line_of NotFound = line 13 (codes "not-found") 404
line_of (NoMethod allow) = line 14 (codes "no-method") 405
line_of NotHeld = line 15 (codes "not-held") 409
line_of NotApplying = line 16 (codes "not-applying") 409
line_of OtherLineage = line 17 (codes "lineage") 409
line_of OldSerial = line 18 (codes "serial") 409
line_of WrongState = line 19 (codes "wrong-state") 409
line_of HeldByRun = line 20 (codes "held-by-run") 409
line_of OpenRuns = line 21 (codes "open-runs") 409
line_of OverLimit = line 22 (codes "limit") 409
line_of NoLength = line 23 (codes "no-length") 411
line_of TooLarge = line 24 (codes "too-large") 413
line_of Locked = line 25 (codes "locked") 423
line_of HeadTooLarge = line 26 (codes "head-too-large") 431
line_of Unavailable = line 27 (codes "down") 503
line_of BadSecret = line 28 (codes "bad-token") 401
line_of Exists = line 29 (codes "exists") 409
line_of Absent = line 30 (codes "absent") 404
line_of InUse = line 31 (codes "in-use") 409

-- the methods of a route, as the field Allow lists them (RFC 9110, section 10.2.1)
abbrev pub allow_text : Allow → List ℕ
allow_text Lists = codes "GET"
allow_text Workspaces = codes "DELETE, GET, PUT"
allow_text States = codes "DELETE, GET, LOCK, POST, PUT, UNLOCK"
allow_text Runs = codes "GET, POST"
allow_text Actions = codes "POST"
