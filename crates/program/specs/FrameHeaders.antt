-- The first line of a frame: a moment, and a request's length or an operator's command.
use Rattle.std.specs.Prelude.{ℕ, List, [], ◌∷◌, Option, None, cond, option_map, option_and_then, bytes_eq, codes}
use Rattle.basis.specs.Numbers.{whole_of, within}
use Rattle.serve.specs.declared.steps.Admin as Operator
use Rattle.serve.specs.Bounds.{moment_of}
use Rattle.serve.specs.Words.{org_add_of, org_limit_of, org_list_of, token_add_of, token_revoke_of}
use Rattle.program.specs.declared.frame_headers.FrameHeader.{FrameHeader}
use Rattle.program.specs.declared.frame_headers.FrameHeader.TheVariants.{Request, Command}

-- reads the length of a request: at most 20,000,000 bytes
abbrev pub length_of : List ℕ → Option ℕ
length_of word = option_and_then (within 0 20_000_000) (whole_of word)

-- an operator's command that a frame may have: its name, and its own words
abbrev pub command_of : List (List ℕ) → Option Operator.Admin
command_of [] = None
command_of (name ∷ words) =
    cond (bytes_eq name (codes "org-add")) (org_add_of words)
    (cond (bytes_eq name (codes "org-limit")) (org_limit_of words)
    (cond (bytes_eq name (codes "org-list")) (org_list_of words)
    (cond (bytes_eq name (codes "token-add")) (token_add_of words)
    (cond (bytes_eq name (codes "token-revoke")) (token_revoke_of words) None))))

-- a request at this time: `LEN`, the only word after `http`
abbrev pub request_at : ℕ → List (List ℕ) → Option FrameHeader
request_at at (word ∷ []) = option_map (λ len. Request at len) (length_of word)
request_at at words = None

-- a request's length after `http`, a command after `admin`
abbrev pub heading_at : ℕ → List ℕ → List (List ℕ) → Option FrameHeader
heading_at at kind words =
    cond (bytes_eq kind (codes "http")) (request_at at words)
    (cond (bytes_eq kind (codes "admin")) (option_map (λ command. Command at command) (command_of words)) None)

-- `at SECONDS http LEN` or `at SECONDS admin WORDS`
abbrev pub heading_of : List (List ℕ) → Option FrameHeader
heading_of (word ∷ seconds ∷ kind ∷ words) =
    cond (bytes_eq word (codes "at")) (option_and_then (λ at. heading_at at kind words) (moment_of seconds)) None
heading_of words = None
