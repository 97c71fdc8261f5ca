-- The secret of a new token, on standard input.
use Rattle.std.specs.Prelude.{ℕ, List, Option, Some, None, cond, option_and_then}
use Rattle.basis.specs.Names.{is_secret}
use Rattle.serve.specs.Lines.{only_line}
use Rattle.serve.specs.Words.{text_of}

-- a text, if it is a secret
abbrev pub if_secret : List ℕ → Option (List ℕ)
if_secret text = cond (is_secret text) (Some text) None

-- the secret: the only line, if it is a secret
abbrev pub secret_in : List ℕ → Option (List ℕ)
secret_in bytes = option_and_then (λ line. option_and_then if_secret (text_of line)) (only_line bytes)
