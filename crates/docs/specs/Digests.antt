-- The field Content-MD5 (RFC 1864).
use Rattle.std.specs.Prelude.{ℕ, List, Bool}
use Rattle.std.specs.Str.{bytes_eq}
use Rattle.md5.specs.Md5.{md5}
use Rattle.base64.specs.Engines.{standard}
use Rattle.base64.specs.GeneralPurpose.{encode_of}

-- the base64 text of the MD5 of a body
unfoldable pub content_md5_text : List ℕ → List ℕ
content_md5_text body = encode_of standard (md5 body)

-- the field is that text
abbrev pub digest_fits : List ℕ → List ℕ → Bool
digest_fits field body = bytes_eq field (content_md5_text body)
