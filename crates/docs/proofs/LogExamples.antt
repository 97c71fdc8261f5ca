-- Worked lines of the log, computed by the definitions themselves.
use Rattle.docs.proofs.Outside.{◌≡◌, ◌∷◌, [], true, false, Some, None, refl, digits, serde_json_on_literals}
use Rattle.std.specs.Prelude.{codes, ◌++◌, ⊤}
use Rattle.basis.specs.declared.acts.WsAct.TheVariants.{UpdateState}
use Rattle.docs.specs.declared.logs.LogAct.TheVariants.{OfWorkspace, OfOperator}
use Rattle.docs.specs.declared.logs.OperatorAct.TheVariants.{AddToken}
use Rattle.docs.specs.Escapes.{acting, code_of, unicode_escape, escaped_from}
use Rattle.docs.specs.Logs.{log_line}

unfoldable escapes : ⊤
unfolding acting code_of unicode_escape escaped_from
escapes = tt

-- a new state of `net`, posted by the token `ci` of `acme`
posted : log_line 7 (codes "kept") (record { act = Some (OfWorkspace UpdateState); at = 1_700_000_000; at_door = false; id = None; number = Some 3; operator = None; organization = Some (codes "acme"); refusal = None; run = None; status = Some 200; subject = None; token = Some (codes "ci"); version = Some 3; workspace = Some (codes "net") }) ≡ codes "{\"act\":\"update state\",\"at\":1700000000,\"connection\":7,\"end\":\"kept\",\"id\":null,\"number\":3,\"organization\":\"acme\",\"refusal\":null,\"run\":null,\"status\":200,\"token\":\"ci\",\"version\":3,\"workspace\":\"net\"}\n"
unfolding serde_json_on_literals digits escapes log_line
posted = refl

-- a message that broke off
unfinished : log_line 8 (codes "closed") (record { act = None; at = 1_700_000_060; at_door = false; id = None; number = None; operator = None; organization = None; refusal = None; run = None; status = None; subject = None; token = None; version = None; workspace = None }) ≡ codes "{\"act\":null,\"at\":1700000060,\"connection\":8,\"end\":\"closed\",\"id\":null,\"number\":null,\"organization\":null,\"refusal\":null,\"run\":null,\"status\":null,\"token\":null,\"version\":null,\"workspace\":null}\n"
unfolding serde_json_on_literals digits escapes log_line
unfinished = refl

-- a lock whose ID has U+009B, DEL, U+2028, U+202E and U+00E9, of which the last one stays
acting_id : log_line 9 (codes "ok") (record { act = None; at = 1_700_000_060; at_door = false; id = Some (194 ∷ 155 ∷ 127 ∷ 226 ∷ 128 ∷ 168 ∷ 226 ∷ 128 ∷ 174 ∷ 195 ∷ 169 ∷ []); number = None; operator = None; organization = None; refusal = None; run = None; status = None; subject = None; token = None; version = None; workspace = None }) ≡ codes "{\"act\":null,\"at\":1700000060,\"connection\":9,\"end\":\"ok\",\"id\":\"\\u009b\\u007f\\u2028\\u202e" ++ 195 ∷ 169 ∷ codes "\",\"number\":null,\"organization\":null,\"refusal\":null,\"run\":null,\"status\":null,\"token\":null,\"version\":null,\"workspace\":null}\n"
unfolding serde_json_on_literals digits escapes log_line
acting_id = refl

-- an operator adds the token `ci` of `acme`
token_added : log_line 10 (codes "ok") (record { act = Some (OfOperator AddToken); at = 1_700_000_060; at_door = true; id = None; number = None; operator = Some (codes "alice"); organization = Some (codes "acme"); refusal = None; run = None; status = Some 200; subject = Some (codes "ci"); token = None; version = None; workspace = None }) ≡ codes "{\"act\":\"add token\",\"at\":1700000060,\"connection\":10,\"end\":\"ok\",\"id\":null,\"number\":null,\"operator\":\"alice\",\"organization\":\"acme\",\"refusal\":null,\"run\":null,\"status\":200,\"subject\":\"ci\",\"token\":null,\"version\":null,\"workspace\":null}\n"
unfolding serde_json_on_literals digits escapes log_line
token_added = refl
