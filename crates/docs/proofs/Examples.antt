-- Worked documents, computed by the definitions themselves.
use Rattle.docs.proofs.Outside.{◌≡◌, [], ◌∷◌, ◌++◌, Some, None, true, false, refl, chars, is_utf8, serde_json_on_literals}
use Rattle.std.specs.Prelude.{codes}
use Rattle.docs.specs.Documents.{state_head, make_head, lock_id_of, settings_of, make_settings, run_ask, make_ask}
use Rattle.docs.specs.RunSettings.{make_run_settings}

first_state : state_head (codes "{\"version\":4,\"serial\":1,\"lineage\":\"a1\"}") ≡ Some (make_head 1 (codes "a1"))
unfolding serde_json_on_literals chars is_utf8 state_head lock_id_of settings_of run_ask
first_state = refl

no_lineage : state_head (codes "{\"serial\":2}") ≡ Some (make_head 2 [])
unfolding serde_json_on_literals chars is_utf8 state_head lock_id_of settings_of run_ask
no_lineage = refl

no_serial : state_head (codes "{\"lineage\":\"a1\"}") ≡ None
unfolding serde_json_on_literals chars is_utf8 state_head lock_id_of settings_of run_ask
no_serial = refl

fraction : state_head (codes "{\"serial\":3.0}") ≡ None
unfolding serde_json_on_literals chars is_utf8 state_head lock_id_of settings_of run_ask
fraction = refl

exponent : state_head (codes "{\"serial\":1e0}") ≡ None
unfolding serde_json_on_literals chars is_utf8 state_head lock_id_of settings_of run_ask
exponent = refl

zero_serial : state_head (codes "{\"serial\":0}") ≡ Some (make_head 0 [])
unfolding serde_json_on_literals chars is_utf8 state_head lock_id_of settings_of run_ask
zero_serial = refl

minus_zero : state_head (codes "{\"serial\":-0}") ≡ None
unfolding serde_json_on_literals chars is_utf8 state_head lock_id_of settings_of run_ask
minus_zero = refl

negative_serial : state_head (codes "{\"serial\":-1}") ≡ None
unfolding serde_json_on_literals chars is_utf8 state_head lock_id_of settings_of run_ask
negative_serial = refl

greatest_serial : state_head (codes "{\"serial\":9223372036854775807}") ≡ Some (make_head 9_223_372_036_854_775_807 [])
unfolding serde_json_on_literals chars is_utf8 state_head lock_id_of settings_of run_ask
greatest_serial = refl

past_the_greatest : state_head (codes "{\"serial\":9223372036854775808}") ≡ None
unfolding serde_json_on_literals chars is_utf8 state_head lock_id_of settings_of run_ask
past_the_greatest = refl

-- the last one stays
serial_twice : state_head (codes "{\"serial\":1,\"serial\":2}") ≡ Some (make_head 2 [])
unfolding serde_json_on_literals chars is_utf8 state_head lock_id_of settings_of run_ask
serial_twice = refl

lineage_is_a_number : state_head (codes "{\"serial\":1,\"lineage\":5}") ≡ None
unfolding serde_json_on_literals chars is_utf8 state_head lock_id_of settings_of run_ask
lineage_is_a_number = refl

lineage_is_null : state_head (codes "{\"serial\":1,\"lineage\":null}") ≡ None
unfolding serde_json_on_literals chars is_utf8 state_head lock_id_of settings_of run_ask
lineage_is_null = refl

a_list : state_head (codes "[]") ≡ None
unfolding serde_json_on_literals chars is_utf8 state_head lock_id_of settings_of run_ask
a_list = refl

no_bytes : state_head [] ≡ None
unfolding serde_json_on_literals chars is_utf8 state_head lock_id_of settings_of run_ask
no_bytes = refl

-- a byte that is no UTF-8 stands in a text that isn't looked at
no_utf8 : state_head (codes "{\"serial\":1,\"x\":\"" ++ 255 ∷ codes "\"}") ≡ None
unfolding serde_json_on_literals chars is_utf8 state_head lock_id_of settings_of run_ask
no_utf8 = refl

lock : lock_id_of (codes "{ \"ID\": \"x1\" }") ≡ Some (codes "x1")
unfolding serde_json_on_literals chars is_utf8 state_head lock_id_of settings_of run_ask
lock = refl

lock_like_a_run : lock_id_of (codes "{\"ID\":\"run-7\"}") ≡ None
unfolding serde_json_on_literals chars is_utf8 state_head lock_id_of settings_of run_ask
lock_like_a_run = refl

empty_id : lock_id_of (codes "{\"ID\":\"\"}") ≡ None
unfolding serde_json_on_literals chars is_utf8 state_head lock_id_of settings_of run_ask
empty_id = refl

no_id : lock_id_of (codes "{\"id\":\"x1\"}") ≡ None
unfolding serde_json_on_literals chars is_utf8 state_head lock_id_of settings_of run_ask
no_id = refl

no_settings : settings_of [] ≡ Some (make_settings (make_run_settings false) None)
unfolding serde_json_on_literals chars is_utf8 state_head lock_id_of settings_of run_ask
no_settings = refl

settings : settings_of (codes "{\"auto_apply\":true,\"x\":2}") ≡ Some (make_settings (make_run_settings true) None)
unfolding serde_json_on_literals chars is_utf8 state_head lock_id_of settings_of run_ask
settings = refl

empty_settings : settings_of (codes "{}") ≡ Some (make_settings (make_run_settings false) None)
unfolding serde_json_on_literals chars is_utf8 state_head lock_id_of settings_of run_ask
empty_settings = refl

settings_of_a_list : settings_of (codes "[]") ≡ None
unfolding serde_json_on_literals chars is_utf8 state_head lock_id_of settings_of run_ask
settings_of_a_list = refl

flag_is_a_number : settings_of (codes "{\"auto_apply\":1}") ≡ None
unfolding serde_json_on_literals chars is_utf8 state_head lock_id_of settings_of run_ask
flag_is_a_number = refl

kept : settings_of (codes "{\"keep_versions\":2}") ≡ Some (make_settings (make_run_settings false) (Some 2))
unfolding serde_json_on_literals chars is_utf8 state_head lock_id_of settings_of run_ask
kept = refl

kept_at_most : settings_of (codes "{\"keep_versions\":1000}") ≡ Some (make_settings (make_run_settings false) (Some 1_000))
unfolding serde_json_on_literals chars is_utf8 state_head lock_id_of settings_of run_ask
kept_at_most = refl

none_kept : settings_of (codes "{\"keep_versions\":0}") ≡ None
unfolding serde_json_on_literals chars is_utf8 state_head lock_id_of settings_of run_ask
none_kept = refl

too_many_kept : settings_of (codes "{\"keep_versions\":1001}") ≡ None
unfolding serde_json_on_literals chars is_utf8 state_head lock_id_of settings_of run_ask
too_many_kept = refl

fraction_kept : settings_of (codes "{\"keep_versions\":2.0}") ≡ None
unfolding serde_json_on_literals chars is_utf8 state_head lock_id_of settings_of run_ask
fraction_kept = refl

exponent_kept : settings_of (codes "{\"keep_versions\":1e0}") ≡ None
unfolding serde_json_on_literals chars is_utf8 state_head lock_id_of settings_of run_ask
exponent_kept = refl

kept_is_null : settings_of (codes "{\"keep_versions\":null}") ≡ None
unfolding serde_json_on_literals chars is_utf8 state_head lock_id_of settings_of run_ask
kept_is_null = refl

a_space : settings_of (codes " ") ≡ None
unfolding serde_json_on_literals chars is_utf8 state_head lock_id_of settings_of run_ask
a_space = refl

byte_order_mark : state_head (239 ∷ 187 ∷ 191 ∷ codes "{\"serial\":1}") ≡ None
unfolding serde_json_on_literals chars is_utf8 state_head lock_id_of settings_of run_ask
byte_order_mark = refl

lone_surrogate : state_head (codes "{\"serial\":1,\"x\":\"\\ud800\"}") ≡ None
unfolding serde_json_on_literals chars is_utf8 state_head lock_id_of settings_of run_ask
lone_surrogate = refl

-- a number that no float holds, though it is not looked at
large_float : state_head (codes "{\"serial\":1,\"x\":1e400}") ≡ None
unfolding serde_json_on_literals chars is_utf8 state_head lock_id_of settings_of run_ask
large_float = refl

run_of_no_bytes : run_ask [] ≡ Some (make_ask None [] false)
unfolding serde_json_on_literals chars is_utf8 state_head lock_id_of settings_of run_ask
run_of_no_bytes = refl

keyed_run : run_ask (codes "{\"key\":\"k1\",\"message\":\"m\",\"plan_only\":true}") ≡ Some (make_ask (Some (codes "k1")) (codes "m") true)
unfolding serde_json_on_literals chars is_utf8 state_head lock_id_of settings_of run_ask
keyed_run = refl

empty_key : run_ask (codes "{\"key\":\"\"}") ≡ None
unfolding serde_json_on_literals chars is_utf8 state_head lock_id_of settings_of run_ask
empty_key = refl

key_is_null : run_ask (codes "{\"key\":null}") ≡ None
unfolding serde_json_on_literals chars is_utf8 state_head lock_id_of settings_of run_ask
key_is_null = refl
