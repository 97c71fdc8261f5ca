-- Worked bodies, computed by the definitions themselves.
use Rattle.docs.proofs.Outside.{◌≡◌, [], ◌∷◌, Some, None, true, false, refl, digits, serde_json_on_literals, run_id}
use Rattle.std.specs.Prelude.{codes}
use Rattle.basis.specs.declared.refusals.Refusal.TheVariants.{NoToken, Unavailable}
use Rattle.basis.specs.declared.rows.HolderId.TheVariants.{Lock, Run}
use Rattle.basis.specs.declared.runs.RunStatus.TheVariants.{Planning}
use Rattle.docs.specs.Bodies.{error_text, ws_text, run_text, run_holder_text, ws_list_text, version_list_text, run_list_text}

refused : error_text NoToken ≡ codes "{\"error\":\"no-token\"}"
unfolding serde_json_on_literals digits run_id error_text ws_text run_text run_holder_text ws_list_text version_list_text run_list_text
refused = refl

down : error_text Unavailable ≡ codes "{\"error\":\"down\"}"
unfolding serde_json_on_literals digits run_id error_text ws_text run_text run_holder_text ws_list_text version_list_text run_list_text
down = refl

new_workspace : ws_text (record { settings = record { runs = record { auto_apply = false }; retention = 100 }; holder = None; name = codes "net"; version = None }) ≡ codes "{\"auto_apply\":false,\"holder\":null,\"keep_versions\":100,\"name\":\"net\",\"version\":null}"
unfolding serde_json_on_literals digits run_id error_text ws_text run_text run_holder_text ws_list_text version_list_text run_list_text
new_workspace = refl

locked_workspace : ws_text (record { settings = record { runs = record { auto_apply = true }; retention = 5 }; holder = Some (Lock (codes "x1")); name = codes "net"; version = Some 12 }) ≡ codes "{\"auto_apply\":true,\"holder\":\"x1\",\"keep_versions\":5,\"name\":\"net\",\"version\":12}"
unfolding serde_json_on_literals digits run_id error_text ws_text run_text run_holder_text ws_list_text version_list_text run_list_text
locked_workspace = refl

running_workspace : ws_text (record { settings = record { runs = record { auto_apply = false }; retention = 100 }; holder = Some (Run 30); name = codes "net"; version = None }) ≡ codes "{\"auto_apply\":false,\"holder\":\"run-30\",\"keep_versions\":100,\"name\":\"net\",\"version\":null}"
unfolding serde_json_on_literals digits run_id error_text ws_text run_text run_holder_text ws_list_text version_list_text run_list_text
running_workspace = refl

-- a run of the greatest number holds
held_by_the_greatest : ws_text (record { settings = record { runs = record { auto_apply = false }; retention = 100 }; holder = Some (Run 1_000_000_000); name = codes "net"; version = Some 7 }) ≡ codes "{\"auto_apply\":false,\"holder\":\"run-1000000000\",\"keep_versions\":100,\"name\":\"net\",\"version\":7}"
unfolding serde_json_on_literals digits run_id error_text ws_text run_text run_holder_text ws_list_text version_list_text run_list_text
held_by_the_greatest = refl

run : run_text (record { action = None; created = 1_700_000_000; key = None; message = []; number = 3; plan_only = false; status = Planning }) ≡ codes "{\"action\":null,\"created\":1700000000,\"key\":null,\"message\":\"\",\"number\":3,\"plan_only\":false,\"status\":\"planning\"}"
unfolding serde_json_on_literals digits run_id error_text ws_text run_text run_holder_text ws_list_text version_list_text run_list_text
run = refl

run_holder : run_holder_text (codes "acme") (codes "net") 1 ≡ codes "{\"ID\":\"run-1\",\"Info\":\"\",\"Operation\":\"run\",\"Path\":\"net\",\"Version\":\"\",\"Who\":\"acme\"}"
unfolding serde_json_on_literals digits run_id error_text ws_text run_text run_holder_text ws_list_text version_list_text run_list_text
run_holder = refl

empty_list : ws_list_text (record { items = []; more = false }) ≡ codes "{\"items\":[],\"more\":false}"
unfolding serde_json_on_literals digits run_id error_text ws_text run_text run_holder_text ws_list_text version_list_text run_list_text
empty_list = refl

versions : version_list_text (record { items = record { created = 1_700_000_000; lineage = codes "a1"; number = 102; serial = 1; size = 39 } ∷ []; more = false }) ≡ codes "{\"items\":[{\"created\":1700000000,\"lineage\":\"a1\",\"number\":102,\"serial\":1,\"size\":39}],\"more\":false}"
unfolding serde_json_on_literals digits run_id error_text ws_text run_text run_holder_text ws_list_text version_list_text run_list_text
versions = refl

runs : run_list_text (record { items = record { action = None; created = 1_700_000_000; key = None; message = []; number = 1; plan_only = false; status = Planning } ∷ record { action = None; created = 1_700_000_000; key = None; message = []; number = 2; plan_only = false; status = Planning } ∷ []; more = true }) ≡ codes "{\"items\":[{\"action\":null,\"created\":1700000000,\"key\":null,\"message\":\"\",\"number\":1,\"plan_only\":false,\"status\":\"planning\"},{\"action\":null,\"created\":1700000000,\"key\":null,\"message\":\"\",\"number\":2,\"plan_only\":false,\"status\":\"planning\"}],\"more\":true}"
unfolding serde_json_on_literals digits run_id error_text ws_text run_text run_holder_text ws_list_text version_list_text run_list_text
runs = refl
