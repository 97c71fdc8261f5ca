-- Peers in memory: who is accepted, and where they connect to.
use Rattle.std.specs.Prelude.{◌≡◌, ℕ, List, [], ◌∷◌, Option, Some, None, Result, Ok, Err}
use Rattle.std.specs.Borrow.{Bor}
use Rattle.std.specs.Net.Addr.{ipv4_octets}
use Rattle.std.specs.declared.net.ipv4_addr.Ipv4Addr.{Ipv4Addr}
use Rattle.basis.specs.declared.memory.Down.{Down}
use Rattle.wire.specs.declared.devices.Inlet as inlet
use Rattle.wire.specs.declared.devices.Outlet as outlet

-- an address of these octets, and this port
abbrev pub IsBound : Option (Ipv4Addr × ℕ) → List ℕ → ℕ → Type 0
IsBound (Some bound) address port = (ipv4_octets bound.0 ≡ address) × (bound.1 ≡ port)
IsBound None address port = ⊥

-- the first of those that wait is accepted, all that it has sent to be read and nothing written yet; none where none waits
abbrev pub AcceptsNext : {R W : Type 0} → inlet.Ghosts R → outlet.Ghosts W → List (Bor (List ℕ)) → Result (R × W) Down → List (Bor (List ℕ)) → Type 0
AcceptsNext i o [] (Ok sides) rest = ⊥
AcceptsNext i o [] (Err refused) rest = rest ≡ []
AcceptsNext i o (sent ∷ waiting) (Ok sides) rest = (i.left sides.0 ≡ Some sent.now) × (o.written sides.1 ≡ Some []) × (rest ≡ waiting)
AcceptsNext i o (sent ∷ waiting) (Err refused) rest = ⊥
