-- How `serve` comes to listen, at one site and nowhere else.
use Rattle.std.specs.Prelude.{◌≡◌, ◌⊎◌, ℕ, List, [], ◌∷◌, Result, Ok, Err}
use Rattle.command_line.specs.Orders.{Site, at_port, at_socket, site_of}
use Rattle.command_line.specs.declared.addresses.Address.{Address}
use Rattle.program.specs.declared.environment.Connections as connections
use Rattle.program.specs.declared.environment.Standing.{Standing}
use Rattle.program.specs.declared.environment.Standing.TheVariants as standing
use Rattle.program.specs.declared.reasons.Cause.{Cause}
use Rattle.program.specs.declared.reasons.Cause.TheVariants as cause

-- the site of an address, if there is one
abbrev pub bound_site : Result Address Cause → Result Site Cause
bound_site (Ok address) = Ok (site_of address)
bound_site (Err why) = Err why

-- the sites that may be printed for one that is asked for: a port for a port, which the system may have chosen, and a socket for itself
abbrev pub IsGivenFor : Site → Site → Type 0
IsGivenFor (at_port port) site = (given : ℕ) × (site ≡ at_port given)
IsGivenFor (at_socket path) site = site ≡ at_socket path

-- 0660: the owner and the group of a socket may connect to it
abbrev pub owner_and_group : ℕ
owner_and_group = 432

module _ {N R W : Type 0} (n : connections.Ghosts N R W) where
  -- the socket at a path is removed, then one is made there, to which its owner and its group may connect; or it cannot be removed
  abbrev pub Replaces : List ℕ → N → Result (Unit {0}) Cause → N → Type 0
  Replaces path old result new =
      ((done : Unit {0}) × (mid : N) × n.removes old path (Ok done) mid × n.listens mid path owner_and_group result new)
      ⊎ ((why : Cause) × n.removes old path (Err why) new × (result ≡ Err why))

  -- by what was found at a path: a socket is made where nothing stands, and in place of one at which nobody answers. Otherwise nothing there is
  -- touched
  abbrev pub TakesAs : List ℕ → Result Standing Cause → N → Result (Unit {0}) Cause → N → Type 0
  TakesAs path (Ok standing.Nothing) old result new = n.listens old path owner_and_group result new
  TakesAs path (Ok standing.Silent) old result new = Replaces path old result new
  TakesAs path (Ok standing.Answered) old result new = (result ≡ Err cause.SocketTaken) × (new ≡ old)
  TakesAs path (Ok standing.Other) old result new = (result ≡ Err cause.NoSocket) × (new ≡ old)
  TakesAs path (Err why) old result new = (result ≡ Err why) × (new ≡ old)

  -- first it is found out what stands at a path
  abbrev pub Takes : List ℕ → N → Result (Unit {0}) Cause → N → Type 0
  Takes path old result new = (found : Result Standing Cause) × (mid : N) × n.looks old path found mid × TakesAs path found mid result new

  -- the network listens on 127.0.0.1 at a port, and this is the one that it gave; or at a socket; or it cannot listen
  abbrev pub AsksToListen : Site → N → Result Site Cause → N → Type 0
  AsksToListen (at_port port) old (Ok site) new = (given : ℕ) × (site ≡ at_port given) × n.binds old (127 ∷ 0 ∷ 0 ∷ 1 ∷ []) port (Ok given) new
  AsksToListen (at_port port) old (Err why) new = n.binds old (127 ∷ 0 ∷ 0 ∷ 1 ∷ []) port (Err why) new
  AsksToListen (at_socket path) old (Ok site) new = (done : Unit {0}) × (site ≡ at_socket path) × Takes path old (Ok done) new
  AsksToListen (at_socket path) old (Err why) new = Takes path old (Err why) new
