-- When a list of entries is a history of some clients' calls: each client's entries are numbered 1, 2
-- and so on, and their calls are that client's calls, each once and in order; there are no others.
use Rattle.std.specs.Prelude.{◌≡◌, ℕ, ◌+◌, ◌<◌, ◌≤◌, ◌==◌, List, [], ◌∷◌, length, map, filter, slice_index_or}
use Rattle.pc_model.specs.declared.call.Call.{Call}
use Rattle.pc_model.specs.declared.call.Entry.{Entry}

-- the entries of one client
abbrev pub entries_of : ℕ → List Entry → List Entry
entries_of client es = filter (λ e. e.pass == client) es

abbrev pub calls_of : List Entry → List Call
calls_of es = map (λ e. e.call) es

-- the numbers of the entries are these, one after another
abbrev pub IsNumberedFrom : ℕ → List Entry → Type 0
IsNumberedFrom n [] = Unit {0}
IsNumberedFrom n (e ∷ es) = (e.number ≡ n) × IsNumberedFrom (n + 1) es

-- every entry is of this client
abbrev pub AllOfPass : ℕ → List Entry → Type 0
AllOfPass client [] = Unit {0}
AllOfPass client (e ∷ es) = (e.pass ≡ client) × AllOfPass client es

-- every entry is of one of the clients 1 to a number
abbrev pub AreOfClients : ℕ → List Entry → Type 0
AreOfClients clients [] = Unit {0}
AreOfClients clients (e ∷ es) = (1 ≤ e.pass) × (e.pass ≤ clients) × AreOfClients clients es

-- a script is the list of each client's calls, client 1's first
pub record IsHistoryOf (script : List (List Call)) (es : List Entry) : Type 0 where
  pub numbered : (client : ℕ) → IsNumberedFrom 1 (entries_of client es)
  pub in_order : (k : ℕ) → k < length script → calls_of (entries_of (k + 1) es) ≡ slice_index_or script k []
  pub no_others : AreOfClients (length script) es
