-- What each kind of step tells a pass whose view is whole, of the step, the pass before, the number found, or stored, and
-- the pass after.
use Rattle.std.specs.Prelude.{ℕ, Bool, true, false}
use Rattle.atomic_table.specs.Table.{Step}
use Rattle.pc_exchange_law.specs.WholePlays.{WholeMine, WholeTells, SeesClock, SeesWord, SeesStatus, SeesInstall, SeesCell}
use Rattle.pc_exchange_law.specs.WholePlays.{StoredInstall, StoredWord, HasPublished, HasCleared, Draws, HasDecided, HasWithdrawn}
use Rattle.pc_exchange_law.specs.WholePlays.{WholePlaced, WholeTaken, TookReference, LooksFor, SeesRead, SeesVisit, DrawsRead, ChecksVisit}
use Rattle.pc_exchange_law.specs.WholePlays.{BeginsPath, EndsPath, TakesSlot, FilledSpare}
use Rattle.pc_exchange_law.specs.Paths.{dropped}

-- loads
abbrev pub whole_loads_clock : Step Bool → WholeMine → ℕ → WholeMine → Type 0
whole_loads_clock st m r m' = WholeTells m st.word (SeesClock m.0 r) m'

abbrev pub whole_loads_word : Step Bool → WholeMine → ℕ → WholeMine → Type 0
whole_loads_word st m r m' = WholeTells m st.word (SeesWord m.0 r) m'

abbrev pub whole_loads_status : Step Bool → WholeMine → ℕ → WholeMine → Type 0
whole_loads_status st m r m' = WholeTells m st.word (SeesStatus m.0 r) m'

abbrev pub whole_loads_install : Step Bool → WholeMine → ℕ → WholeMine → Type 0
whole_loads_install st m r m' = WholeTells m st.word (SeesInstall m.0 r) m'

abbrev pub whole_loads_cell : Step Bool → WholeMine → ℕ → WholeMine → Type 0
whole_loads_cell st m r m' = WholeTells m st.word (SeesCell m.0 r) m'

-- stores to the own words
abbrev pub whole_stores_install : Step Bool → WholeMine → ℕ → WholeMine → Type 0
whole_stores_install st m r m' = WholeTells m st.word (StoredInstall m.0 st.first) m'

abbrev pub whole_stores_word : Step Bool → WholeMine → ℕ → WholeMine → Type 0
whole_stores_word st m r m' = WholeTells m st.word (StoredWord m.0 st.first) m'

abbrev pub whole_publishes : Step Bool → WholeMine → ℕ → WholeMine → Type 0
whole_publishes st m r m' = WholeTells m st.word (HasPublished false m.0) m'

abbrev pub whole_publishes_fresh : Step Bool → WholeMine → ℕ → WholeMine → Type 0
whole_publishes_fresh st m r m' = WholeTells m st.word (HasPublished true m.0) m'

abbrev pub whole_clears : Step Bool → WholeMine → ℕ → WholeMine → Type 0
whole_clears st m r m' = WholeTells m st.word (HasCleared m.0) m'

-- a draw, and decisions
abbrev pub whole_draws : Step Bool → WholeMine → ℕ → WholeMine → Type 0
whole_draws st m r m' = WholeTells m st.word (Draws m.0 r) m'

abbrev pub whole_decides : Step Bool → WholeMine → ℕ → WholeMine → Type 0
whole_decides st m r m' = WholeTells m st.word (HasDecided m.0 st.first st.second r) m'

abbrev pub whole_withdraws : Step Bool → WholeMine → ℕ → WholeMine → Type 0
whole_withdraws st m r m' = WholeTells m st.word (HasWithdrawn m.0 st.first r) m'

-- steps on words of nodes
abbrev pub whole_places : Step Bool → WholeMine → ℕ → WholeMine → Type 0
whole_places st m r m' = WholeTells m st.word (WholePlaced m.0 st.first st.second r) m'

abbrev pub whole_takes : Step Bool → WholeMine → ℕ → WholeMine → Type 0
whole_takes st m r m' = WholeTells m st.word (WholeTaken m.0 st.first st.second r) m'

abbrev pub whole_takes_reference : Step Bool → WholeMine → ℕ → WholeMine → Type 0
whole_takes_reference st m r m' = WholeTells m st.word (TookReference m.0 st.first st.second r) m'

-- a look at a version that an exchange visits
abbrev pub whole_looks_for : Step Bool → WholeMine → ℕ → WholeMine → Type 0
whole_looks_for st m r m' = WholeTells m st.word (LooksFor m.0 r) m'

-- loads that count as reads and visits: one visit more, or the first one of a path that begins anew
abbrev pub whole_reads : Step Bool → WholeMine → ℕ → WholeMine → Type 0
whole_reads st m r m' = WholeTells m st.word (SeesRead m.0 r) m'

abbrev pub whole_visits : Step Bool → WholeMine → ℕ → WholeMine → Type 0
whole_visits st m r m' = WholeTells m st.word (SeesVisit m.0.path m.0 r) m'

abbrev pub whole_visits_first : Step Bool → WholeMine → ℕ → WholeMine → Type 0
whole_visits_first st m r m' = WholeTells m st.word (SeesVisit (dropped m.0.path) m.0 r) m'

-- a draw for a read, and the check of its visits
abbrev pub whole_draws_read : Step Bool → WholeMine → ℕ → WholeMine → Type 0
whole_draws_read st m r m' = WholeTells m st.word (DrawsRead m.0 r) m'

abbrev pub whole_checks : Step Bool → WholeMine → ℕ → WholeMine → Type 0
whole_checks st m r m' = WholeTells m st.word (ChecksVisit m.0 r) m'

-- an operation begins, or ends
abbrev pub whole_begins_path : Step Bool → WholeMine → ℕ → WholeMine → Type 0
whole_begins_path st m r m' = WholeTells m st.word (BeginsPath m.0) m'

abbrev pub whole_ends_path : Step Bool → WholeMine → ℕ → WholeMine → Type 0
whole_ends_path st m r m' = WholeTells m st.word (EndsPath m.0) m'

-- the next slot of the own share is taken
abbrev pub whole_takes_slot : Step Bool → WholeMine → ℕ → WholeMine → Type 0
whole_takes_slot st m r m' = WholeTells m st.word (TakesSlot m.0 r) m'

-- a number is filled into a word of the own spare
abbrev pub whole_fills : Step Bool → WholeMine → ℕ → WholeMine → Type 0
whole_fills st m r m' = WholeTells m st.word (FilledSpare m.0 st.first) m'
