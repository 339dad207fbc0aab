-- What came of one word of an exchange, in which an install that was met may have been completed.
use Rattle.std.specs.Prelude.{◌≡◌, ◌≢◌, ℕ, ◌+◌, ◌*◌, ◌<◌, ◌≤◌}
use Rattle.pc_model.specs.declared.cell.Counter.TheVariants.{Install as Installs}
use Rattle.pc_model.specs.declared.numbers.Numbers.{Numbers}
use Rattle.pc_words.specs.declared.word.WordKind.TheVariants.{Plain}
use Rattle.pc_model.specs.declared.cell.Field.{Field}
use Rattle.pc_rule_law.specs.Board.{place_number}
use Rattle.pc_rule_law.specs.Past.{Has}
use Rattle.pc_rule_law.specs.Plays.{found, IsNotedSince}
use Rattle.pc_rule_law.specs.Views.{Note, View, held, removed}
use Rattle.pc_exchange_law.specs.Attempts.{KnowsWord}
use Rattle.pc_exchange_law.specs.Wholes.{Whole}
use Rattle.pc_rule.specs.declared.opening.Place.{Place}
use Rattle.pc_rule.specs.declared.refs.Ref.{Ref}
use Rattle.pc_rule.specs.declared.refs.RefKind.TheVariants.{Install as AnInstall}
use Rattle.pc_dcss.specs.Installs.{met_note, IsOther, last_install}

-- the pass has since met this reference in the word, and it is another's
abbrev pub IsMetSince : View → View → Ref → Place → Ref → Type 0
IsMetSince v w op place r = IsNotedSince v w (met_note r.kind r.seat r.number place.node place.field) × IsOther r.kind r.seat r.number w.seat op

-- the word has since had this plain value, which isn't the old one: what is noted of a plain value was noted
abbrev pub IsDifferentSince : View → View → Place → ℕ → Type 0
IsDifferentSince v w place x = (x ≢ place.old) × ((m : Note) → Has (found place.node place.field (Plain x)) m → IsNotedSince v w m)

-- the install number stands at its last value
abbrev pub IsAtLastInstall : View → Numbers → Type 0
IsAtLastInstall w n = (n.counter ≡ Installs) × (n.at ≡ w.install.number) × (last_install ≤ n.at)

-- the pass has since met this install of another in the word, and it is gone
abbrev pub IsCompletedSince : View → View → Ref → Place → Ref → Type 0
IsCompletedSince v w op place r = (r.kind ≡ AnInstall) × IsMetSince v w op place r × Has w.notes (removed r.seat r.number)

-- this install is gone
abbrev pub IsGoneInstall : View → Ref → Type 0
IsGoneInstall v r = (r.kind ≡ AnInstall) × Has v.notes (removed r.seat r.number)

-- these references were met in the word since, one after the other
abbrev pub AreMetInTurn : View → View → Place → Ref → Ref → Type 0
AreMetInTurn v w place first r = (u : View) × IsNotedSince v u (met_note first.kind first.seat first.number place.node place.field)
    × IsNotedSince u w (met_note r.kind r.seat r.number place.node place.field)

-- it is no install, or another than the first
abbrev pub IsAnother : Ref → Ref → Type 0
IsAnother first r = r.kind ≡ AnInstall → r.seat ≡ first.seat → r.number ≢ first.number

-- the word of the exchange at this index is known, and was seen to hold the reference
abbrev pub HoldsAt : Whole → Ref → ℕ → Type 0
HoldsAt x op i = (n : ℕ) × (f : Field)
    × KnowsWord x.knows.noted x.view.seat x.knows.own op.seat op.number (3 + 3 * i) (place_number n f) × Has x.view.notes (held op.seat op.number n f)

-- and so is each below this index
abbrev pub HoldsBelow : Whole → Ref → ℕ → Type 0
HoldsBelow x op m = (i : ℕ) → i < m → HoldsAt x op i
