-- What is asked of a step on a word of a node, with the raw words that it finds and puts.
use Rattle.std.specs.Prelude.{◌≡◌, ℕ, ◌+◌, true, List, None}
use Rattle.pc_model.specs.declared.cell.Field.{Field}
use Rattle.pc_model.specs.Forms.{Form}
use Rattle.pc_words.specs.declared.word.WordKind.{WordKind}
use Rattle.pc_words.specs.declared.word.WordKind.TheVariants.{Plain, Install}
use Rattle.pc_words.specs.declared.status.Stage.TheVariants.{Undecided}
use Rattle.pc_words.specs.Statuses.{packed}
use Rattle.pc_words.specs.Words.{raw}
use Rattle.pc_rule_law.specs.Board.{Size}
use Rattle.pc_rule_law.specs.Past.{Attempt, Has, Describes}
use Rattle.pc_rule_law.specs.Views.{View, word_in}
use Rattle.pc_rule_law.specs.Conditions.{CanPlace, CanTake}
use Rattle.pc_exchange_law.specs.ExchangeConditions.{MayPublish as CanPublish, MayFill}
use Rattle.pc_exchange_law.specs.Knowing.{IsAboveSeen, after_publication}
use Rattle.pc_exchange_law.specs.OwnSlots.{MakesOwn, makes_one}
use Rattle.pc_exchange_law.specs.Passes.{PassKnows}
use Rattle.pc_exchange_law.specs.Ties.{code, exchange_of}
use Rattle.pc_exchange_law.specs.WholePlays.{CountsReads}
use Rattle.pc_exchange_law.specs.Wholes.{Whole}
use Rattle.pc_protocol.specs.Notes.{clock_was}

-- the new word is the own install, and the old one a plain value in whose place it may be put
abbrev pub MayPlaceInstall : Size → View → ℕ → Field → ℕ → ℕ → Type 0
MayPlaceInstall z v n f old new = (x : ℕ) × (p : ℕ) × (a : ℕ) × (old ≡ raw (Plain x)) × (new ≡ raw (Install v.seat v.install.number)) × CanPlace z v n f x p a

-- the old word is an install, and the new one may take its place
abbrev pub MayTakeInstall : Size → View → ℕ → Field → ℕ → ℕ → Type 0
MayTakeInstall z v n f old new = (q : ℕ) × (k : ℕ) × (c : WordKind) × (old ≡ raw (Install q k)) × (new ≡ raw c) × CanTake z v q k n f c

-- the new status says that the own next attempt is undecided, whose words are stored, which makes no node, raises
-- its nodes and keeps cells sound; and the clock was loaded
abbrev pub MayPublish : Form → Size → Whole → ℕ → Type 0
MayPublish form z x new = (e : Attempt) × (c : ℕ) × (keys : List ℕ)
    × (new ≡ packed (record { number = x.knows.own.number + 1; stage = Undecided })) × (e.fresh ≡ None)
    × CanPublish form z x.knows x.path e c keys

-- the same of an attempt that makes the spare's node
abbrev pub MayPublishFresh : Form → Size → Whole → ℕ → Type 0
MayPublishFresh form z x new = (e : Attempt) × (c : ℕ) × (keys : List ℕ)
    × (new ≡ packed (record { number = x.knows.own.number + 1; stage = Undecided })) × (makes_one e.fresh ≡ true)
    × CanPublish form z x.knows x.path e c keys

-- the new word is the number that the pass may fill into this word of its spare
abbrev pub MayFillWord : PassKnows → ℕ → Field → ℕ → Type 0
MayFillWord k n f new = (v : ℕ) × (new ≡ raw (Plain v)) × MayFill k n f v

-- what the pass knows beside its view after it published: that its next attempt is an exchange, which the stored words describe,
-- and which was published with a clock that was loaded before, above each stamp that the pass had seen; and its reads go by its mode
abbrev pub KnowsPublished : Whole → PassKnows → Type 0
KnowsPublished x k = (e : Attempt) × (c : ℕ) × Describes x.view.size.slots e (word_in x.knows.own.words) × Has x.knows.told (clock_was c)
    × (k ≡ after_publication x.knows (code x.view.seat (x.knows.own.number + 1)) (exchange_of e) c) × CountsReads x.path e × IsAboveSeen x.knows.told c × (e.fresh ≡ None)

-- and of one that makes the spare's node
abbrev pub KnowsPublishedFresh : Whole → PassKnows → Type 0
KnowsPublishedFresh x k = (e : Attempt) × (c : ℕ) × Describes x.view.size.slots e (word_in x.knows.own.words) × Has x.knows.told (clock_was c)
    × (k ≡ after_publication x.knows (code x.view.seat (x.knows.own.number + 1)) (exchange_of e) c) × CountsReads x.path e × IsAboveSeen x.knows.told c
    × MakesOwn x.knows.slots e.fresh × (makes_one e.fresh ≡ true)
