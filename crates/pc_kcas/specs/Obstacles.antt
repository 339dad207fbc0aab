-- What keeps an exchange from holding its words, by what the pass that takes them has noted.
use Rattle.std.specs.Prelude.{◌≡◌, ◌≢◌, ◌⊎◌, ℕ, zero, suc}
use Rattle.pc_model.specs.declared.cell.Field.{Field}
use Rattle.pc_model.specs.declared.cell.Field.TheVariants.{Version}
use Rattle.pc_rule_law.specs.Past.{Has}
use Rattle.pc_rule_law.specs.Plays.{AddsNotes, IsNotedSince}
use Rattle.pc_rule_law.specs.Views.{View, held}
use Rattle.pc_protocol.specs.Notes.{Note, outdated}
use Rattle.pc_exchange_law.specs.Attempts.{AttemptNote, KnowsEntry, KnowsVisit}
use Rattle.pc_exchange_law.specs.Ties.{code}
use Rattle.pc_exchange_law.specs.Wholes.{Whole}
use Rattle.pc_rule.specs.declared.refs.Ref.{Ref}
use Rattle.pc_rule.specs.declared.refs.RefKind.TheVariants.{Install as AnInstall, Exchange as AnExchange}
use Rattle.pc_dcss.specs.Installs.{met_note, IsDecided, KeepsAttempt}
use Rattle.pc_kcas.specs.Takings.{IsAtLastInstall}
use Rattle.pc_kcas.specs.declared.obstacle.Stuck.{Stuck}
use Rattle.pc_kcas.specs.declared.obstacle.Stuck.TheVariants.{Two, NoLink}
use Rattle.pc_kcas.specs.declared.obstacle.Obstacle.{Obstacle}
use Rattle.pc_kcas.specs.declared.obstacle.Obstacle.TheVariants.{Decided, Changed, Stuck as IsStuckThere, Beyond, Numbers as OutOfNumbers}

-- the pass goes on: it knows what it knew, and its own attempt is as it was
pub record GoesOn (x y : Whole) : Type 0 where
  pub adds : AddsNotes x.view y.view
  pub size : y.view.size ≡ x.view.size
  pub attempt : KeepsAttempt x.view y.view
  pub noted : (n : AttemptNote) → Has x.knows.noted n → Has y.knows.noted n
  pub told : (n : Note) → Has x.knows.told n → Has y.knows.told n
  pub own : y.knows.own ≡ x.knows.own

-- it isn't the reference of an install of the pass
abbrev pub IsNotOwn : View → Ref → Type 0
IsNotOwn v r = r.kind ≡ AnInstall → r.seat ≢ v.seat

-- the word is one that this exchange changes, or the version of a node that it visits
abbrev pub IsWordOf : Whole → Ref → ℕ → Field → Type 0
IsWordOf y exchange n f = ((i : ℕ) × (old : ℕ) × (new : ℕ)
    × KnowsEntry y.knows.noted y.view.seat y.knows.own exchange.seat exchange.number i n f old new)
    ⊎ ((f ≡ Version) × (i : ℕ) × (v : ℕ)
    × KnowsVisit y.view.size.slots y.knows.noted y.view.seat y.knows.own exchange.seat exchange.number i n v)

-- two different references of one kind stood in a word of an exchange since, one after the other. Neither is that exchange's own,
-- nor that of an install of the pass
pub record AreTwo (v : View) (y : Whole) (first second : Ref) : Type 0 where
  pub exchange : Ref
  pub node : ℕ
  pub field : Field
  pub word : IsWordOf y exchange node field
  pub between : View
  pub first_met : IsNotedSince v between (met_note first.kind first.seat first.number node field)
  pub second_met : IsNotedSince between y.view (met_note second.kind second.seat second.number node field)
  pub same_kind : second.kind ≡ first.kind
  pub different : second ≢ first
  pub not_its_own : (first ≢ exchange) × (second ≢ exchange)
  pub not_own : IsNotOwn y.view first × IsNotOwn y.view second

-- between these moments the reference of an exchange was met in a word of another one
pub record IsLink (v u : View) (y : Whole) (met : Ref) : Type 0 where
  pub exchange : Ref
  pub node : ℕ
  pub field : Field
  pub word : IsWordOf y exchange node field
  pub kind : met.kind ≡ AnExchange
  pub found : IsNotedSince v u (held met.seat met.number node field)
  pub other : met ≢ exchange

-- so many links were met since, one after the other
abbrev pub HasFollowed : ℕ → View → Whole → Type 0
HasFollowed zero v y = AddsNotes v y.view
HasFollowed (suc links) v y = (u : View) × (met : Ref) × IsLink v u y met × HasFollowed links u y

-- the help of an exchange is stuck so; left is the number of links that are left to follow
abbrev pub IsStuck : View → Whole → ℕ → Stuck → Type 0
IsStuck v y left (Two first second) = AreTwo v y first second
IsStuck v y left (NoLink met) = IsLink v y.view y met × (left ≡ 0)

-- what it is stuck at isn't the exchange itself, where that is one reference
abbrev pub IsApartFrom : Ref → Stuck → Type 0
IsApartFrom op (Two first second) = Unit {0}
IsApartFrom op (NoLink met) = met ≢ op

-- two references stood in this word of the exchange
abbrev pub IsStuckAt : Whole → Whole → Ref → ℕ → Field → Ref → Ref → Type 0
IsStuckAt x y op n f first second = (two : AreTwo x.view y first second) × (two.exchange ≡ op) × (two.node ≡ n) × (two.field ≡ f)

-- another exchange's reference stood in this word, and its help, with the links that were left, is stuck
pub record IsBeyond (x y : Whole) (op : Ref) (n : ℕ) (f : Field) (left : ℕ) (met : Ref) (how : Stuck) : Type 0 where
  pub kind : met.kind ≡ AnExchange
  pub found : IsNotedSince x.view y.view (held met.seat met.number n f)
  pub other : met ≢ op
  pub stuck : IsStuck x.view y left how
  pub apart : IsApartFrom met how

-- why this word of the exchange doesn't hold its reference; links is the number of links that were left before, and left that
-- of those that are left now
abbrev pub IsObstacle : Whole → Whole → Ref → ℕ → Field → ℕ → ℕ → Obstacle → Type 0
IsObstacle x y op n f links left Decided = IsDecided y.view op.seat op.number
IsObstacle x y op n f links left Changed = Has y.knows.told (outdated (code op.seat op.number) n)
IsObstacle x y op n f links left (IsStuckThere (Two first second)) = IsStuckAt x y op n f first second
IsObstacle x y op n f links left (IsStuckThere (NoLink met)) = (links ≡ 0) × (left ≡ 0) × IsLink x.view y.view y met × (met ≢ op)
IsObstacle x y op n f links left (Beyond met stuck) = IsBeyond x y op n f left met stuck
IsObstacle x y op n f links left (OutOfNumbers k) = IsAtLastInstall y.view k
