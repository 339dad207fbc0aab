-- Two references in the way of an exchange, by what its pass met as it took its words.
use Rattle.std.proofs.Common.{◌≡◌, ◌≢◌, ℕ, suc, ◌+◌, ◌-◌, sym, ◌∙◌, subst, inl, inr, ⊎_elim, arith}
use Rattle.pc_model.specs.declared.cell.Field.{Field}
use Rattle.pc_rule_law.specs.Plays.{AddsNotes, IsNotedSince}
use Rattle.pc_rule_law.specs.Views.{View, held}
use Rattle.pc_exchange_law.specs.Wholes.{Whole}
use Rattle.pc_rule.specs.declared.refs.Ref.{Ref}
use Rattle.pc_rule.specs.declared.refs.RefKind.{RefKind}
use Rattle.pc_rule.specs.declared.refs.RefKind.TheVariants.{Exchange as AnExchange}
use Rattle.pc_dcss.specs.Installs.{met_note}
use Rattle.pc_dcss.proofs.Staying.{noted_before, noted_after}
use Rattle.pc_kcas.specs.declared.obstacle.Obstacle.{Obstacle}
use Rattle.pc_kcas.specs.declared.obstacle.Obstacle.TheVariants.{Decided, Changed, Stuck as IsStuckThere, Beyond, Numbers as OutOfNumbers}
use Rattle.pc_kcas.specs.declared.obstacle.Stuck.{Stuck}
use Rattle.pc_kcas.specs.declared.obstacle.Stuck.TheVariants.{Two, NoLink}
use Rattle.pc_kcas.specs.Helping.{IsStoppedBy}
use Rattle.pc_kcas.specs.Obstacles.{IsNotOwn, AreTwo, IsLink, HasFollowed, IsStuck, IsStuckAt, IsApartFrom, IsBeyond}
use Rattle.pc_kcas.specs.Stops.{IsStopOf, AreInTheWay, HasMetObstacle, KnowsStop}
use Rattle.pc_kcas.specs.Verdicts.{HasReached, IsBlocked}
use Rattle.pc_kcas.proofs.Evidence.{two_since, followed_since, followed_fewer}

-- the reference of an exchange isn't that of an install
exchange_not_own : (v : View) (r : Ref) → r.kind ≡ AnExchange → IsNotOwn v r
exchange_not_own v r is install = cc

held_met : (v w : View) (r : Ref) (n : ℕ) (f : Field) → r.kind ≡ AnExchange → IsNotedSince v w (held r.seat r.number n f)
    → IsNotedSince v w (met_note r.kind r.seat r.number n f)
held_met v w r n f is noted = subst (λ (k : RefKind). IsNotedSince v w (met_note k r.seat r.number n f)) (sym is) noted

-- of two references both stood since
module _ (v : View) (y : Whole) (first second : Ref) (two : AreTwo v y first second) where
  pub first_stood : IsNotedSince v y.view (met_note first.kind first.seat first.number two.node two.field)
  first_stood = noted_before v two.between y.view _ two.first_met (two.second_met.0, two.second_met.1)

  pub second_stood : IsNotedSince v y.view (met_note second.kind second.seat second.number two.node two.field)
  second_stood = noted_after v two.between y.view _ (two.first_met.0, two.first_met.1) two.second_met

-- The help of an exchange is stuck: it was stopped by one reference, which isn't the exchange's. So many links were followed, where that
-- is the last of them.
module _ (links : ℕ) (v : View) (x y : Whole) (left : ℕ) (adds : AddsNotes v x.view) (followed : left ≡ 0 → HasFollowed links v y) (op by : Ref) where
  by_first : (first second : Ref) → AreTwo x.view y first second → by ≡ first → first ≢ op → IsStoppedBy links v y op by
  unfolding first_stood
  by_first first second two is other = subst (IsStoppedBy links v y op) (sym is) record {
    other = other;
    not_own = two.not_own.0;
    exchange = two.exchange;
    node = two.node;
    field = two.field;
    word = two.word;
    stood = noted_after v x.view y.view _ adds (first_stood x.view y first second two);
    cause = inl (second, inr (two_since v x.view adds y first second two));
  }

  by_second : (first second : Ref) → AreTwo x.view y first second → by ≡ second → first ≡ op → IsStoppedBy links v y op by
  unfolding second_stood
  by_second first second two is same = subst (IsStoppedBy links v y op) (sym is) record {
    other = λ e. two.different (e ∙ sym same);
    not_own = two.not_own.1;
    exchange = two.exchange;
    node = two.node;
    field = two.field;
    word = two.word;
    stood = noted_after v x.view y.view _ adds (second_stood x.view y first second two);
    cause = inl (first, inl (two_since v x.view adds y first second two));
  }

  by_link : (met : Ref) → IsLink x.view y.view y met → left ≡ 0 → met ≢ op → by ≡ met → IsStoppedBy links v y op by
  unfolding exchange_not_own held_met
  by_link met link none other is = subst (IsStoppedBy links v y op) (sym is) record {
    other = other;
    not_own = exchange_not_own y.view met link.kind;
    exchange = link.exchange;
    node = link.node;
    field = link.field;
    word = link.word;
    stood = noted_after v x.view y.view _ adds (held_met x.view y.view met link.node link.field link.kind link.found);
    cause = inr (followed none);
  }

  pub stopped_by : (how : Stuck) → IsStuck x.view y left how → IsApartFrom op how → IsStopOf op how by → IsStoppedBy links v y op by
  unfolding by_first by_second by_link
  stopped_by (Two first second) two apart is = ⊎_elim (λ a. by_first first second two a.0 a.1) (λ b. by_second first second two b.0 b.1) is
  stopped_by (NoLink met) link apart is = by_link met link.0 link.1 apart is

-- what the pass met since in a word of its exchange
module _ (seats : ℕ) (v : View) (y : Whole) (op : Ref) (n : ℕ) (f : Field) (o : Obstacle) (met : HasMetObstacle seats v y op n f o) where
  -- with no link left the last one of as many as there are passes
  all_followed : met.left ≡ 0 → HasFollowed seats v y
  all_followed none = let links : (seats + 1) - met.left ≡ suc seats = omega arith in
      followed_since v met.start.view met.adds y seats (followed_fewer seats met.start.view y (subst (λ (k : ℕ). HasFollowed k met.start.view y) links met.followed))

-- two references were met in the word itself
pub two_blocked : (links : ℕ) (v : View) (x y : Whole) (op : Ref) (n : ℕ) (f : Field) (first second : Ref) → AddsNotes v x.view → IsStuckAt x y op n f first second
    → HasReached y op n f → IsBlocked links v y op first second
unfolding first_stood second_stood
two_blocked links v x y op n f first second adds s reached = let two : AreTwo x.view y first second = s.0 in
    let here : (r : Ref) → IsNotedSince x.view y.view (met_note r.kind r.seat r.number two.node two.field) → IsNotedSince v y.view (met_note r.kind r.seat r.number n f) =
    λ r h. noted_after v x.view y.view (met_note r.kind r.seat r.number n f) adds (subst (λ (k : ℕ). IsNotedSince x.view y.view (met_note r.kind r.seat r.number k f)) s.2
    (subst (λ (g : Field). IsNotedSince x.view y.view (met_note r.kind r.seat r.number two.node g)) s.3 h)) in record {
      node = n;
      field = f;
      reached = reached;
      stood = here first (first_stood x.view y first second two);
      not_its_own = subst (λ (e : Ref). first ≢ e) s.1 two.not_its_own.0;
      not_own = two.not_own;
      different = two.different;
      then = inl (two.same_kind, here second (second_stood x.view y first second two), subst (λ (e : Ref). second ≢ e) s.1 two.not_its_own.1);
    }

-- another exchange was met there, whose help is stuck
beyond_blocked : (links : ℕ) (v : View) (x y : Whole) (op : Ref) (n : ℕ) (f : Field) (left : ℕ) (met second : Ref) (how : Stuck) → AddsNotes v x.view
    → (left ≡ 0 → HasFollowed links v y) → HasReached y op n f → IsBeyond x y op n f left met how → IsStopOf met how second
    → IsBlocked links v y op met second
unfolding exchange_not_own held_met
beyond_blocked links v x y op n f left met second how adds followed reached b is =
    let s : IsStoppedBy links v y met second = stopped_by links v x y left adds followed met second how b.stuck b.apart is in record {
      node = n;
      field = f;
      reached = reached;
      stood = noted_after v x.view y.view _ adds (held_met x.view y.view met n f b.kind b.found);
      not_its_own = b.other;
      not_own = (exchange_not_own y.view met b.kind, s.not_own);
      different = s.other;
      then = inr s;
    }

-- the two references that are the obstacle stood in the way
pub met_blocked : (seats : ℕ) (v : View) (y : Whole) (op : Ref) (n : ℕ) (f : Field) (o : Obstacle) (first second : Ref) → HasMetObstacle seats v y op n f o
    → HasReached y op n f → AreInTheWay o first second → IsBlocked seats v y op first second
unfolding all_followed two_blocked beyond_blocked
met_blocked seats v y op n f Decided first second met reached way = absurd way
met_blocked seats v y op n f Changed first second met reached way = absurd way
met_blocked seats v y op n f (IsStuckThere (Two one two)) first second met reached way = let e = met.obstacle in
    subst (λ (r : Ref). IsBlocked seats v y op r second) (sym way.0) (subst (λ (r : Ref). IsBlocked seats v y op one r) (sym way.1)
    (two_blocked seats v met.start y op n f one two met.adds e reached))
met_blocked seats v y op n f (IsStuckThere (NoLink last)) first second met reached way = absurd way
met_blocked seats v y op n f (Beyond other how) first second met reached way =
    subst (λ (r : Ref). IsBlocked seats v y op r second) (sym way.0)
    (beyond_blocked seats v met.start y op n f met.left other second how met.adds (all_followed seats v y op n f (Beyond other how) met) reached met.obstacle way.1)
met_blocked seats v y op n f (OutOfNumbers k) first second met reached way = absurd way

-- what the pass knows of its own exchange, by the obstacle
pub met_known : (seats : ℕ) (v : View) (y : Whole) (n : ℕ) (f : Field) (o : Obstacle) → HasMetObstacle seats v y (record { kind = AnExchange; seat = y.view.seat; number = y.view.attempt.number }) n f o → KnowsStop y n o
met_known seats v y n f Decided met = met.obstacle
met_known seats v y n f Changed met = met.obstacle
met_known seats v y n f (IsStuckThere (Two one two)) met = tt
met_known seats v y n f (IsStuckThere (NoLink last)) met = let e = met.obstacle.0 in absurd (omega arith)
met_known seats v y n f (Beyond other how) met = tt
met_known seats v y n f (OutOfNumbers k) met = met.obstacle
