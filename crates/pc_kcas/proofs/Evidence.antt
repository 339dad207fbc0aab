-- What was noted of obstacles and links since some moment is so since an earlier one, and up to a later one.
use Rattle.std.proofs.Common.{◌≡◌, ℕ, zero, suc, ◌+◌, ◌-◌, ◌*◌, ◌≤◌, List, sym, ap, ◌∙◌, subst, inl, inr, ⊎_elim, arith}
use Rattle.pc_model.specs.declared.cell.Field.{Field}
use Rattle.pc_rule_law.specs.Board.{Size, place_number}
use Rattle.pc_rule_law.specs.Past.{Has, visits_begin}
use Rattle.pc_rule_law.specs.Plays.{AddsNotes}
use Rattle.pc_rule_law.specs.Views.{View, Note, held}
use Rattle.pc_exchange_law.specs.Attempts.{OwnAttempt, KnowsEntry, KnowsVisit, KnowsWord, listed_word, word_in}
use Rattle.pc_exchange_law.specs.Wholes.{Whole}
use Rattle.pc_rule.specs.declared.refs.Ref.{Ref}
use Rattle.pc_dcss.specs.Installs.{met_note, KeepsNotes}
use Rattle.pc_dcss.proofs.Staying.{adds_then, noted_before, noted_after}
use Rattle.pc_rule_law.proofs.Lists.{has_right}
use Rattle.pc_kcas.specs.declared.obstacle.Stuck.{Stuck}
use Rattle.pc_kcas.specs.declared.obstacle.Stuck.TheVariants.{Two, NoLink}
use Rattle.pc_kcas.specs.declared.obstacle.Obstacle.{Obstacle}
use Rattle.pc_kcas.specs.declared.obstacle.Obstacle.TheVariants.{Decided, Changed, Stuck as IsStuckThere, Beyond, Numbers as OutOfNumbers}
use Rattle.pc_kcas.specs.Obstacles.{GoesOn, IsNotOwn, IsWordOf, AreTwo, IsLink, HasFollowed, IsStuck, IsStuckAt, IsObstacle}

-- ---- up to a later moment

pub keeps_notes : (v w : View) → AddsNotes v w → KeepsNotes v w
keeps_notes v w adds x h = subst (λ (l : List Note). Has l x) (sym adds.1) (has_right adds.0 v.notes x h)

pub goes_then : (x y z : Whole) → GoesOn x y → GoesOn y z → GoesOn x z
goes_then x y z a b = record {
  adds = adds_then x.view y.view z.view a.adds b.adds;
  size = b.size ∙ a.size;
  attempt = (b.attempt.0 ∙ a.attempt.0, b.attempt.1 ∙ a.attempt.1);
  noted = λ n h. b.noted n (a.noted n h);
  told = λ n h. b.told n (a.told n h);
  own = b.own ∙ a.own;
}

module _ (y z : Whole) (goes : GoesOn y z) (seat : z.view.seat ≡ y.view.seat) where
  pub word_goes : (p a place w : ℕ) → KnowsWord y.knows.noted y.view.seat y.knows.own p a place w → KnowsWord z.knows.noted z.view.seat z.knows.own p a place w
  word_goes p a place w known = ⊎_elim (λ noted. inl (goes.noted (listed_word p a place w) noted))
      (λ own. inr (
        own.0 ∙ sym seat,
        own.1 ∙ sym (ap (λ (o : OwnAttempt). o.number) goes.own),
        ap (λ (o : OwnAttempt). o.busy) goes.own ∙ own.2,
        ap (λ (o : OwnAttempt). word_in o.words place) goes.own ∙ own.3,
      )) known

  pub entry_goes : (p a i n : ℕ) (f : Field) (old new : ℕ) → KnowsEntry y.knows.noted y.view.seat y.knows.own p a i n f old new
      → KnowsEntry z.knows.noted z.view.seat z.knows.own p a i n f old new
  entry_goes p a i n f old new e = record {
    count = e.count;
    counted = word_goes p a 1 e.count e.counted;
    below = e.below;
    place = word_goes p a (3 + 3 * i) (place_number n f) e.place;
    old_word = word_goes p a (4 + 3 * i) old e.old_word;
    new_word = word_goes p a (5 + 3 * i) new e.new_word;
  }

  pub visit_goes : (p a i n v : ℕ) → KnowsVisit y.view.size.slots y.knows.noted y.view.seat y.knows.own p a i n v
      → KnowsVisit z.view.size.slots z.knows.noted z.view.seat z.knows.own p a i n v
  visit_goes p a i n v visit = subst (λ (u : Size). KnowsVisit u.slots z.knows.noted z.view.seat z.knows.own p a i n v) (sym goes.size) record {
    count = visit.count;
    counted = word_goes p a 2 visit.count visit.counted;
    below = visit.below;
    node_word = word_goes p a (visits_begin y.view.size.slots + 2 * i) n visit.node_word;
    version_word = word_goes p a (visits_begin y.view.size.slots + (1 + 2 * i)) v visit.version_word;
  }

  pub is_word_goes : (e : Ref) (n : ℕ) (f : Field) → IsWordOf y e n f → IsWordOf z e n f
  is_word_goes e n f w = ⊎_elim
      (λ changed. inl (changed.0, changed.1, changed.2, entry_goes e.seat e.number changed.0 n f changed.1 changed.2 changed.3))
      (λ visited. inr (visited.0, visited.1, visited.2, visit_goes e.seat e.number visited.1 n visited.2 visited.3))
      w

  not_own_goes : (r : Ref) → IsNotOwn y.view r → IsNotOwn z.view r
  not_own_goes r other kind here = other kind (here ∙ seat)

  pub two_goes : (v : View) (first second : Ref) → AreTwo v y first second → AreTwo v z first second
  two_goes v first second t = record {
    exchange = t.exchange;
    node = t.node;
    field = t.field;
    word = is_word_goes t.exchange t.node t.field t.word;
    between = t.between;
    first_met = t.first_met;
    second_met = noted_before t.between y.view z.view (met_note second.kind second.seat second.number t.node t.field) t.second_met goes.adds;
    same_kind = t.same_kind;
    different = t.different;
    not_its_own = t.not_its_own;
    not_own = (not_own_goes first t.not_own.0, not_own_goes second t.not_own.1);
  }

  pub link_goes : (v u : View) (met : Ref) → IsLink v u y met → IsLink v u z met
  link_goes v u met l = record {
    exchange = l.exchange;
    node = l.node;
    field = l.field;
    word = is_word_goes l.exchange l.node l.field l.word;
    kind = l.kind;
    found = l.found;
    other = l.other;
  }

  pub link_on : (v : View) (met : Ref) → IsLink v y.view y met → IsLink v z.view z met
  link_on v met l = record {
    exchange = l.exchange;
    node = l.node;
    field = l.field;
    word = is_word_goes l.exchange l.node l.field l.word;
    kind = l.kind;
    found = noted_before v y.view z.view (held met.seat met.number l.node l.field) l.found goes.adds;
    other = l.other;
  }

  pub followed_goes : (k : ℕ) (v : View) → HasFollowed k v y → HasFollowed k v z
  followed_goes zero v f = adds_then v y.view z.view f goes.adds
  followed_goes (suc k) v f = (f.0, f.1, link_goes v f.0 f.1 f.2, followed_goes k f.0 f.3)

  pub stuck_goes : (v : View) (left : ℕ) (how : Stuck) → IsStuck v y left how → IsStuck v z left how
  stuck_goes v left (Two first second) s = two_goes v first second s
  stuck_goes v left (NoLink met) s = (link_on v met s.0, s.1)

-- ---- since an earlier moment

module _ (u v : View) (adds : AddsNotes u v) (y : Whole) where
  pub two_since : (first second : Ref) → AreTwo v y first second → AreTwo u y first second
  two_since first second t = record {
    exchange = t.exchange;
    node = t.node;
    field = t.field;
    word = t.word;
    between = t.between;
    first_met = noted_after u v t.between (met_note first.kind first.seat first.number t.node t.field) adds t.first_met;
    second_met = t.second_met;
    same_kind = t.same_kind;
    different = t.different;
    not_its_own = t.not_its_own;
    not_own = t.not_own;
  }

  pub link_since : (w : View) (met : Ref) → IsLink v w y met → IsLink u w y met
  link_since w met l = record {
    exchange = l.exchange;
    node = l.node;
    field = l.field;
    word = l.word;
    kind = l.kind;
    found = noted_after u v w (held met.seat met.number l.node l.field) adds l.found;
    other = l.other;
  }

  pub followed_since : (k : ℕ) → HasFollowed k v y → HasFollowed k u y
  followed_since zero f = adds_then u v y.view adds f
  followed_since (suc k) f = (f.0, f.1, link_since f.0 f.1 f.2, f.3)

  pub stuck_since : (left : ℕ) (how : Stuck) → IsStuck v y left how → IsStuck u y left how
  stuck_since left (Two first second) s = two_since first second s
  stuck_since left (NoLink met) s = (link_since y.view met s.0, s.1)

-- two references that stood in a word of this exchange
pub stuck_at_since : (o x : Whole) → AddsNotes o.view x.view → (y : Whole) (op : Ref) (n : ℕ) (f : Field) (first second : Ref)
    → IsStuckAt x y op n f first second → IsStuckAt o y op n f first second
unfolding two_since
stuck_at_since o x adds y op n f first second h = (two_since o.view x.view adds y first second h.0, h.1, h.2, h.3)

-- why a word doesn't hold its reference
pub obstacle_since : (o x : Whole) → AddsNotes o.view x.view → (y : Whole) (op : Ref) (n : ℕ) (f : Field) (links left : ℕ) (obstacle : Obstacle)
    → IsObstacle x y op n f links left obstacle → IsObstacle o y op n f links left obstacle
obstacle_since o x adds y op n f links left Decided h = h
obstacle_since o x adds y op n f links left Changed h = h
obstacle_since o x adds y op n f links left (IsStuckThere (Two first second)) h = stuck_at_since o x adds y op n f first second h
obstacle_since o x adds y op n f links left (IsStuckThere (NoLink met)) h = (h.0, h.1, link_since o.view x.view adds y y.view met h.2, h.3)
obstacle_since o x adds y op n f links left (Beyond met how) h = record {
  kind = h.kind;
  found = noted_after o.view x.view y.view (held met.seat met.number n f) adds h.found;
  other = h.other;
  stuck = stuck_since o.view x.view adds y left how h.stuck;
  apart = h.apart;
}
obstacle_since o x adds y op n f links left (OutOfNumbers k) h = h

-- ---- links, one after the other

pub followed_then : (j k : ℕ) (v : View) (y z : Whole) → GoesOn y z → z.view.seat ≡ y.view.seat
    → HasFollowed j v y → HasFollowed k y.view z → HasFollowed (j + k) v z
followed_then zero k v y z goes seat f g = let e : k ≡ 0 + k = omega arith in
    subst (λ n. HasFollowed n v z) e (followed_since v y.view f z k g)
followed_then (suc j) k v y z goes seat f g = let e : suc (j + k) ≡ suc j + k = omega arith in
    subst (λ n. HasFollowed n v z) e (f.0, f.1, link_goes y z goes seat v f.0 f.1 f.2, followed_then j k f.0 y z goes seat f.3 g)

-- one link more or less
pub followed_link : (links left : ℕ) (v : View) (u z : Whole) (met : Ref) → 1 ≤ links → left ≤ links - 1 → GoesOn u z → z.view.seat ≡ u.view.seat
    → IsLink v u.view u met → HasFollowed ((links - 1) - left) u.view z → HasFollowed (links - left) v z
followed_link links left v u z met some low goes seat link f = let e : suc ((links - 1) - left) ≡ links - left = omega arith in
    subst (λ n. HasFollowed n v z) e (u.view, met, link_goes u z goes seat v u.view met link, f)

pub followed_fewer : (k : ℕ) (v : View) (y : Whole) → HasFollowed (suc k) v y → HasFollowed k v y
followed_fewer k v y f = let l = f.2 in followed_since v f.0 (l.found.0, l.found.1) y k f.3

-- no link
pub followed_none : (links : ℕ) (v : View) (y : Whole) → AddsNotes v y.view → HasFollowed (links - links) v y
followed_none links v y adds = let e : 0 ≡ links - links = omega arith in subst (λ n. HasFollowed n v y) e adds

-- of the links that are left
pub followed_more : (links left right : ℕ) (v : View) (y z : Whole) → left ≤ links → right ≤ left → GoesOn y z → z.view.seat ≡ y.view.seat
    → HasFollowed (links - left) v y → HasFollowed (left - right) y.view z → HasFollowed (links - right) v z
followed_more links left right v y z low lower goes seat f g = let e : (links - left) + (left - right) ≡ links - right = omega arith in
    subst (λ n. HasFollowed n v z) e (followed_then (links - left) (left - right) v y z goes seat f g)
