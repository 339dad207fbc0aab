-- The last pass makes another, and takes another in; and a board that opens with sound cells and one pass keeps the
-- rule.
use Rattle.std.proofs.Common.{◌≡◌, ◌≢◌, ℕ, ◌+◌, ◌<◌, ◌≤◌, Bool, true, false, List, [], ◌∷◌, ◌++◌, length, set, length-set, length-append, refl, sym, ap, ◌∙◌, subst, arith}
use mathlib.Core.Option.{some}
use mathlib.Core.Logic.{dite}
use native.Mathlib.Decide.{ℕ_discrete}
use lib.ListN.{get_elem?}
use Rattle.atomic_table.specs.Table.{Splits, Joins, opening}
use Rattle.atomic_table.proofs.Lists.{set_else}
use Rattle.pc_model.specs.declared.cell.Field.{Field}
use Rattle.pc_model.specs.Cells.{Cells}
use Rattle.pc_words.specs.declared.word.WordKind.TheVariants.{Plain}
use Rattle.pc_words.specs.Words.{InRange}
use Rattle.pc_words.specs.Statuses.{StatusInRange}
use Rattle.pc_rule_law.specs.Board.{Size, Board, Represents, descriptor_words, put}
use Rattle.pc_rule_law.specs.Past.{Attempt, Past, Describes, IsFormed}
use Rattle.pc_rule_law.specs.Stages.{IsIdle}
use Rattle.pc_rule_law.specs.Views.{Note, own_install_word, View, NoteHolds, AllNotes}
use Rattle.pc_rule_law.specs.Rule.{Each, CellOk, Own, OwnTries, opening_install, opening_own, Known, Kept, Holds}
use Rattle.pc_rule_law.specs.Conditions.{IsFree}
use Rattle.pc_rule_law.specs.Seats.{new_view, maker, made_by, joined_by, spent_view, opening_past}
use Rattle.pc_rule_law.proofs.Lists.{each_moved, each_one, each_snoc, below_length, all_none}
use Rattle.pc_rule_law.proofs.Updates.{put-here, put-else, at_put}
use Rattle.pc_rule_law.proofs.InstallStores.{none_stands}

true_not_false : true ≡ false → ⊥
true_not_false e = absurd (cc)

module _ (sound : ℕ → Cells → Cells → Type 0) (z : Size) where
  -- the last pass, which has taken none in, makes another
  pub split_kept : (b : Board) (h : Past) (views : List View) (id : ℕ) (v : View) → v.live ≡ true → v.last ≡ true
      → v.seat + 1 < z.seats → Kept sound z b h views → get_elem? views id ≡ some v
      → Kept sound z b (record h { count = h.count + 1 }) (set views id (maker v) ++ made_by v ∷ [])
  split_kept b h views id v live last room k at =
      let mine = k.each_view id v at in let own = mine.own live in
      let count : h.count ≡ v.seat + 1 = mine.counted.last_is live last in
      let blank = k.blank h.count (omega arith) (omega arith) in
      let h' : Past = record h { count = h.count + 1 } in
      let made : View = made_by v in
      let changed : Each (set views id (maker v)) (Known z b h') = each_moved views id (maker v) (Known z b h)
      (Known z b h') k.each_view
      record {
        own = λ _. record { sized = own.sized; seated = own.seated; known = own.known; ahead = own.ahead; unplaced = own.unplaced };
        tries = mine.tries;
        counted = record {
          live_is = mine.counted.live_is;
          last_is = λ _ no. absurd
              (true_not_false (sym no));
          taken = λ _ no. absurd (true_not_false (sym no));
        };
        noted = mine.noted;
      }
      (λ j u ne _ other. record {
        own = other.own;
        tries = other.tries;
        counted = record {
          live_is = other.counted.live_is;
          last_is = λ alive is. absurd (not_last z b h id v count own j u ne other alive is);
          taken = λ alive is. absurd (not_last z b h id v count own j u ne other alive is);
        };
        noted = other.noted;
      }) in
      let len : length (set views id (maker v)) ≡ h.count = length-set views id (maker v) ∙ k.counted in
      record {
        few = k.few;
        room = omega arith;
        counted = length-append (set views id (maker v)) (made ∷ []) ∙ ap (λ (i : ℕ). i + 1) len;
        blank = λ j le lt. let old = k.blank j (omega arith) lt in
            record { words = old.words; unplaced = old.unplaced; alive = old.alive };
        untried = λ j le lt no. k.untried j (omega arith) lt no;
        shared = let s' = k.shared in record { sound_now = s'.sound_now; ranges = s'.ranges; statuses = s'.statuses; formed = s'.formed; described = s'.described; written = s'.written; each_cell = s'.each_cell; installs = s'.installs };
        each_view = each_snoc (set views id (maker v)) made (Known z b h') changed
            (subst (λ (i : ℕ). Known z b h' i made) (sym len) record {
              own = λ _. record {
                sized = own.sized;
                seated = (sym count, omega arith);
                known = subst (λ (y : Size). (place : ℕ) → place < 4
                    → b.install h.count place ≡ own_install_word (opening_install y) place) (sym own.sized) blank.words;
                ahead = λ i _. blank.unplaced i;
                unplaced = λ _. blank.unplaced v.size.starts.install;
              };
              tries = λ _ no. let t = mine.tries live no in (
                t.0,
                subst (λ (y : Size). OwnTries z.slots b h.count (opening_own y)) (sym own.sized)
                    (k.untried h.count (omega arith) (omega arith) t.0),
              );
              counted = record {
                live_is = sym blank.alive;
                last_is = λ _ _. ap (λ (i : ℕ). i + 1) count;
                taken = λ _ _ i le lt ne. absurd (ne (omega arith));
              };
              noted = mine.noted;
            });
      }
    where
      -- there is one last pass
      not_last : (z : Size) (b : Board) (h : Past) (id : ℕ) (v : View) → h.count ≡ v.seat + 1
          → Own z b.install h.course id v → (j : ℕ) (u : View) → j ≢ id → Known z b h j u → u.live ≡ true
          → u.last ≡ true → ⊥
      not_last z b h id v count own j u ne other alive is = let c : h.count ≡ u.seat + 1 = other.counted.last_is alive is in let here : v.seat ≡ id = own.seated.0 in let there : u.seat ≡ j = (other.own alive).seated.0 in ne (omega arith)

  pub splits : (id : ℕ) (v : View) → v.live ≡ true → v.last ≡ true → v.seat + 1 < z.seats
      → Splits (Holds sound z) id v (maker v) (made_by v)
  splits id v live last room s held at = record {
    board = held.board;
    past = record held.past { count = held.past.count + 1 };
    represents = held.represents;
    kept = split_kept held.board held.past s.views id v live last room held.kept at;
  }

  -- the last pass takes in the highest of the others, of which no install stands
  pub join_kept : (b : Board) (h : Past) (views : List View) (id : ℕ) (v : View) (other : ℕ) (w : View) → v.live ≡ true
      → w.live ≡ true → v.rest ≡ w.seat + 1 → IsFree w → Kept sound z b h views → get_elem? views id ≡ some v → other ≢ id
      → get_elem? (set views id (joined_by v w)) other ≡ some w
      → Kept sound z b (record h { live = put h.live other false }) (set (set views id (joined_by v w)) other spent_view)
  join_kept b h views id v other w live alive rest free k at apart at_other = let u = joined_by v w in
      let there : get_elem? views other ≡ some w = sym (set_else views id other u apart) ∙ at_other in
      let mine = k.each_view id v at in let own = mine.own live in let its = k.each_view other w there in
      let its_own = its.own alive in
      let live' = put h.live other false in
      let h' : Past = record h { live = live' } in
      let none_of_it = none_stands sound z b h other w k.shared its_own its.noted free in
      let dead : (i : ℕ) → h.live i ≡ false
      → live' i ≡ false = λ i no. at_put h.live other false (λ _ c. c ≡ false) i refl (λ _. no) in
      let first : Each (set views id u) (λ j x. j ≢ other → Known z b h' j x) = each_moved views id u (Known z b h)
      (λ j x. j ≢ other → Known z b h' j x) k.each_view
      (λ ne. record {
        own = λ _. record { sized = own.sized; seated = own.seated; known = own.known; ahead = own.ahead; unplaced = own.unplaced };
        tries = mine.tries;
        counted = record {
          live_is = mine.counted.live_is ∙ sym (put-else h.live other id false ne);
          last_is = mine.counted.last_is;
          taken = λ l is i le lt self. dite (ℕ_discrete i other)
              (λ e. (
                ap live' e ∙ put-here h.live other false,
                λ c. subst (λ (j : ℕ). h.course j c ≢ 1) (sym e)
                    (none_of_it c),
              ))
              (λ ne'. let seat : w.seat ≡ other = its_own.seated.0 in
              let t = mine.counted.taken l is i (omega arith) lt self in (dead i t.0, t.1));
        };
        noted = mine.noted;
      })
      (λ j x _ _ y ne. record {
        own = y.own;
        tries = y.tries;
        counted = record {
          live_is = y.counted.live_is ∙ sym (put-else h.live other j false ne);
          last_is = y.counted.last_is;
          taken = λ l is i le lt self. let t = y.counted.taken l is i le lt self in (dead i t.0, t.1);
        };
        noted = y.noted;
      }) in
      record {
        few = k.few;
        room = k.room;
        counted = length-set (set views id u) other spent_view ∙ (length-set views id u ∙ k.counted);
        blank = λ j le lt. let old = k.blank j le lt in record {
          words = old.words;
          unplaced = old.unplaced;
          alive = put-else h.live other j false
              (λ e. let below : other < h.count = subst (λ (i : ℕ). other < i) k.counted
              (below_length views other w there) in absurd (omega arith)) ∙ old.alive;
        };
        untried = k.untried;
        shared = let s' = k.shared in record { sound_now = s'.sound_now; ranges = s'.ranges; statuses = s'.statuses; formed = s'.formed; described = s'.described; written = s'.written; each_cell = s'.each_cell; installs = s'.installs };
        each_view = each_moved (set views id u) other spent_view (λ j x. j ≢ other → Known z b h' j x)
            (Known z b h') first
            record {
              own = λ no. absurd (true_not_false (sym no));
              tries = λ no. absurd (true_not_false (sym no));
              counted = record {
                live_is = sym (put-here h.live other false);
                last_is = λ no. absurd
                    (true_not_false (sym no));
                taken = λ no. absurd (true_not_false (sym no));
              };
              noted = all_none (NoteHolds z b h');
            }
            (λ j x ne _ y. y ne);
      }

  pub joins : (id : ℕ) (v : View) (other : ℕ) (w : View) → v.live ≡ true → w.live ≡ true → v.rest ≡ w.seat + 1
      → IsFree w → Joins (Holds sound z) id v other w (joined_by v w) spent_view
  joins id v other w live alive rest free s held at apart at_other = record {
    board = held.board;
    past = record held.past { live = put held.past.live other false };
    represents = held.represents;
    kept = join_kept held.board held.past s.views id v other w live alive rest free held.kept at apart at_other;
  }

  -- the words of a board that opens: its words of nodes are plain, and no install was written
  pub record Opens (b : Board) (cells : Cells) (attempt : ℕ → ℕ → Attempt) (words : ℕ → ℕ → ℕ → ℕ) (posted : Bool)
      (notes : List Note) : Type 0 where
    pub few : z.seats ≤ 32
    pub seat : 0 < z.seats
    pub sound_now : sound z.slots cells cells
    pub plain : (n : ℕ) (f : Field) → b.cell n f ≡ Plain (cells n f)
    pub small : (n : ℕ) (f : Field) → InRange (Plain (cells n f))
    pub install : (j place : ℕ) → place < 4 → b.install j place ≡ own_install_word (opening_install z) place
    pub statuses : (p : ℕ) → StatusInRange (b.status p)
    pub formed : (p a : ℕ) → IsFormed z.slots (attempt p a)
    pub described : (p a : ℕ) → Describes z.slots (attempt p a) (words p a)
    pub written : (p : ℕ) → (IsIdle (b.status p).stage → ⊥) → (place : ℕ) → place < descriptor_words z.slots
        → b.word p place ≡ words p (b.status p).number place
    pub untried : (j : ℕ) → posted ≡ false → OwnTries z.slots b j (opening_own z)
    pub noted : AllNotes (NoteHolds z b (opening_past cells attempt words posted)) notes

  -- a board that opens keeps the rule, with its first pass
  pub opens : (b : Board) (cells : Cells) (attempt : ℕ → ℕ → Attempt) (words : ℕ → ℕ → ℕ → ℕ) (posted : Bool) (notes : List Note)
      → Opens b cells attempt words posted notes → Kept sound z b (opening_past cells attempt words posted) (new_view z 0 posted notes ∷ [])
  opens b cells attempt words posted notes o = let h = opening_past cells attempt words posted in record {
    few = o.few;
    room = o.seat;
    counted = refl;
    blank = λ j _ _. record { words = o.install j; unplaced = λ k. refl; alive = refl };
    untried = λ j _ _. o.untried j;
    shared = record {
      sound_now = o.sound_now;
      ranges = λ n f. subst InRange (sym (o.plain n f)) (o.small n f);
      statuses = o.statuses;
      formed = o.formed;
      described = o.described;
      written = o.written;
      each_cell = λ n f. subst (CellOk z.seats b.status h.attempt h.placing h.course (cells n f) n f)
          (sym (o.plain n f)) refl;
      installs = λ q k no. absurd (omega arith);
    };
    each_view = each_one (new_view z 0 posted notes) (Known z b h) record {
      own = λ _. record {
        sized = refl;
        seated =
            (refl, o.seat);
        known = o.install 0;
        ahead = λ k _. refl;
        unplaced = λ _. refl;
      };
      tries = λ _ no. (no, o.untried 0 no);
      counted = record { live_is = refl; last_is = λ _ _. refl; taken = λ _ _ i le lt ne. absurd (ne (omega arith)) };
      noted = o.noted;
    };
  }

  pub opening_holds : (ws : List ℕ) (b : Board) (cells : Cells) (attempt : ℕ → ℕ → Attempt) (words : ℕ → ℕ → ℕ → ℕ)
      (posted : Bool) (notes : List Note) → Represents z ws b → Opens b cells attempt words posted notes
      → Holds sound z (opening ws [] (new_view z 0 posted notes))
  opening_holds ws b cells attempt words posted notes represents o = record { board = b; past = opening_past cells attempt words posted; represents = represents; kept = opens b cells attempt words posted notes o }
