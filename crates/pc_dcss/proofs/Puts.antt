-- What the placing of the own install tells.
use Rattle.std.proofs.Common.{◌≡◌, ℕ, ◌<◌, ◌≢◌, List, [], ◌∷◌, ◌++◌, sym, ap, ◌∙◌, subst, refl, inl, inr, ⊎_elim, arith}
use Rattle.pc_model.specs.declared.cell.Field.{Field}
use Rattle.pc_words.specs.declared.word.WordKind.{WordKind}
use Rattle.pc_words.specs.declared.word.WordKind.TheVariants.{Plain, Install, Exchange}
use Rattle.pc_words.specs.Words.{raw, kind, IsWord}
use Rattle.pc_words.proofs.Words.{raw_kind}
use Rattle.pc_rule_law.specs.Board.{Size, place_number}
use Rattle.pc_rule_law.specs.Past.{Has}
use Rattle.pc_rule_law.specs.Views.{Note, View, placed, install_word, held, removed, clean, NoteInRange, AllNotes, with_notes}
use Rattle.pc_rule_law.specs.Plays.{own_notes, after_place, found, IsNotedSince}
use Rattle.pc_rule_law.proofs.Lists.{has_right}
use Rattle.pc_rule.specs.declared.opening.Place.{Place}
use Rattle.pc_rule.specs.declared.refs.RefKind.{RefKind}
use Rattle.pc_rule.specs.declared.refs.RefKind.TheVariants.{Install as AnInstall, Exchange as AnExchange}
use Rattle.pc_rule.specs.declared.refs.Ref.{Ref}
use Rattle.pc_rule_law.specs.Conditions.{KnowsStill, KnowsEntry}
use Rattle.pc_rule_law.proofs.Descriptors.{change_still}
use Rattle.pc_exchange_law.specs.Attempts.{came_to}
use Rattle.pc_exchange_law.specs.Knowing.{Learns}
use Rattle.pc_exchange_law.specs.Passes.{PassKnows}
use Rattle.pc_exchange_law.specs.WholePlays.{IsNotCleared, OldDiffers}
use Rattle.pc_exchange_law.specs.Wholes.{Whole}
use Rattle.pc_dcss.proofs.Learnt.{cleared_kept}
use Rattle.pc_dcss.specs.Installs.{entry_of, KnowsPlace, KeepsNotes, IsReady, IsPlaced, word_of, met_note, IsOther, IsMet, IsGone, IsNews, HasCome, IsDifferent, KnowsOutdated, OnHeld, IfMet, IfDiffers}
use Rattle.pc_dcss.specs.declared.installed.Installed.{Installed}
use Rattle.pc_dcss.specs.declared.installed.Installed.TheVariants.{Held, Decided, Differs, Met, Numbers as OutOfNumbers}

pub install_again : (q k s n r : ℕ) → q ≡ s → k ≡ n → r ≡ raw (Install q k) → r ≡ raw (Install s n)
install_again q k s n r a b e = omega arith

pub keeps_with_more : (v w : View) (more : List Note) → w.notes ≡ more ++ v.notes → KeepsNotes v w
keeps_with_more v w more e x h = subst (λ xs. Has xs x) (sym e) (has_right more v.notes x h)

-- the numbers of a change that is known
pub place_ranged : (z : Size) (v : View) → v.size ≡ z → AllNotes (NoteInRange z) v.notes → (op : Ref) (place : Place) → KnowsPlace v op place
    → NoteInRange z (entry_of op place)
place_ranged z v sized ranged op place known = ⊎_elim (λ given. ranged (entry_of op place) given)
    (λ read. subst (λ (y : Size). NoteInRange y (entry_of op place)) sized read.0) known

-- what is known of the exchange's change, as the rule asks for it
pub entry_known : (v : View) (op : Ref) (place : Place) → KnowsPlace v op place
    → KnowsEntry v op.seat op.number place.node place.field place.old
entry_known v op place known = (place.new, ⊎_elim (λ given. inl given) (λ read. inr (read.1, read.2)) known)

-- and it is known still, when the pass has learnt more
pub place_still : (v w : View) → KnowsStill v w → (op : Ref) (place : Place) → KnowsPlace v op place → KnowsPlace w op place
place_still v w k op place known = ⊎_elim (λ given. inl (k.notes (entry_of op place) given)) (λ read. inr (
  subst (λ (z : Size). NoteInRange z (entry_of op place)) (sym k.size) read.0,
  read.1,
  change_still v w k op.seat op.number read.1 place.node place.field place.old place.new read.2,
)) known

module _ (z : Size) (v w : View) (own op : Ref) (place : Place) (ready : IsReady v own op place)
    (hit : w ≡ after_place v place.node place.field) (sized : v.size ≡ z) where
  notes_are : w.notes ≡ own_notes v place.node place.field ++ v.notes
  notes_are = ap (λ (u : View). u.notes) hit

  met_own : Has w.notes (placed own.seat own.number place.node place.field)
  unfolding notes_are
  met_own = let s = ready.seat in let k = ready.number in
      let e : placed v.seat v.install.number place.node place.field ≡ placed own.seat own.number place.node place.field = cc in
      subst (Has w.notes) e (subst (λ xs. Has xs (placed v.seat v.install.number place.node place.field)) (sym notes_are) (0, refl))

  op_own : Has w.notes (install_word own.seat own.number 1 (raw (Exchange op.seat op.number)))
  unfolding notes_are
  op_own = let s = ready.seat in let k = ready.number in let o = ready.op_word in
      let e : install_word v.seat v.install.number 1 v.install.op ≡ install_word own.seat own.number 1 (raw (Exchange op.seat op.number)) = cc in
      subst (Has w.notes) e (subst (λ xs. Has xs (install_word v.seat v.install.number 1 v.install.op)) (sym notes_are) (1, refl))

  place_own : Has w.notes (install_word own.seat own.number 2 (place_number place.node place.field))
  unfolding notes_are
  place_own = let s = ready.seat in let k = ready.number in let o = ready.place_word in
      let e : install_word v.seat v.install.number 2 v.install.place ≡ install_word own.seat own.number 2 (place_number place.node place.field) = cc in
      subst (Has w.notes) e (subst (λ xs. Has xs (install_word v.seat v.install.number 2 v.install.place)) (sym notes_are) (2, refl))

  old_own : Has w.notes (install_word own.seat own.number 3 place.old)
  unfolding notes_are
  old_own = let s = ready.seat in let k = ready.number in let o = ready.old_word in
      let e : install_word v.seat v.install.number 3 v.install.old ≡ install_word own.seat own.number 3 place.old = cc in
      subst (Has w.notes) e (subst (λ xs. Has xs (install_word v.seat v.install.number 3 v.install.old)) (sym notes_are) (3, refl))

  pub placed_by_hit : v.seat < z.seats → AllNotes (NoteInRange z) v.notes → IsPlaced z w own op place
  unfolding met_own op_own place_own old_own
  placed_by_hit in_seats ranged = let r = place_ranged z v sized ranged op place ready.listed in record {
    kind = ready.kind;
    seat = ready.seat ∙ sym (ap (λ (u : View). u.seat) hit);
    number = ready.number ∙ sym (ap (λ (u : View). u.install.number) hit);
    met = met_own;
    words = record {
      install = (subst (λ x. x < z.seats) (sym ready.seat) in_seats, ready.small);
      attempt = r.0;
      node = r.1;
      small = r.2;
      op = op_own;
      place = place_own;
      old = old_own;
    };
  }

-- what a word that isn't the old value tells, by what is answered
found_reference : (n : ℕ) (f : Field) (k : RefKind) (s m : ℕ) → found n f (word_of k s m) ≡ met_note k s m n f ∷ []
found_reference n f AnInstall s m = refl
found_reference n f AnExchange s m = refl

is_other : (k : RefKind) (s m : ℕ) (c : WordKind) (seat : ℕ) (op : Ref) → c ≡ word_of k s m
    → ((q j : ℕ) → c ≡ Install q j → q ≢ seat) → (k ≡ AnExchange → s ≡ op.seat → m ≢ op.number) → IsOther k s m seat op
is_other AnInstall s m c seat op is own other = own s m is
is_other AnExchange s m c seat op is own other = other refl

module _ (v w : View) (op : Ref) (place : Place) (c : WordKind)
    (miss : w ≡ with_notes v (found place.node place.field c)) where
  noted : (x : WordKind) → c ≡ x → w.notes ≡ found place.node place.field x ++ v.notes
  noted x e = subst (λ y. w.notes ≡ found place.node place.field y ++ v.notes) e (ap (λ (u : View). u.notes) miss)

  pub held_now : (i : Installed) → OnHeld i (c ≡ Exchange op.seat op.number) → OnHeld i (IsNotedSince v w (held op.seat op.number place.node place.field))
  unfolding noted
  held_now Held is = (held op.seat op.number place.node place.field ∷ [], noted (Exchange op.seat op.number) is, (0, refl))
  held_now Decided is = tt
  held_now (Differs x) is = tt
  held_now (Met r) is = tt
  held_now (OutOfNumbers n) is = tt

  pub met_now : (i : Installed) → IfMet i (λ r. c ≡ word_of r.kind r.seat r.number)
      → IfMet i (λ r. r.kind ≡ AnExchange → r.seat ≡ op.seat → r.number ≢ op.number) → ((q j : ℕ) → c ≡ Install q j → q ≢ v.seat)
      → IfMet i (λ r. IsMet v w op place r)
  unfolding noted
  met_now Held is other own = tt
  met_now Decided is other own = tt
  met_now (Differs x) is other own = tt
  met_now (Met r) is other own = (
    noted (word_of r.kind r.seat r.number) is ∙ ap (λ xs. xs ++ v.notes) (found_reference place.node place.field r.kind r.seat r.number),
    is_other r.kind r.seat r.number c w.seat op is (λ q j e. subst (λ s. q ≢ s) (sym (ap (λ (u : View). u.seat) miss)) (own q j e)) other,
  )
  met_now (OutOfNumbers n) is other own = tt

  pub differs_now : (i : Installed) → c ≢ Plain place.old
      → IfDiffers i (λ x. c ≡ Plain x) → IfDiffers i (IsDifferent v w place)
  unfolding noted
  differs_now Held ne is = tt
  differs_now Decided ne is = tt
  differs_now (Differs x) ne is = ((λ e. ne (is ∙ ap Plain e)), noted (Plain x) is)
  differs_now (Met r) ne is = tt
  differs_now (OutOfNumbers n) ne is = tt

-- a word other than that of a plain value isn't that plain value
pub not_old : (r old x : ℕ) → IsWord r → old ≡ raw (Plain x) → r ≢ old → kind r ≢ Plain x
not_old r old x is e ne k = ne (sym (raw_kind r is) ∙ (ap raw k ∙ sym e))

-- the reference that was found isn't one that was known to be gone
is_news : (x : Whole) (place : Place) (w : ℕ) (k : RefKind) (s m : ℕ) → kind w ≡ word_of k s m
    → ((q j : ℕ) → kind w ≡ Install q j → Has x.view.notes (removed q j) → ⊥)
    → ((p a : ℕ) → kind w ≡ Exchange p a → Has x.view.notes (clean p a place.node place.field) → ⊥) → IsNotCleared x w
    → IsGone k x s m place.node place.field → ⊥
is_news x place w AnInstall s m is present unclean uncleared gone = present s m is gone
is_news x place w AnExchange s m is present unclean uncleared gone = ⊎_elim (λ here. unclean s m is here) (λ all. uncleared s m is all) gone

pub new_now : (x : Whole) (place : Place) (w : ℕ) (i : Installed) → IfMet i (λ r. kind w ≡ word_of r.kind r.seat r.number)
    → ((q j : ℕ) → kind w ≡ Install q j → Has x.view.notes (removed q j) → ⊥)
    → ((p a : ℕ) → kind w ≡ Exchange p a → Has x.view.notes (clean p a place.node place.field) → ⊥) → IsNotCleared x w
    → IfMet i (IsNews x place)
unfolding is_news
new_now x place w Held is present unclean uncleared = tt
new_now x place w Decided is present unclean uncleared = tt
new_now x place w (Differs y) is present unclean uncleared = tt
new_now x place w (Met r) is present unclean uncleared = λ gone. is_news x place w r.kind r.seat r.number is present unclean uncleared gone
new_now x place w (OutOfNumbers n) is present unclean uncleared = tt

-- what was known to be gone is so when the pass has learnt more, so what is news then was news
gone_still : (x y : Whole) → KeepsNotes x.view y.view → Learns x.knows y.knows → y.view.seat ≡ x.view.seat → (k : RefKind) (s m n : ℕ) (f : Field)
    → IsGone k x s m n f → IsGone k y s m n f
gone_still x y keeps learns seat AnInstall s m n f gone = keeps (removed s m) gone
gone_still x y keeps learns seat AnExchange s m n f gone = ⊎_elim (λ here. inl (keeps (clean s m n f) here))
    (λ all. inr (cleared_kept x y keeps learns seat s m all)) gone

pub news_before : (x y : Whole) → KeepsNotes x.view y.view → Learns x.knows y.knows → y.view.seat ≡ x.view.seat → (place : Place) (i : Installed)
    → IfMet i (IsNews y place) → IfMet i (IsNews x place)
unfolding gone_still
news_before x y keeps learns seat place Held news = tt
news_before x y keeps learns seat place Decided news = tt
news_before x y keeps learns seat place (Differs d) news = tt
news_before x y keeps learns seat place (Met r) news = λ gone. news (gone_still x y keeps learns seat r.kind r.seat r.number place.node place.field gone)
news_before x y keeps learns seat place (OutOfNumbers n) news = tt

-- the pass of the exchange that was met has come to it
come_so : (k : PassKnows) (c : WordKind) (r : RefKind) (s m : ℕ) → c ≡ word_of r s m → ((p a : ℕ) → c ≡ Exchange p a → Has k.noted (came_to p a))
    → r ≡ AnExchange → Has k.noted (came_to s m)
come_so k c AnInstall s m is came exchange = absurd (cc)
come_so k c AnExchange s m is came exchange = came s m is

pub come_now : (k : PassKnows) (c : WordKind) (i : Installed) → IfMet i (λ r. c ≡ word_of r.kind r.seat r.number)
    → ((p a : ℕ) → c ≡ Exchange p a → Has k.noted (came_to p a)) → IfMet i (HasCome k)
unfolding come_so
come_now k c Held is came = tt
come_now k c Decided is came = tt
come_now k c (Differs x) is came = tt
come_now k c (Met r) is came = come_so k c r.kind r.seat r.number is came
come_now k c (OutOfNumbers n) is came = tt

-- where a number was found that isn't the old one, the exchange is outdated
pub outdated_now : (x : Whole) (op : Ref) (place : Place) (r old : ℕ) (y : Whole) (i : Installed) → op.seat < 64
    → x.view.install.op ≡ raw (Exchange op.seat op.number) → OldDiffers x place.node r old y → r ≢ old
    → IfDiffers i (λ v. kind r ≡ Plain v) → IfDiffers i (λ v. KnowsOutdated y.knows op place)
outdated_now x op place r old y Held small named differs other is = tt
outdated_now x op place r old y Decided small named differs other is = tt
outdated_now x op place r old y (Differs v) small named differs other is = differs other op.seat op.number v named small is
outdated_now x op place r old y (Met m) small named differs other is = tt
outdated_now x op place r old y (OutOfNumbers n) small named differs other is = tt
