-- The law of the steps of an exchange on a worked board: it opens, its first pass reads the clock and stores its
-- descriptor, and publishes an exchange that raises a version. What comes of that is in WorkedSteps.
use Rattle.std.proofs.Common.{◌≡◌, ◌≢◌, None, ap, ℕ, zero, suc, ◌+◌, ◌*◌, ◌^◌, ◌<◌, ◌≤◌, inl, ⊎_elim, Bool, true, false, ◌==◌, if◌then◌else◌, [], ◌∷◌, refl, sym, subst, arith}
use Rattle.std.proofs.lemmas.Bool.Decides.{nat_tests}
use mathlib.Core.Option.{some, some-injective, some-ne-none}
use lib.ListN.{get_elem?}
use Rattle.pc_model.specs.declared.cell.Field.{Field}
use Rattle.pc_model.specs.declared.cell.Field.TheVariants.{Version, Key, Value, Left, Right, Parent, Height, Spare}
use Rattle.pc_model.specs.Cells.{Cells, IsOdd}
use Rattle.pc_model.specs.Exchanges.{Changed, applied}
use Rattle.pc_model.specs.Forms.{IsSound, Fits}
use Rattle.pc_model.specs.Linked.{opening_cells}
use Rattle.pc_words.specs.declared.status.Stage.TheVariants.{Undecided}
use Rattle.pc_history.specs.Footprints.{IsAmong, RaisesVersionOf}
use Rattle.pc_rule_law.specs.Board.{Size, Board, place_number, put2}
use Rattle.pc_rule_law.specs.Past.{Attempt, Past, change, Describes, IsFormed}
use Rattle.pc_rule_law.specs.Views.{View, NoteHolds, AllNotes}
use Rattle.pc_rule_law.specs.Rule.{Own, Kept}
use Rattle.pc_rule_law.specs.Openings.{opening_board, opening_attempt, attempt_of, MayOpen, opening_words}
use Rattle.pc_rule_law.specs.Seats.{opening_past, new_view}
use Rattle.pc_rule_law.proofs.Lists.{all_one, all_none, none_has}
use Rattle.pc_rule_law.proofs.Openings.{may_open}
use Rattle.pc_rule_law.proofs.Seats.{opens}
use Rattle.pc_protocol.specs.Histories.{History}
use Rattle.pc_protocol.specs.Links.{MarksAlone}
use Rattle.pc_protocol.specs.Seeing.{ChangesVersion}
use Rattle.pc_protocol.specs.Steps.{publish}
use Rattle.pc_exchange_law.specs.OwnSlots.{OwnsSlots}
use Rattle.pc_exchange_law.specs.Slots.{IsHeld}
use Rattle.pc_exchange_law.specs.Ties.{exchange_of, CellsAreSound}
use Rattle.pc_exchange_law.specs.Changes.{with_status, with_values, RaisesNodes}
use Rattle.pc_exchange_law.specs.TieLaws.{opening_history}
use Rattle.pc_exchange_law.specs.Attempts.{Scripts, word_in}
use Rattle.pc_exchange_law.specs.AttemptSteps.{with_own_word, with_script, no_scripts}
use Rattle.pc_exchange_law.specs.Passes.{PassKnows, IsKnown}
use Rattle.pc_exchange_law.specs.Paths.{read_of, new_path}
use Rattle.pc_exchange_law.specs.Knowing.{after_clock, after_own_store, after_publication}
use Rattle.pc_exchange_law.specs.Wholes.{knows_nothing}
use Rattle.pc_exchange_law.specs.Worlds.{World}
use Rattle.pc_exchange_law.specs.ExchangeConditions.{KnowsOld, was_opened, KnowsBasis}
use Rattle.pc_exchange_law.specs.ExchangeLaws.{Comes, ExchangeStepsGoOn}
use Rattle.pc_exchange_law.proofs.SeenStamps.{none_above, above_clock}
use Rattle.pc_exchange_law.proofs.ExchangeLaws.{exchange_steps_go_on}
use Rattle.pc_exchange_law.proofs.OwnSlots.{slots_open}
use Rattle.pc_exchange_law.proofs.Paths.{empty_path}
use Rattle.pc_exchange_law.proofs.Passes.{world_opens, known_at_opening}
use Rattle.pc_exchange_law.proofs.WorkedForms.{bare_form, bare_is_linked, opening_is_bare}
use Rattle.pc_exchange_law.proofs.WordsSeen.{loads_tell_passes}

abbrev pub two : Size
two = record { seats = 2; slots = 1; shares = 1 ∷ 0 ∷ []; starts = record { attempt = 3; install = 0; stamp = 5; epoch = 1; version = 0 } }

abbrev pub cells : Cells
cells = opening_cells 0

one_of : (c : Bool) (x y : ℕ) → x < 2 ^ 62 → y < 2 ^ 62 → (if c then x else y) < 2 ^ 62
one_of true x y fits_x fits_y = fits_x
one_of false x y fits_x fits_y = fits_y

small_cells : (n : ℕ) (f : Field) → cells n f < 2 ^ 62
small_cells n Version = one_of (n == 1) 0 1 (omega arith) (omega arith)
small_cells n Key = one_of (n == 1) 4611686018427387903 0 (omega arith) (omega arith)
small_cells n Value = omega arith
small_cells n Left = omega arith
small_cells n Right = omega arith
small_cells n Parent = omega arith
small_cells n Height = omega arith
small_cells n Spare = omega arith

abbrev pub raise : Changed
raise = change 1 Version 0 2

abbrev pub to_raise : Attempt
to_raise = record { mode = 0; changes = raise ∷ []; visits = []; reads = []; fresh = None }

pub the_change : (i : ℕ) (x : Changed) → get_elem? to_raise.changes i ≡ some x → i ≡ 0
the_change zero x at = refl
the_change (suc i) x at = absurd (some-ne-none x (sym at))

pub formed : IsFormed 1 to_raise
formed = record {
  few = omega arith;
  few_visits = omega arith;
  visited = λ x has. absurd (none_has x has);
  inside = all_one (λ x. ((1 ≤ x.node) × (x.node ≤ 2)) × (x.old < 2 ^ 62) × (x.new < 2 ^ 62)) raise
      ((omega arith, omega arith), omega arith, omega arith);
  apart = λ i j x y at_i at_j _ _. let e = the_change i x at_i in let d = the_change j y at_j in omega arith;
}

pub raises : RaisesNodes to_raise
raises a among = ⊎_elim
    (λ e. subst (λ (y : Changed). RaisesVersionOf (exchange_of to_raise) y.node) (sym e)
    (record { change = raise; among = inl refl; is_of = (refl, refl); rises = inl (omega arith) }))
    (λ none'. absurd none') among

pub fits : Fits bare_form 1 (exchange_of to_raise) []
fits = record {
  leaves = λ c sound stands. let bare = sound.1 in (
    [],
    record {
      sentinel = refl;
      marked = λ n ne. subst IsOdd (sym (other_version c n ne)) (bare.marked n ne);
      left = bare.left;
      right = bare.right;
      parent = bare.parent;
    },
  );
  charges = λ c k sound stands debt. absurd debt;
}
  where
    other_version : (c : Cells) (n : ℕ) → n ≢ 1 → applied (exchange_of to_raise) c n Version ≡ c n Version
    other_version c n ne = grind (arith, nat_tests)

pub marks : MarksAlone (exchange_of to_raise)
marks a b among_a among_b field odd = absurd (⊎_elim
    (λ e. let two_is_odd : IsOdd 2 = subst (λ (y : Changed). IsOdd y.new) e odd in let clash : 0 ≡ 1 = two_is_odd in omega (arith, clash))
    (λ none'. none') among_a)

pub touches : (k : PassKnows) (a : Changed) → IsAmong a to_raise.changes → IsHeld k a.node
touches k a among = ⊎_elim (λ e. inl (ap (λ (y : Changed). y.node) e)) (λ none'. absurd none') among

-- ---- the board opens, and the pass at seat 0 reads the clock

pub empty_formed : IsFormed 1 (attempt_of [])
empty_formed = record {
  few = omega arith;
  few_visits = omega arith;
  inside = λ x has. absurd (none_has x has);
  visited = λ x has. absurd (none_has x has);
  apart = λ i j x y at. absurd (some-ne-none x (sym at));
}

pub opening : MayOpen (IsSound bare_form) two cells false []
opening = record {
  seats = (omega arith, omega arith);
  sound_cells = ([], opening_is_bare);
  small = small_cells;
  attempt = omega arith;
  few = omega arith;
  none = λ _. refl;
  formed = λ p. empty_formed;
}

abbrev pub b0 : Board
b0 = opening_board two cells []

abbrev pub t0 : Past
t0 = opening_past cells (opening_attempt []) (opening_words []) false

abbrev pub h0 : History
h0 = opening_history cells 5

abbrev pub none_late : ℕ → Bool
none_late j = false

abbrev pub v0 : View
v0 = new_view two 0 false []

pub kept0 : Kept (CellsAreSound bare_form) two b0 t0 (v0 ∷ [])
kept0 = opens (CellsAreSound bare_form) two b0 cells (opening_attempt []) (opening_words []) false []
    (may_open (CellsAreSound bare_form) two cells false [] opening)

pub own0 : Own two b0.install t0.course 0 v0
own0 = (kept0.each_view 0 v0 refl).own refl

pub world0 : World bare_form two b0 t0 no_scripts h0 none_late
world0 = world_opens bare_form two cells (λ n f. refl) ([], opening_is_bare) (omega arith) bare_is_linked

abbrev pub k0 : PassKnows
k0 = after_clock (knows_nothing two 0) 5 (read_of new_path) true

pub owned0 : OwnsSlots two h0 0 k0.own k0.slots
owned0 = slots_open two cells 5 0

pub known0 : IsKnown b0 t0 no_scripts h0 none_late 0 k0
known0 = (loads_tell_passes 1 2 b0 t0 no_scripts h0 none_late 0 (knows_nothing two 0) world0.scripts world0.rule world0.tied
    world0.clock (known_at_opening bare_form two cells 0)).clock (read_of new_path) true
    (empty_path h0 0 false).noted (λ _. omega arith)

-- what follows from a step
pub steps : (b : Board) (t : Past) (w : Scripts) (h : History) (late : ℕ → Bool) (b' : Board) (t' : Past) (w' : Scripts)
    (h' : History) (late' : ℕ → Bool) (k' : PassKnows) (v : View)
    → Comes bare_form two 0 b t w h late b' t' w' h' late' k' → Own two b'.install t'.course 0 v
    → AllNotes (NoteHolds two b' t') v.notes → ExchangeStepsGoOn bare_form two 0 b' t' w' h' late' v k'
steps b t w h late b' t' w' h' late' k' v c own noted = exchange_steps_go_on bare_form two 0 b' t' w' h' late' v k'
    (omega arith) c.shared c.world own noted c.known c.owned

-- the own install is as at the opening, whatever is noted
pub owns : (v : View) → v ≡ record v0 { notes = v.notes } → Own two b0.install t0.course 0 v
owns v is = subst (Own two b0.install t0.course 0) (sym is) (record { sized = own0.sized; seated = own0.seated; known = own0.known; ahead = own0.ahead; unplaced = own0.unplaced })

-- ---- the words of the descriptor: one change, of the version of node 1, from 0 to 2

abbrev pub b1 : Board
b1 = with_own_word b0 0 1 1

abbrev pub b2 : Board
b2 = with_own_word b1 0 3 8

abbrev pub b3 : Board
b3 = with_own_word b2 0 5 2

abbrev pub k1 : PassKnows
k1 = after_own_store k0 1 1

abbrev pub k2 : PassKnows
k2 = after_own_store k1 3 8

abbrev pub k3 : PassKnows
k3 = after_own_store k2 5 2

pub step1 : Comes bare_form two 0 b0 t0 no_scripts h0 none_late b1 t0 no_scripts h0 none_late k1
step1 = (exchange_steps_go_on bare_form two 0 b0 t0 no_scripts h0 none_late v0 k0 (omega arith) kept0.shared world0 own0
    (all_none (NoteHolds two b0 t0)) known0 owned0).stores 1 1 refl

pub step2 : Comes bare_form two 0 b1 t0 no_scripts h0 none_late b2 t0 no_scripts h0 none_late k2
step2 = (steps b0 t0 no_scripts h0 none_late b1 t0 no_scripts h0 none_late k1 v0 step1 own0
    (all_none (NoteHolds two b1 t0))).stores 3 8 refl

pub step3 : Comes bare_form two 0 b2 t0 no_scripts h0 none_late b3 t0 no_scripts h0 none_late k3
step3 = (steps b1 t0 no_scripts h0 none_late b2 t0 no_scripts h0 none_late k2 v0 step2 own0
    (all_none (NoteHolds two b2 t0))).stores 5 2 refl

-- ---- publication, as attempt 4

pub described : Describes 1 to_raise (word_in k3.own.words)
described = record {
  mode = refl;
  changes = refl;
  visits = refl;
  each_change = entry;
  each_visit = λ i x at. absurd (some-ne-none x (sym at));
}
  where
    entry : (i : ℕ) (x : Changed) → get_elem? to_raise.changes i ≡ some x
        → (word_in k3.own.words (3 + 3 * i) ≡ place_number x.node x.field)
        × (word_in k3.own.words (4 + 3 * i) ≡ x.old) × (word_in k3.own.words (5 + 3 * i) ≡ x.new)
    entry zero x at = subst (λ (y : Changed). (8 ≡ place_number y.node y.field) × (0 ≡ y.old) × (2 ≡ y.new))
        (some-injective raise x at) (refl, refl, refl)
    entry (suc i) x at = absurd (some-ne-none x (sym at))

-- the board opened with this version
pub basis : (k : PassKnows) → KnowsBasis two k to_raise
basis k a among = ⊎_elim
    (λ e. subst (λ (y : Changed). (v : ℕ) × ChangesVersion (exchange_of to_raise) y.node v × KnowsOld two k y.node v y.field y.old)
    (sym e) (0, record { change = raise; among = inl refl; is_of = (refl, refl); old = refl }, was_opened refl refl))
    (λ none'. absurd none') among

abbrev pub b4 : Board
b4 = with_status b3 0 (record { number = 4; stage = Undecided })

abbrev pub t4 : Past
t4 = with_values t0 cells cells (put2 t0.attempt 0 4 to_raise) (put2 t0.words 0 4 (b3.word 0))

abbrev pub w4 : Scripts
w4 = with_script no_scripts 0 4 (b3.word 0)

abbrev pub h4 : History
h4 = publish h0 256 (exchange_of to_raise) 5

abbrev pub k4 : PassKnows
k4 = after_publication k3 256 (exchange_of to_raise) 5

pub step4 : Comes bare_form two 0 b3 t0 no_scripts h0 none_late b4 t4 w4 h4 none_late k4
step4 = (steps b2 t0 no_scripts h0 none_late b3 t0 no_scripts h0 none_late k3 v0 step3 own0
    (all_none (NoteHolds two b3 t0))).publishes new_path to_raise 5 [] (λ y among. absurd among) (record {
      rests = refl;
      room = omega arith;
      clock = (0, refl);
      above = above_clock [] 5 (read_of new_path) (none_above 5);
      formed = formed;
      raises = raises;
      marks = marks;
      touches = λ a among. inl (touches k3 a among);
      makes = tt;
      seen = inl (refl, (refl, refl));
      described = described;
      fits = fits;
      based = basis k3;
    })
