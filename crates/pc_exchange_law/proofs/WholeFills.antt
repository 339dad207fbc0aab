-- A pass fills a number into a word of its spare, under the whole rule.
use Rattle.std.proofs.Common.{◌≡◌, ℕ, ◌≤◌, le_refl, Bool, false, true, List, [], refl, sym, ap, ◌∙◌, subst, arith, ◌==◌, if◌then◌else◌}
use mathlib.Core.Option.{some, none}
use lib.ListN.{get_elem?}
use Rattle.atomic_table.specs.Table.{step, Allows}
use Rattle.pc_model.specs.declared.cell.Field.{Field}
use Rattle.pc_model.specs.declared.cell.Field.TheVariants.{Version}
use Rattle.pc_model.specs.Cells.{field_number}
use Rattle.pc_model.specs.Forms.{Form}
use Rattle.pc_words.specs.declared.word.WordKind.TheVariants.{Plain, Install, Exchange}
use Rattle.pc_words.specs.Words.{raw, InRange}
use Rattle.pc_words.proofs.Words.{kind_raw}
use Rattle.pc_history.specs.Updates.{word_updated}
use Rattle.pc_history.proofs.Updates.{word_updated_here, word_updated_other, on_word_updated}
use Rattle.pc_rule_law.specs.Board.{Size, Board, at_cell, address, Inside}
use Rattle.pc_rule_law.specs.Past.{Past}
use Rattle.pc_rule_law.specs.Plays.{SameSeat}
use Rattle.pc_rule_law.specs.Rule.{Shared, CellOk}
use Rattle.pc_rule_law.specs.Views.{NoteHolds, IsClean}
use Rattle.pc_rule_law.proofs.Frames.{only_cell}
use Rattle.pc_rule_law.proofs.Keeping.{Grows}
use Rattle.pc_rule_law.proofs.Lists.{all_none}
use Rattle.pc_rule_law.proofs.Updates.{at_put_cell, put_cell-here}
use Rattle.pc_protocol.specs.Histories.{History}
use Rattle.pc_protocol.specs.Steps.{Keeps, fill, CanFill}
use Rattle.pc_protocol.proofs.Bases.{bases_still}
use Rattle.pc_protocol.proofs.Owned.{steps_keep_owned}
use Rattle.pc_protocol.proofs.Stages.{spare_not_used}
use Rattle.pc_protocol.proofs.Words.{fill_keeps}
use Rattle.pc_exchange_law.specs.Changes.{with_word, with_values}
use Rattle.pc_exchange_law.specs.ExchangeConditions.{MayFill}
use Rattle.pc_exchange_law.specs.OwnSlots.{IsOfShare, OwnsSlots, HoldsSpare, with_filled}
use Rattle.pc_exchange_law.specs.Passes.{IsKnown}
use Rattle.pc_exchange_law.specs.Ties.{seat_in, reference_in, IsSeated, IsTied, CellsAreSound}
use Rattle.pc_exchange_law.specs.WholePlays.{WholeMine, FilledSpare}
use Rattle.pc_exchange_law.specs.WholeSteps.{whole_fills}
use Rattle.pc_exchange_law.specs.Wholes.{Whole, WholeKept, WholeHolds}
use Rattle.pc_exchange_law.specs.Worlds.{World}
use Rattle.pc_exchange_law.proofs.KnowingSteps.{goes_on}
use Rattle.pc_exchange_law.proofs.OwnSlots.{one_share, fill_others, fill_own}
use Rattle.pc_exchange_law.proofs.SeenPaths.{paths_still}
use Rattle.pc_exchange_law.proofs.Slots.{fill_kept}
use Rattle.pc_exchange_law.proofs.WholeKeeping.{mine, own_here, known_here, owned_here, path_kept, whole_goes}
use Rattle.pc_exchange_law.proofs.WholeSlots.{plain_number}
use Rattle.pc_exchange_law.proofs.WholeSteps.{WholeGoes, whole_allowed}
use Rattle.pc_exchange_law.proofs.Worlds.{Goes, linked_now}

module _ (form : Form) (z : Size) (id n : ℕ) (f : Field) (v : ℕ) (x : Whole) (live : x.view.live ≡ true) (may : MayFill x.knows n f v)
    (in_p : Inside z (at_cell n f)) (b : Board) (t : Past) (h : History) (late : ℕ → Bool) (views : List Whole)
    (k : WholeKept form z b t h late views) (at : get_elem? views id ≡ some x) where
  abbrev b' : Board
  b' = with_word b n f (Plain v)

  abbrev t' : Past
  t' = with_values t t.cells (word_updated t.plain n f v) t.attempt t.words

  abbrev h' : History
  h' = fill h n f v

  own_slots : OwnsSlots z h id x.knows.own x.knows.slots
  own_slots = owned_here form z b t h late views k id x at live

  not_named : x.knows.slots.named ≡ false
  not_named = own_slots.rests may.rests

  held : HoldsSpare h x.knows.slots n
  held = own_slots.unnamed n may.is_spare not_named

  mine_so : IsOfShare z id n
  mine_so = own_slots.of_share n may.is_spare

  can : CanFill h n
  can = record {
    is_spare = held.spare.0;
    not_named = λ y g u is same. let seat = one_share z (seat_in y) id n (subst (IsOfShare z (seat_in y)) same (k.world.slots.made y g u is)) mine_so in
        let names = own_slots.names y g seat u is in absurd (let clash : true ≡ false = sym names.0 ∙ not_named in cc);
  }

  keeps : Keeps h h'
  keeps = fill_keeps h k.world.rule n f v can

  -- what stood there is plain
  found : (u : ℕ) × (b.cell n f ≡ Plain u)
  found = plain_number (b.cell n f) (k.world.slots.plain n f (λ u. spare_not_used (h.slot n) held.spare.0 u))

  -- so references stay
  install_stays : (m : ℕ) (g : Field) (q i : ℕ) → b.cell m g ≡ Install q i → b'.cell m g ≡ Install q i
  install_stays m g q i = at_put_cell b.cell n f (Plain v) (λ a l w. b.cell a l ≡ Install q i → w ≡ Install q i) m g
      (λ is. absurd (let clash : Plain found.0 ≡ Install q i = sym found.1 ∙ is in cc)) (λ _ is. is)

  exchange_stays : (m : ℕ) (g : Field) (q i : ℕ) → b.cell m g ≡ Exchange q i → b'.cell m g ≡ Exchange q i
  exchange_stays m g q i = at_put_cell b.cell n f (Plain v) (λ a l w. b.cell a l ≡ Exchange q i → w ≡ Exchange q i) m g
      (λ is. absurd (let clash : Plain found.0 ≡ Exchange q i = sym found.1 ∙ is in cc)) (λ _ is. is)

  install_was : (m : ℕ) (g : Field) (q i : ℕ) → b'.cell m g ≡ Install q i → b.cell m g ≡ Install q i
  install_was m g q i = at_put_cell b.cell n f (Plain v) (λ a l w. w ≡ Install q i → b.cell a l ≡ Install q i) m g
      (λ is. absurd (let clash : Plain v ≡ Install q i = is in cc)) (λ _ is. is)

  shared_then : Shared (CellsAreSound form) z b' t'
  shared_then = let s = k.kept.shared in record {
    sound_now = s.sound_now;
    ranges = λ m g. at_put_cell b.cell n f (Plain v) (λ a l w. InRange w) m g may.small (λ _. s.ranges m g);
    statuses = s.statuses;
    formed = s.formed;
    described = s.described;
    written = s.written;
    each_cell = λ m g. at_put_cell b.cell n f (Plain v)
        (λ a l w. CellOk z.seats b.status t.attempt t.placing t.course (word_updated t.plain n f v a l) a l w) m g
        (sym (word_updated_here t.plain n f v n f refl refl))
        (λ ne. subst (λ (u : ℕ). CellOk z.seats b.status t.attempt t.placing t.course u m g (b.cell m g))
        (sym (word_updated_other t.plain n f v m g ne)) (s.each_cell m g));
    installs = λ q i le. let p = s.installs q i le in record {
      owner = p.owner;
      seat = p.seat;
      inside = p.inside;
      small = p.small;
      ended = p.ended;
      number = p.number;
      published = p.published;
      listed = p.listed;
      present = p.present;
      there = λ one. install_stays (t.placing q i).node (t.placing q i).field q i (p.there one);
      described = p.described;
      late = p.late;
      alive = p.alive;
      won = λ two u. exchange_stays (t.placing q i).node (t.placing q i).field (t.placing q i).seat (t.placing q i).number (p.won two u);
    };
  }

  grows : Grows b t b' t'
  grows = record {
    versions = λ m. on_word_updated t.plain n f v (λ u. t.plain m Version ≤ u) m Version
        (λ here same. let up = may.version (sym same) in let r = held.raised in
        let was : h.plain n Version ≡ r.0 = r.1.1 in let tied : h.plain n Version ≡ t.plain n Version = k.world.tied.plain n Version in
        let le = r.2 in subst (λ (i : ℕ). t.plain i Version ≤ v) (sym here) (omega arith))
        (λ _. le_refl (t.plain m Version));
    numbers = λ p. omega arith;
    attempts = λ p a le. refl;
    decisions = λ p m d. d;
    references = λ p a m g u e. exchange_stays m g p a e;
    cleans = λ p a m g d c. at_put_cell b.cell n f (Plain v) (λ i l w. IsClean t.placing p a (b.cell i l) → IsClean t.placing p a w) m g
        (λ _. tt) (λ _ was. was) c;
    courses = λ q i. omega arith;
    placings = λ q i c. refl;
    descriptors = λ q i c e. (e, λ l. refl);
    clock = omega arith;
    words = λ p a le l. refl;
    written = λ p a le e busy. (e, busy, λ l. refl);
  }

  plain_then : (m : ℕ) (g : Field) → word_updated h.plain n f v m g ≡ word_updated t.plain n f v m g
  plain_then m g = ap (λ (w : ℕ). if field_number g == field_number f then (if m == n then v else w) else w) (k.world.tied.plain m g)

  tied_then : IsTied b' t' h'
  tied_then = let tied = k.world.tied in record {
    clock = tied.clock;
    last = tied.last;
    owners = tied.owners;
    references = λ m g. at_put_cell b.cell n f (Plain v) (λ i l w. h.reference i l ≡ reference_in w) m g
        (tied.references n f ∙ ap reference_in found.1) (λ _. tied.references m g);
    seated = λ m g. at_put_cell b.cell n f (Plain v) (λ i l w. IsSeated w) m g tt (λ _. tied.seated m g);
    plain = plain_then;
    cells = tied.cells;
    stages = tied.stages;
    published = tied.published;
    exchanges = tied.exchanges;
    uncleared = tied.uncleared;
  }

  world_then : World form z b' t' t'.words h' late
  world_then = let world = k.world in record {
    rule = keeps.rule;
    tied = tied_then;
    scripts = record { describe = world.scripts.describe; present = world.scripts.present };
    clock = world.clock;
    opened = world.opened;
    opening = world.opening;
    charged = world.charged;
    fits = world.fits;
    based = bases_still h h' keeps (λ y is. is) world.based;
    seen = paths_still h h' keeps (λ y is. is) world.seen;
    slots = fill_kept z b h world.rule world.slots (linked_now form z id b t t.words h late world) n f v can;
    lawful = world.lawful;
  }

  goes : Goes form z id b t t.words h late b' t' t'.words h' late
  goes = record {
    shared = shared_then;
    world = world_then;
    keeps = keeps;
    grows = grows;
    attempts = record {
      numbers = λ p. omega arith;
      decisions = λ p m d. d;
      scripts = λ p a place le. refl;
      words = λ p same busy. (busy, λ place. refl);
      calms = λ p a m g q i d is early. (install_was m g q i is, early);
    };
    leaves = record { count = refl; lives = λ j. refl; install = λ j ne i. refl; unplaced = λ j ne i e. e; absent = λ j ne i e. e; posted = refl; tries = λ j ne. record { number = refl; idle = λ i. i; busy = λ i. i; words = λ l. refl } };
    leaves_attempts = record { numbers = λ j ne. refl; resting = λ j ne i. i; working = λ j ne i. i; words = λ j place ne. refl; kept = λ j lt ne is. is };
    leaves_late = λ j ne. refl;
    unread = λ j s is. (steps_keep_owned h k.world.rule).fills_unread n f v j s is;
    stays = λ j a o lt ne was. fill_others z h k.world.rule id n f v mine_so j a o ne was;
  }

  abbrev after : Whole
  after = record x { knows = record x.knows { slots = with_filled x.knows.slots f v } }

  known_after : IsKnown b' t' t'.words h' late id after.knows
  known_after = let known = known_here form z b t h late views k id x at live in let own = own_here form z b t h late views k id x at live in
      let few = k.kept.few in let lt = own.seated.1 in
      let next = goes_on form z id b t t.words h late x.knows known (omega arith) b' t' t'.words h' late goes x.knows.own x.knows.ready
      (record { number = known.own.number; resting = known.own.resting; working = known.own.working; words = known.own.words; kept = known.own.kept })
      known.ready in record { own = next.own; ready = next.ready; noted = next.noted; told = next.told }

  fills : WholeGoes form z b views id (at_cell n f) (raw (Plain v))
      (λ y. SameSeat x.view y.view × FilledSpare x (raw (Plain v)) y (at_cell n f))
  fills = let own = own_here form z b t h late views k id x at live in record {
    view = after;
    board = b';
    past = t';
    history = h';
    late = late;
    only = only_cell b n f (Plain v);
    is = ap raw (put_cell-here b.cell n f (Plain v));
    kept = whole_goes form z b t h late views k id x at live b' t' h' late after [] (goes, known_after)
        (fill_own z h k.world.rule id n f v mine_so x.knows.own x.knows.slots may.rests may.is_spare may.version own_slots)
        (refl, refl, refl, refl) refl refl
        (record { sized = own.sized; seated = own.seated; known = own.known; ahead = own.ahead; unplaced = own.unplaced })
        (λ no. let was = (mine form z b t h late views k id x at live).tries live no in (
          was.0,
          record { number = was.1.number; resting = was.1.resting; running = was.1.running; words = was.1.words },
        ))
        (all_none (NoteHolds z b' t')) (path_kept form z b t h late views k id x at live h' keeps goes.unread);
    told = (
      (refl, refl, refl, refl, refl),
      λ u is. let same : v ≡ u = (let one : Plain v ≡ Plain u = sym (kind_raw (Plain v) may.small) ∙ is in cc) in
          ap (λ (i : ℕ). record x { knows = record x.knows { slots = with_filled x.knows.slots f i } }) same,
    );
  }

-- a number is filled into a word of the own spare
pub whole_fill : (form : Form) (z : Size) (slots id : ℕ) (me : WholeMine) (n : ℕ) (f : Field) (v : ℕ) → me.0.view.size ≡ z → me.0.view.live ≡ true
    → MayFill me.0.knows n f v → Inside z (at_cell n f)
    → Allows (WholeHolds form z) slots id me (address z (at_cell n f)) (λ _. raw (Plain v))
    (whole_fills (step slots (address z (at_cell n f)) (raw (Plain v)) 0 none) me)
whole_fill form z slots id me n f v sized live may in_p = whole_allowed form z slots id me (at_cell n f) (λ _. raw (Plain v))
    (λ _. FilledSpare me.0 (raw (Plain v))) in_p sized (λ b t h late views k at. fills form z id n f v me.0 live may in_p b t h late views k at)
