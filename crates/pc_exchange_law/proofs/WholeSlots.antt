-- A pass takes the next slot of its share as its spare, under the whole rule: it loads the version that stands there.
use Rattle.std.proofs.Common.{◌≡◌, ℕ, ◌+◌, ◌<◌, Bool, true, List, [], set, refl, sym, ap, ◌∙◌, subst, arith}
use mathlib.Core.Option.{some, none}
use lib.ListN.{get_elem?}
use Rattle.atomic_table.specs.Table.{step, Allows}
use Rattle.pc_model.specs.declared.cell.Field.TheVariants.{Version}
use Rattle.pc_model.specs.Cells.{IsOdd}
use Rattle.pc_model.specs.Forms.{Form}
use Rattle.pc_words.specs.declared.word.WordKind.{WordKind}
use Rattle.pc_words.specs.declared.word.WordKind.TheVariants.{Plain, Install, Exchange}
use Rattle.pc_words.specs.Words.{raw}
use Rattle.pc_words.proofs.Words.{kind_raw}
use Rattle.pc_rule_law.specs.Board.{Size, Board, at_cell, address, Inside}
use Rattle.pc_rule_law.specs.Past.{Past}
use Rattle.pc_rule_law.specs.Plays.{SameSeat}
use Rattle.pc_rule_law.specs.Rule.{Kept}
use Rattle.pc_rule_law.specs.Views.{NoteHolds}
use Rattle.pc_rule_law.proofs.Keeping.{noted_more}
use Rattle.pc_rule_law.proofs.Lists.{all_none, below_length, each_moved}
use Rattle.atomic_table.proofs.Lists.{at_map}
use Rattle.pc_protocol.specs.Histories.{History, cells_now, IsFree}
use Rattle.pc_protocol.specs.Steps.{Keeps, take_slot}
use Rattle.pc_protocol.proofs.Bases.{bases_still}
use Rattle.pc_protocol.proofs.Stages.{free_not_used, free_not_spare}
use Rattle.pc_protocol.proofs.Words.{take_slot_keeps}
use Rattle.pc_exchange_law.specs.ExchangeConditions.{MayTakeSlot}
use Rattle.pc_exchange_law.specs.OwnSlots.{IsOfShare, OwnsSlots, with_spare}
use Rattle.pc_exchange_law.specs.Passes.{PassKnows, IsKnown}
use Rattle.pc_exchange_law.specs.Paths.{IsPathOf}
use Rattle.pc_exchange_law.specs.Slots.{IsPlainWord}
use Rattle.pc_exchange_law.specs.Ties.{IsTied, CellsAreSound}
use Rattle.pc_exchange_law.specs.WholePlays.{WholeMine, TakesSlot}
use Rattle.pc_exchange_law.specs.WholeSteps.{whole_takes_slot}
use Rattle.pc_exchange_law.specs.Wholes.{Whole, views_of, knows_nothing, WholeKept, WholeHolds}
use Rattle.pc_exchange_law.specs.Worlds.{World}
use Rattle.pc_exchange_law.proofs.OwnSlots.{take_others, take_own}
use Rattle.pc_exchange_law.proofs.Paths.{path_stays}
use Rattle.pc_exchange_law.proofs.SeenPaths.{paths_still}
use Rattle.pc_exchange_law.proofs.Slots.{take_kept}
use Rattle.pc_exchange_law.proofs.FreeVersions.{unused_version, opened_version}
use Rattle.pc_exchange_law.proofs.WholeKeeping.{taken_kept, views_set, at_view, known_here, owned_here, path_here}
use Rattle.pc_exchange_law.proofs.WholeLooks.{plain_there}
use Rattle.pc_exchange_law.proofs.WholeSteps.{WholeGoes, whole_allowed}
use Rattle.pc_exchange_law.proofs.Worlds.{linked_now}

-- a plain word has a number
pub plain_number : (c : WordKind) → IsPlainWord c → (v : ℕ) × (c ≡ Plain v)
plain_number (Plain v) is = (v, refl)
plain_number (Install q k) is = absurd is
plain_number (Exchange p a) is = absurd is

module _ (form : Form) (z : Size) (id n : ℕ) (x : Whole) (live : x.view.live ≡ true) (sized : x.view.size ≡ z) (may : MayTakeSlot x.knows n)
    (in_p : Inside z (at_cell n Version)) (b : Board) (t : Past) (h : History) (late : ℕ → Bool) (views : List Whole)
    (k : WholeKept form z b t h late views) (at : get_elem? views id ≡ some x) where
  abbrev h' : History
  h' = take_slot h n

  own_slots : OwnsSlots z h id x.knows.own x.knows.slots
  own_slots = owned_here form z b t h late views k id x at live

  is_free : IsFree (h.slot n)
  is_free = own_slots.free n (let next = may.next in omega arith) may.within

  mine : IsOfShare z id n
  mine = let begins = own_slots.begins in let ends = own_slots.ends in let next = may.next in let within = may.within in
      (omega arith, omega arith)

  found : (v : ℕ) × (b.cell n Version ≡ Plain v)
  found = plain_number (b.cell n Version) (k.world.slots.plain n Version (λ u. free_not_used (h.slot n) is_free u))

  abbrev v : ℕ
  v = found.0

  plain_is : h.plain n Version ≡ v
  plain_is = k.world.tied.plain n Version ∙ plain_there form z b t k.kept.shared n Version v found.1

  now_is : cells_now h n Version ≡ v
  now_is = sym (k.world.rule.plain_is n Version (λ s. free_not_spare (h.slot n) is_free s)) ∙ plain_is

  odd : IsOdd v
  odd = subst IsOdd now_is (k.world.rule.unused n (λ u. free_not_used (h.slot n) is_free u))

  opened : v ≡ x.view.size.starts.version + 1
  opened = sym now_is ∙ unused_version h k.world.rule k.world.slots.changed n (λ u. free_not_used (h.slot n) is_free u) ∙ k.world.opened n Version
      ∙ opened_version z.starts.version n (λ one. let begins = own_slots.begins in let next = may.next in absurd (omega arith))
      ∙ ap (λ (y : Size). y.starts.version + 1) (sym sized)

  keeps : Keeps h h'
  keeps = take_slot_keeps h k.world.rule n is_free

  abbrev after : Whole
  after = record x { knows = record x.knows { slots = with_spare x.knows.slots v } }

  tied_then : IsTied b t h'
  tied_then = let tied = k.world.tied in record {
    clock = tied.clock;
    last = tied.last;
    owners = tied.owners;
    references = tied.references;
    seated = tied.seated;
    plain = tied.plain;
    cells = tied.cells;
    stages = tied.stages;
    published = tied.published;
    exchanges = tied.exchanges;
    uncleared = tied.uncleared;
  }

  world_then : World form z b t t.words h' late
  world_then = let world = k.world in record {
    rule = keeps.rule;
    tied = tied_then;
    scripts = world.scripts;
    clock = world.clock;
    opened = world.opened;
    opening = world.opening;
    charged = world.charged;
    fits = world.fits;
    based = bases_still h h' keeps (λ y is. is) world.based;
    seen = paths_still h h' keeps (λ y is. is) world.seen;
    slots = take_kept z b h world.rule world.slots (linked_now form z id b t t.words h late world) n is_free in_p;
    lawful = world.lawful;
  }

  known_then : (j : ℕ) (u : PassKnows) → IsKnown b t t.words h late j u → IsKnown b t t.words h' late j u
  known_then j u known = record {
    own = record { number = known.own.number; resting = known.own.resting; working = known.own.working; words = known.own.words; kept = known.own.kept };
    ready = known.ready;
    noted = known.noted;
    told = λ m has. keeps.notes m (known.told m has);
  }

  known_after : IsKnown b t t.words h' late id after.knows
  known_after = let known = known_then id x.knows (known_here form z b t h late views k id x at live) in record {
    own = known.own;
    ready = known.ready;
    noted = known.noted;
    told = known.told;
  }

  -- passes that aren't made yet are others
  made : id < t.count
  made = subst (λ (c : ℕ). id < c) k.kept.counted (below_length (views_of views) id x.view (at_map (λ (u : Whole). u.view) views id x at))

  slot_taken : WholeKept form z b t h' late (set views id after)
  slot_taken = record {
    kept = subst (Kept (CellsAreSound form) z b t) (sym (views_set views id after))
        (noted_more (CellsAreSound form) z b t (views_of views) id x.view [] k.kept (at_view form z b t h late views k id x at live)
        live (all_none (NoteHolds z b t)));
    world = world_then;
    known = each_moved views id after (λ j u. u.view.live ≡ true → IsKnown b t t.words h late j u.knows)
        (λ j u. u.view.live ≡ true → IsKnown b t t.words h' late j u.knows) k.known (λ _. known_after)
        (λ j u ne at_j was alive. known_then j u.knows (was alive));
    paths = each_moved views id after (λ j u. u.view.live ≡ true → IsPathOf h j u.path)
        (λ j u. u.view.live ≡ true → IsPathOf h' j u.path) k.paths
        (λ _. path_stays h h' keeps id x.path (path_here form z b t h late views k id x at live) (λ s is. is))
        (λ j u ne at_j was alive. path_stays h h' keeps j u.path (was alive) (λ s is. is));
    owned = each_moved views id after (λ j u. u.view.live ≡ true → OwnsSlots z h j u.knows.own u.knows.slots)
        (λ j u. u.view.live ≡ true → OwnsSlots z h' j u.knows.own u.knows.slots) k.owned
        (λ _. take_own z h k.world.rule id n is_free mine x.knows.own x.knows.slots v may.rests may.no_spare may.next plain_is now_is own_slots)
        (λ j u ne at_j was alive. take_others z h k.world.rule id n is_free mine j u.knows.own u.knows.slots ne (was alive));
    taken = taken_kept form z b t h late views k id x at live t h' after (λ j. refl) refl
        (λ j a o _ ne was. take_others z h k.world.rule id n is_free mine j a o ne was);
    unmade = λ j le lt. known_then j _ (k.unmade j le lt);
    unowned = λ j le lt. let mine_too = made in take_others z h k.world.rule id n is_free mine j (knows_nothing z j).own (knows_nothing z j).slots
        (λ same. absurd (omega arith)) (k.unowned j le lt);
    none_given = k.none_given;
  }

  takes : WholeGoes form z b views id (at_cell n Version) (raw (b.cell n Version))
      (λ y. SameSeat x.view y.view × TakesSlot x (raw (b.cell n Version)) y (at_cell n Version))
  takes = record {
    view = after;
    board = b;
    past = t;
    history = h';
    late = late;
    only = λ q _. refl;
    is = refl;
    kept = slot_taken;
    told = (
      (refl, refl, refl, refl, refl),
      (v, kind_raw (b.cell n Version) (k.kept.shared.ranges n Version) ∙ found.1, odd, opened, refl),
    );
  }

-- the next slot of the share is taken
pub whole_take_slot : (form : Form) (z : Size) (slots id : ℕ) (me : WholeMine) (n : ℕ) → me.0.view.size ≡ z → me.0.view.live ≡ true
    → MayTakeSlot me.0.knows n → Inside z (at_cell n Version)
    → Allows (WholeHolds form z) slots id me (address z (at_cell n Version)) (λ r. r)
    (whole_takes_slot (step slots (address z (at_cell n Version)) 0 0 none) me)
whole_take_slot form z slots id me n sized live may in_p = whole_allowed form z slots id me (at_cell n Version) (λ i. i)
    (TakesSlot me.0) in_p sized (λ b t h late views k at. takes form z id n me.0 live sized may in_p b t h late views k at)
