-- A step of the table under the whole rule, once for all: a kind of step owes a step of the board, the history and what
-- the pass knows, and what is told.
use Rattle.std.proofs.Common.{◌≡◌, ◌≢◌, ℕ, eqb, Bool, List, get_or, set, refl, sym, ap, ◌∙◌, subst}
use mathlib.Core.Option.{some}
use lib.ListN.{get_elem?}
use prog.Atomic.{either}
use Rattle.atomic_table.specs.Table.{keeps, Allows}
use Rattle.atomic_table.proofs.Lists.{exchanged, set_here, at_map}
use Rattle.pc_model.specs.Forms.{Form}
use Rattle.pc_rule_law.specs.Board.{Size, Place, Board, shows, address, Inside, Only}
use Rattle.pc_rule_law.specs.Past.{Past}
use Rattle.pc_rule_law.specs.Plays.{SameSeat}
use Rattle.pc_rule_law.proofs.Lists.{below_length}
use Rattle.pc_rule_law.proofs.Places.{wrote}
use Rattle.pc_rule_law.proofs.Steps.{told, well}
use Rattle.pc_protocol.specs.Histories.{History}
use Rattle.pc_exchange_law.specs.Ties.{CellsAreSound}
use Rattle.pc_exchange_law.specs.Wholes.{Whole, views_of, WholeKept, WholeHolds}
use Rattle.pc_exchange_law.specs.WholePlays.{WholeMine, WholeTells}

module _ (form : Form) (z : Size) where
  -- after a step on the place p, which shows n then: the view that the seat has, the board, the past and the rest
  pub record WholeGoes (b : Board) (views : List Whole) (id : ℕ) (p : Place) (n : ℕ) (then : Whole → Type 0)
      : Type 0 where
    pub view : Whole
    pub board : Board
    pub past : Past
    pub history : History
    pub late : ℕ → Bool
    pub only : Only p b board
    pub is : shows board p ≡ n
    pub kept : WholeKept form z board past history late (set views id view)
    pub told : then view

  -- the same step, of which something else is told
  pub retold : (b : Board) (views : List Whole) (id : ℕ) (p : Place) (n : ℕ) (then then' : Whole → Type 0)
      → ((y : Whole) → then y → then' y) → WholeGoes b views id p n then → WholeGoes b views id p n then'
  retold b views id p n then then' tell g = record {
    view = g.view;
    board = g.board;
    past = g.past;
    history = g.history;
    late = g.late;
    only = g.only;
    is = g.is;
    kept = g.kept;
    told = tell g.view g.told;
  }

  -- whatever the board is that the seat with the view x steps on
  abbrev pub WholeOwes : ℕ → Whole → Place → (ℕ → ℕ) → (ℕ → Whole → Type 0) → Type 0
  WholeOwes id x p f then = (b : Board) (t : Past) (h : History) (late : ℕ → Bool) (views : List Whole)
      → WholeKept form z b t h late views → get_elem? views id ≡ some x
      → WholeGoes b views id p (f (shows b p)) (then (shows b p))

  -- a look, which changes no word
  abbrev pub WholeLooks : ℕ → Whole → Place → (ℕ → Whole → Type 0) → Type 0
  WholeLooks id x p then = (b : Board) (t : Past) (h : History) (late : ℕ → Bool) (views : List Whole)
      → WholeKept form z b t h late views → get_elem? views id ≡ some x
      → (y : Whole) × WholeKept form z b t h late (set views id y) × then (shows b p) y

  -- a compare_exchange: either it finds the old word and goes on, or it is a look
  abbrev pub WholeHits : ℕ → Whole → Place → ℕ → ℕ → (ℕ → Whole → Type 0) → Type 0
  WholeHits id x p old new then = (b : Board) (t : Past) (h : History) (late : ℕ → Bool) (views : List Whole)
      → WholeKept form z b t h late views → get_elem? views id ≡ some x → shows b p ≡ old
      → WholeGoes b views id p new (then (shows b p))

  abbrev pub WholeMisses : ℕ → Whole → Place → ℕ → (ℕ → Whole → Type 0) → Type 0
  WholeMisses id x p old then = (b : Board) (t : Past) (h : History) (late : ℕ → Bool) (views : List Whole)
      → WholeKept form z b t h late views → get_elem? views id ≡ some x → shows b p ≢ old
      → (y : Whole) × WholeKept form z b t h late (set views id y) × then (shows b p) y

  pub whole_allowed : (slots id : ℕ) (me : WholeMine) (p : Place) (f : ℕ → ℕ) (T : ℕ → Whole → Place → Type 0)
      → Inside z p → me.0.view.size ≡ z → WholeOwes id me.0 p f (λ r y. SameSeat me.0.view y.view × T r y p)
      → Allows (WholeHolds form z) slots id me (address z p) f (λ r. WholeTells me (address z p) (T r))
  whole_allowed slots id me p f T in_p sized owes s held _ at _ =
      let found : get_or s.words (address z p) 0 ≡ shows held.board p = held.represents.each p in_p in
      let g = owes held.board held.past held.history held.late s.views held.kept at in (
        g.view,
        keeps,
        tt,
        record {
          board = g.board;
          past = g.past;
          history = g.history;
          late = g.late;
          represents = wrote z s.words held.board g.board p (f (get_or s.words (address z p) 0)) held.represents in_p
              (g.is ∙ ap f (sym found)) g.only;
          kept = g.kept;
        },
        (
          refl,
          g.told.0,
          told z me.0.view p (T (get_or s.words (address z p) 0) g.view) sized in_p
              (subst (λ (n : ℕ). T n g.view p) (sym found) g.told.1),
          well (CellsAreSound form) z g.board g.past (views_of (set s.views id g.view)) id g.view.view g.kept.kept
              (at_map (λ (u : Whole). u.view) (set s.views id g.view) id g.view
              (set_here s.views id g.view (below_length s.views id me.0 at))),
        ),
      )

  pub whole_looked_at : (slots id : ℕ) (me : WholeMine) (p : Place) (T : ℕ → Whole → Place → Type 0) → Inside z p
      → me.0.view.size ≡ z → WholeLooks id me.0 p (λ r y. SameSeat me.0.view y.view × T r y p)
      → Allows (WholeHolds form z) slots id me (address z p) (λ n. n) (λ r. WholeTells me (address z p) (T r))
  whole_looked_at slots id me p T in_p sized looks = whole_allowed slots id me p (λ n. n) T in_p sized
      (λ b t h late views k at. let g = looks b t h late views k at in
      record { view = g.0; board = b; past = t; history = h; late = late; only = λ q _. refl; is = refl; kept = g.1; told = g.2 })

  pub whole_swapped : (slots id : ℕ) (me : WholeMine) (p : Place) (old new : ℕ) (T : ℕ → Whole → Place → Type 0)
      → Inside z p → me.0.view.size ≡ z
      → WholeHits id me.0 p old new (λ r y. SameSeat me.0.view y.view × T r y p)
      → WholeMisses id me.0 p old (λ r y. SameSeat me.0.view y.view × T r y p)
      → Allows (WholeHolds form z) slots id me (address z p) (λ n. either (eqb n old) new n)
      (λ r. WholeTells me (address z p) (T r))
  whole_swapped slots id me p old new T in_p sized hits misses = whole_allowed slots id me p
      (λ n. either (eqb n old) new n) T in_p sized
      (λ b t h late views k at. exchanged (shows b p) old new
      (λ n. WholeGoes b views id p n (λ y. SameSeat me.0.view y.view × T (shows b p) y p))
      (λ hit. hits b t h late views k at hit)
      (λ miss. let g = misses b t h late views k at miss in
      record { view = g.0; board = b; past = t; history = h; late = late; only = λ q _. refl; is = refl; kept = g.1; told = g.2 }))
