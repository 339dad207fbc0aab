-- A step of the table, once for all: a kind of step owes a step of the board, what it does to the past, and what is
-- told.
use Rattle.std.proofs.Common.{◌≡◌, ◌≢◌, ℕ, ◌+◌, eqb, List, get_or, set, refl, sym, ap, ◌∙◌, subst}
use mathlib.Core.Option.{some}
use lib.ListN.{get_elem?}
use prog.Atomic.{either}
use Rattle.atomic_table.specs.Table.{keeps, Allows}
use Rattle.atomic_table.proofs.Lists.{exchanged, set_here}
use Rattle.pc_model.specs.declared.cell.Field.{Field}
use Rattle.pc_model.specs.Cells.{Cells}
use Rattle.pc_words.specs.declared.word.WordKind.{WordKind}
use Rattle.pc_words.specs.declared.status.Stage.TheVariants.{Undecided}
use Rattle.pc_rule_law.specs.Board.{Size, Place, Board, shows, address, Inside, Only, put2}
use Rattle.pc_rule_law.specs.Past.{Attempt, Placing, Past}
use Rattle.pc_rule_law.specs.Views.{View, NoteInRange, AllNotes}
use Rattle.pc_rule_law.specs.Rule.{Kept, Holds}
use Rattle.pc_rule_law.specs.Plays.{Mine, IsWell, SameSeat, Told, Tells}
use Rattle.pc_rule_law.proofs.Lists.{below_length}
use Rattle.pc_rule_law.proofs.Places.{wrote, one_place}
use Rattle.pc_rule_law.proofs.StatusMoves.{with_status, with_values}
use Rattle.pc_rule_law.proofs.WordMoves.{WordMoves, with_cell, with_installs}

-- what a step makes of the board and the past: a store of a word of the own install, and a change of one word of a node.
-- A look changes neither
abbrev pub StoresInstall : ℕ → ℕ → ℕ → Board → Past → Board → Past → Type 0
StoresInstall id place x b h b' h' = (b' ≡ record b { install = put2 b.install id place x }) × (h' ≡ h)

abbrev pub StoresWord : ℕ → ℕ → ℕ → Board → Past → Board → Past → Type 0
StoresWord id place x b h b' h' = (b' ≡ record b { word = put2 b.word id place x }) × (h' ≡ h)

abbrev pub Publishes : ℕ → Attempt → Board → Past → Board → Past → Type 0
Publishes id e b h b' h' = let a : ℕ = (b.status id).number + 1 in
    (b' ≡ with_status b id (record { number = a; stage = Undecided }))
    × (h' ≡ with_values h h.cells h.plain (put2 h.attempt id a e) (put2 h.words id a (b.word id)))

pub record MovesWord (z : Size) (id n : ℕ) (f : Field) (c : WordKind) (b : Board) (h : Past) (b' : Board) (h' : Past)
    : Type 0 where
  pub placing' : ℕ → ℕ → Placing
  pub course' : ℕ → ℕ → ℕ
  pub moves : WordMoves z b h id n f c placing' course'
  pub board : b' ≡ with_cell b n f c
  pub past : h' ≡ with_installs h placing' course'

-- whatever it makes of them
abbrev Anything : Board → Past → Board → Past → Type 0
Anything b h b' h' = Unit {0}

pub told : (z : Size) (v : View) (p : Place) (T : Place → Type 0) → v.size ≡ z → Inside z p → T p
    → Told v (address z p) T
told z v p T is in_p t q in_q same = subst T
    (one_place z p q in_p (subst (λ (y : Size). Inside y q) is in_q) (same ∙ ap (λ (y : Size). address y q) is)) t

module _ (sound : ℕ → Cells → Cells → Type 0) (z : Size) where
  module _ (event : Board → Past → Board → Past → Type 0) where
    -- after a step on the place p, which shows x then: the view that the seat has, the board and the past
    pub record Goes (b : Board) (h : Past) (views : List View) (id : ℕ) (p : Place) (x : ℕ)
        (then : View → Type 0) : Type 0 where
      pub view : View
      pub board : Board
      pub past : Past
      pub only : Only p b board
      pub is : shows board p ≡ x
      pub kept : Kept sound z board past (set views id view)
      pub happens : event b h board past
      pub told : then view

    -- whatever the board is that the seat with the view v steps on
    abbrev pub Owes : ℕ → View → Place → (ℕ → ℕ) → (ℕ → View → Type 0) → Type 0
    Owes id v p f then = (b : Board) (h : Past) (views : List View) → Kept sound z b h views
        → get_elem? views id ≡ some v
        → Goes b h views id p (f (shows b p)) (then (shows b p))

    -- a compare_exchange: either it finds the old word and goes on, or it is a look
    abbrev pub Hits : ℕ → View → Place → ℕ → ℕ → (ℕ → View → Type 0) → Type 0
    Hits id v p old new then = (b : Board) (h : Past) (views : List View) → Kept sound z b h views
        → get_elem? views id ≡ some v → shows b p ≡ old → Goes b h views id p new (then (shows b p))

  -- a look, which changes no word
  abbrev pub Looks : ℕ → View → Place → (ℕ → View → Type 0) → Type 0
  Looks id v p then = (b : Board) (h : Past) (views : List View) → Kept sound z b h views
      → get_elem? views id ≡ some v
      → (w : View) × Kept sound z b h (set views id w) × then (shows b p) w

  abbrev pub Misses : ℕ → View → Place → ℕ → (ℕ → View → Type 0) → Type 0
  Misses id v p old then = (b : Board) (h : Past) (views : List View) → Kept sound z b h views
      → get_elem? views id ≡ some v → shows b p ≢ old
      → (w : View) × Kept sound z b h (set views id w) × then (shows b p) w

  -- the notes of a view that stands among those of the rule are of the board
  pub well : (b : Board) (h : Past) (views : List View) (id : ℕ) (v : View) → Kept sound z b h views
      → get_elem? views id ≡ some v → IsWell v
  well b h views id v k at live = let mine = k.each_view id v at in subst
      (λ (y : Size). AllNotes (NoteInRange y) v.notes) (sym (mine.own live).sized) (λ x has. (mine.noted x has).1)

  pub allowed : (event : Board → Past → Board → Past → Type 0) (slots id : ℕ) (me : Mine) (p : Place) (f : ℕ → ℕ)
      (T : ℕ → View → Place → Type 0) → Inside z p
      → me.0.size ≡ z → Owes event id me.0 p f (λ r w. SameSeat me.0 w × T r w p)
      → Allows (Holds sound z) slots id me (address z p) f (λ r. Tells me (address z p) (T r))
  allowed event slots id me p f T in_p sized owes s h _ at _ =
      let found : get_or s.words (address z p) 0 ≡ shows h.board p = h.represents.each p in_p in
      let g = owes h.board h.past s.views h.kept at in (
        g.view,
        keeps,
        tt,
        record {
          board = g.board;
          past = g.past;
          represents = wrote z s.words h.board g.board p
              (f (get_or s.words (address z p) 0)) h.represents in_p (g.is ∙ ap f (sym found)) g.only;
          kept = g.kept;
        },
        (
          refl,
          g.told.0,
          told z me.0 p (T (get_or s.words (address z p) 0) g.view) sized in_p
              (subst (λ (n : ℕ). T n g.view p) (sym found) g.told.1),
          well g.board g.past (set s.views id g.view) id g.view g.kept
              (set_here s.views id g.view (below_length s.views id me.0 at)),
        ),
      )

  pub looked : (slots id : ℕ) (me : Mine) (p : Place) (T : ℕ → View → Place → Type 0) → Inside z p → me.0.size ≡ z
      → Looks id me.0 p (λ r w. SameSeat me.0 w × T r w p)
      → Allows (Holds sound z) slots id me (address z p) (λ n. n) (λ r. Tells me (address z p) (T r))
  looked slots id me p T in_p sized looks = allowed Anything slots id me p (λ n. n) T in_p sized
      (λ b h views k at. let g = looks b h views k at in
      record { view = g.0; board = b; past = h; only = λ q _. refl; is = refl; kept = g.1; happens = tt; told = g.2 })

  pub swapped : (event : Board → Past → Board → Past → Type 0) (slots id : ℕ) (me : Mine) (p : Place) (old new : ℕ)
      (T : ℕ → View → Place → Type 0) → Inside z p
      → me.0.size ≡ z → Hits event id me.0 p old new (λ r w. SameSeat me.0 w × T r w p)
      → Misses id me.0 p old (λ r w. SameSeat me.0 w × T r w p)
      → Allows (Holds sound z) slots id me (address z p) (λ n. either (eqb n old) new n)
      (λ r. Tells me (address z p) (T r))
  swapped event slots id me p old new T in_p sized hits misses = allowed Anything slots id me p
      (λ n. either (eqb n old) new n) T in_p sized
      (λ b h views k at. exchanged (shows b p) old new
      (λ x. Goes Anything b h views id p x (λ w. SameSeat me.0 w × T (shows b p) w p))
      (λ hit. let g = hits b h views k at hit in
      record { view = g.view; board = g.board; past = g.past; only = g.only; is = g.is; kept = g.kept; happens = tt; told = g.told })
      (λ miss. let g = misses b h views k at miss in
      record { view = g.0; board = b; past = h; only = λ q _. refl; is = refl; kept = g.1; happens = tt; told = g.2 }))
