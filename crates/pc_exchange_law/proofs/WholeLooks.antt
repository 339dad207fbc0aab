-- Loads under the whole rule: of the clock, of a word of a descriptor, of a status, of a word of an install's
-- descriptor, and of a word of a node.
use Rattle.std.proofs.Common.{◌≡◌, ℕ, ◌<◌, ◌≤◌, ⊎_elim, Bool, true, false, List, refl, sym, ap, ◌∙◌, subst, arith}
use Rattle.std.proofs.lemmas.Bool.{cases_lt}
use mathlib.Core.Option.{none}
use Rattle.atomic_table.specs.Table.{step, Allows}
use Rattle.pc_model.specs.declared.cell.Field.{Field}
use Rattle.pc_model.specs.Forms.{Form, IsSound}
use Rattle.pc_model.specs.Exchanges.{Exchange as PathExchange}
use Rattle.pc_words.specs.declared.word.WordKind.{WordKind}
use Rattle.pc_words.specs.declared.word.WordKind.TheVariants.{Plain}
use Rattle.pc_words.specs.declared.status.Status.{Status}
use Rattle.pc_words.specs.Statuses.{packed, unpacked}
use Rattle.pc_words.specs.Words.{raw, kind}
use Rattle.pc_words.proofs.Statuses.{unpacked_packed}
use Rattle.pc_words.proofs.Words.{kind_raw}
use Rattle.pc_rule_law.specs.Board.{Size, Board, own_status, own_install, own_word, at_clock, at_own, address, Inside}
use Rattle.pc_rule_law.specs.Past.{Past}
use Rattle.pc_rule_law.specs.Rule.{CellOk, Shared}
use Rattle.pc_rule_law.specs.Plays.{SameSeat}
use Rattle.pc_rule_law.proofs.ClockLooks.{clock_looks}
use Rattle.pc_rule_law.proofs.DescriptorLooks.{word_looks}
use Rattle.pc_rule_law.proofs.InstallLooks.{install_looks}
use Rattle.pc_rule_law.proofs.StatusLooks.{status_looks}
use Rattle.pc_protocol.specs.Histories.{withdrawn, ended, aborted, History, IsUsed}
use Rattle.pc_protocol.specs.Notes.{verdict, IsTrueNote, published, outdated}
use Rattle.pc_protocol.proofs.Stages.{used_not_spare}
use Rattle.pc_protocol.specs.Seeing.{Covers}
use Rattle.pc_exchange_law.proofs.SeenStamps.{seen_below}
use Rattle.pc_exchange_law.specs.Knowing.{IsAboveSeen}
use Rattle.pc_exchange_law.specs.Ties.{code, last_stamp, CellsAreSound}
use Rattle.pc_exchange_law.specs.Knowing.{LoadsTellPasses, StatusSeen, WordSeen, after_clock}
use Rattle.pc_exchange_law.specs.Passes.{PassKnows, IsKnown}
use Rattle.pc_exchange_law.specs.Paths.{read_of}
use Rattle.pc_exchange_law.specs.Wholes.{Whole, views_of, WholeKept, WholeHolds}
use Rattle.pc_exchange_law.specs.WholePlays.{WholeMine, SeesClock, SeesWord, OwnVerdict, SeesStatus, SeesInstall}
use Rattle.pc_exchange_law.specs.WholeSteps.{whole_loads_clock, whole_loads_word, whole_loads_status, whole_loads_install}
use Rattle.pc_exchange_law.proofs.TieTelling.{board_tells}
use Rattle.pc_exchange_law.proofs.WordsSeen.{loads_tell_passes}
use Rattle.pc_exchange_law.proofs.WholeKeeping.{at_view, own_here, known_here, path_here, whole_looked}
use Rattle.pc_exchange_law.proofs.WholeSteps.{WholeLooks, whole_looked_at}

module _ (form : Form) (z : Size) where
  -- what a load tells the pass at this seat beside its view
  pub tells : (b : Board) (t : Past) (h : History) (late : ℕ → Bool) (views : List Whole)
      → WholeKept form z b t h late views → (id : ℕ) (k : PassKnows) → IsKnown b t t.words h late id k
      → LoadsTellPasses b t t.words h late id k
  tells b t h late views w id k known = loads_tell_passes z.slots z.seats b t t.words h late id k w.world.scripts w.world.rule
      w.world.tied w.world.clock known

  is_early : (r : ℕ) → (e : Bool) × (e ≡ true → r < last_stamp) × (r < last_stamp → e ≡ true) × (last_stamp ≤ r → e ≡ false)
  is_early r = ⊎_elim
      (λ lt. (true, (λ _. lt), (λ _. refl), λ le. absurd (omega arith)))
      (λ le. (false, (λ no. absurd (let clash : false ≡ true = no in cc)), (λ lt. absurd (omega arith)), λ _. refl))
      (cases_lt r last_stamp)

  pub whole_clock_looks : (id : ℕ) (x : Whole) → x.view.live ≡ true
      → WholeLooks form z id x at_clock (λ r y. SameSeat x.view y.view × SeesClock x r y at_clock)
  whole_clock_looks id x live b t h late views k at =
      let low = clock_looks (CellsAreSound form) z id x.view live b t (views_of views) k.kept
      (at_view form z b t h late views k id x at live) in
      let e = is_early b.clock in
      let y : Whole = record x { view = low.0; knows = after_clock x.knows b.clock (read_of x.path) e.0 } in (
        y,
        whole_looked form z b t h late views k id x at live y low.1
            ((tells b t h late views k id x.knows (known_here form z b t h late views k id x at live)).clock (read_of x.path) e.0
            (path_here form z b t h late views k id x at live).noted e.1) (refl, refl, refl) (path_here form z b t h late views k id x at live),
        (
          low.2.0,
          (
            low.2.1,
            record {
              noted = refl;
              early = e.2;
              late = e.3;
              ended = λ i has. (board_tells b t h k.world.rule k.world.tied).ran_out i
                  ((known_here form z b t h late views k id x at live).told (verdict i (aborted ended)) has);
              covers = λ i n c o past there. let told = (known_here form z b t h late views k id x at live).told in
                  let cause = told (outdated i n) past in
                  (cause.1.0, subst (λ (d : PathExchange). Covers d n cause.1.0) (told (published i o c) there).1 cause.1.1);
              above = subst (IsAboveSeen x.knows.told) k.world.tied.clock
                  (seen_below h k.world.rule x.knows.told (known_here form z b t h late views k id x at live).told);
            },
            refl,
            refl,
          ),
        ),
      )

  pub whole_load_clock : (slots id : ℕ) (me : WholeMine) → me.0.view.size ≡ z → me.0.view.live ≡ true
      → Allows (WholeHolds form z) slots id me (address z at_clock) (λ r. r)
      (whole_loads_clock (step slots (address z at_clock) 0 0 none) me)
  whole_load_clock slots id me sized live = whole_looked_at form z slots id me at_clock (SeesClock me.0) tt sized
      (whole_clock_looks id me.0 live)

  pub whole_word_looks : (id : ℕ) (x : Whole) (p place : ℕ) → x.view.live ≡ true → Inside z (at_own p (own_word place))
      → WholeLooks form z id x (at_own p (own_word place))
      (λ r y. SameSeat x.view y.view × SeesWord x r y (at_own p (own_word place)))
  whole_word_looks id x p place live in_p b t h late views k at =
      let low = word_looks (CellsAreSound form) z id x.view p place live in_p b t (views_of views) k.kept
      (at_view form z b t h late views k id x at live) in
      let learnt = (tells b t h late views k id x.knows (known_here form z b t h late views k id x at live)).descriptor p place in
      let y : Whole = record x { view = low.0; knows = learnt.0 } in
      (y, whole_looked form z b t h late views k id x at live y low.1 learnt.2 (learnt.1.learns.own, learnt.1.learns.slots, refl) (path_here form z b t h late views k id x at live), (low.2.0, (low.2.1, learnt.1, refl, refl)))

  pub whole_load_word : (slots id : ℕ) (me : WholeMine) (p place : ℕ) → me.0.view.size ≡ z → me.0.view.live ≡ true
      → Inside z (at_own p (own_word place))
      → Allows (WholeHolds form z) slots id me (address z (at_own p (own_word place))) (λ r. r)
      (whole_loads_word (step slots (address z (at_own p (own_word place))) 0 0 none) me)
  whole_load_word slots id me p place sized live in_p = whole_looked_at form z slots id me (at_own p (own_word place))
      (SeesWord me.0) in_p sized (whole_word_looks id me.0 p place live in_p)

  -- a verdict on the own attempt isn't that it was withdrawn, where the pass didn't do so
  own_verdict : (b : Board) (t : Past) (h : History) (late : ℕ → Bool) (id : ℕ) (x y : Whole) → x.view.seat ≡ id
      → IsKnown b t t.words h late id x.knows → IsKnown b t t.words h late id y.knows
      → (p : ℕ) (s : Status) → OwnVerdict x p s y
  own_verdict b t h late id x y seated before after p s mine kept number st has withdrew_it =
      let told : IsTrueNote h (verdict (code p s.number) st) = after.told (verdict (code p s.number) st) has in
      let here : code p s.number ≡ code id x.knows.own.number = λ i. code ((mine ∙ seated) i) (number i) in
      before.own.kept kept (subst (λ (i : ℕ). h.stage i ≡ aborted withdrawn) here (told.0 ∙ withdrew_it))

  pub whole_status_looks : (id : ℕ) (x : Whole) (p : ℕ) → x.view.live ≡ true → Inside z (at_own p own_status)
      → WholeLooks form z id x (at_own p own_status)
      (λ r y. SameSeat x.view y.view × SeesStatus x r y (at_own p own_status))
  whole_status_looks id x p live in_p b t h late views k at =
      let few : z.seats ≤ 32 = k.kept.few in let lt = in_p.0 in
      let low = status_looks (CellsAreSound form) z id x.view p live in_p b t (views_of views) k.kept
      (at_view form z b t h late views k id x at live) in
      let learnt = (tells b t h late views k id x.knows (known_here form z b t h late views k id x at live)).status p (omega arith) in
      let y : Whole = record { view = low.0; knows = learnt.0; aim = (p, (b.status p).number); path = x.path; taken = x.taken } in
      let same : unpacked (packed (b.status p)) ≡ b.status p = unpacked_packed (b.status p) (k.kept.shared.statuses p) in (
        y,
        whole_looked form z b t h late views k id x at live y low.1 learnt.2 (learnt.1.learns.own, learnt.1.learns.slots, refl) (path_here form z b t h late views k id x at live),
        (
          low.2.0,
          (
            low.2.1.0,
            low.2.1.1,
            subst (λ (u : Status). StatusSeen x.knows p u learnt.0) (sym same) learnt.1,
            ap (λ (u : Status). (p, u.number)) (sym same),
            own_verdict b t h late id x y (own_here form z b t h late views k id x at live).seated.0
                (known_here form z b t h late views k id x at live) learnt.2 p (unpacked (packed (b.status p))),
            refl,
          ),
        ),
      )

  pub whole_load_status : (slots id : ℕ) (me : WholeMine) (p : ℕ) → me.0.view.size ≡ z → me.0.view.live ≡ true
      → Inside z (at_own p own_status)
      → Allows (WholeHolds form z) slots id me (address z (at_own p own_status)) (λ r. r)
      (whole_loads_status (step slots (address z (at_own p own_status)) 0 0 none) me)
  whole_load_status slots id me p sized live in_p = whole_looked_at form z slots id me (at_own p own_status)
      (SeesStatus me.0) in_p sized (whole_status_looks id me.0 p live in_p)

  pub whole_install_looks : (id : ℕ) (x : Whole) (q place : ℕ) → x.view.live ≡ true
      → Inside z (at_own q (own_install place))
      → WholeLooks form z id x (at_own q (own_install place))
      (λ r y. SameSeat x.view y.view × SeesInstall x r y (at_own q (own_install place)))
  whole_install_looks id x q place live in_p b t h late views k at =
      let low = install_looks (CellsAreSound form) z id x.view q place live in_p b t (views_of views) k.kept
      (at_view form z b t h late views k id x at live) in
      let y : Whole = record x { view = low.0 } in (
        y,
        whole_looked form z b t h late views k id x at live y low.1 (known_here form z b t h late views k id x at live) (refl, refl, refl) (path_here form z b t h late views k id x at live),
        (low.2.0, (low.2.1, refl, refl, refl)),
      )

  pub whole_load_install : (slots id : ℕ) (me : WholeMine) (q place : ℕ) → me.0.view.size ≡ z → me.0.view.live ≡ true
      → Inside z (at_own q (own_install place))
      → Allows (WholeHolds form z) slots id me (address z (at_own q (own_install place))) (λ r. r)
      (whole_loads_install (step slots (address z (at_own q (own_install place))) 0 0 none) me)
  whole_load_install slots id me q place sized live in_p = whole_looked_at form z slots id me (at_own q (own_install place))
      (SeesInstall me.0) in_p sized (whole_install_looks id me.0 q place live in_p)

  -- a plain word has the plain value
  pub plain_there : (b : Board) (t : Past) → Shared (CellsAreSound form) z b t → (n : ℕ) (f : Field) (v : ℕ) → b.cell n f ≡ Plain v
      → t.plain n f ≡ v
  plain_there b t s n f v is = sym (subst (CellOk z.seats b.status t.attempt t.placing t.course (t.plain n f) n f) is
      (s.each_cell n f))

  -- what a word of a node tells beside, by the number that it shows
  pub word_seen : (b : Board) (t : Past) (h : History) (late : ℕ → Bool) (views : List Whole)
      → WholeKept form z b t h late views → (id : ℕ) (k : PassKnows) → IsKnown b t t.words h late id k → (n : ℕ) (f : Field)
      → IsUsed (h.slot n)
      → (k' : PassKnows) × WordSeen k n f (kind (raw (b.cell n f))) k' × IsKnown b t t.words h late id k'
  word_seen b t h late views w id k known n f in_use =
      let learnt = (tells b t h late views w id k known).word n f (used_not_spare (h.slot n) in_use) (plain_there b t w.kept.shared n f) in
      (learnt.0, subst (λ (c : WordKind). WordSeen k n f c learnt.0) (sym (kind_raw (b.cell n f) (w.kept.shared.ranges n f))) learnt.1, learnt.2)
