-- The passes of a board that opens are all of it, and each knows nothing yet.
use Rattle.std.proofs.Common.{◌≡◌, ℕ, ◌+◌, ◌<◌, true, false, List, [], ◌∷◌, map, length, refl, sym, ap, ◌∙◌, subst, inl, arith}
use mathlib.Core.Option.{some}
use mathlib.Core.Logic.{dite}
use native.Mathlib.Decide.{ℕ_discrete}
use lib.ListN.{get_elem?}
use Rattle.pc_model.specs.declared.shape.Shape.{Ghosts}
use Rattle.pc_rule_law.specs.declared.opening.Opening.{Opening}
use Rattle.pc_rule_law.specs.Board.{Size}
use Rattle.pc_rule_law.specs.Rule.{opening_install, opening_own}
use Rattle.pc_rule_law.specs.Tables.{size_of}
use Rattle.pc_exchange_law.specs.Paths.{Path, dropped, new_path}
use Rattle.pc_exchange_law.specs.Wholes.{Whole, knows_nothing}
use Rattle.pc_exchange_law.specs.WholeSeats.{whole_maker}
use Rattle.pc_rule_law.proofs.Lists.{below_length}
use Rattle.pc_rule.specs.declared.board.Board.{Board}
use Rattle.pc_rule.specs.declared.board.Pass.{Pass}
use Rattle.pc_rule_law.specs.declared.share.Share.{Share}
use Rattle.pc_rule.specs.declared.visit.Visit.{Visit}
use Rattle.pc_rule.specs.Passes.{whole, view, knows, board_size, listed, visits, IsBlank, IsPassOf}
use Rattle.pc_rule.specs.Opened.{last_whole, AreOpened}
use Rattle.pc_rule.specs.Recorded.{HaveShares}
use Rattle.pc_rule.specs.Shares.{AreAll, AllNoted, NoneInstalled, NoneTried, NoneVisited, KnowNothing}
use Rattle.pc_rule.specs.Walking.{visited_of, path_with}

module _ {H : Type 0} {S : Ghosts H} (b : Board H) (o : Opening) where
  -- what a pass shows that has just been made
  record IsNew (i : ℕ) (p : Pass H S) : Type 0 where
    of : IsPassOf b p
    seat : (view p).seat ≡ i
    fresh : (view p).fresh ≡ true
    notes : (view p).notes ≡ []
    posted : (view p).posted ≡ false
    nothing : knows p ≡ knows_nothing (view p).size (view p).seat
    attempt : (view p).attempt ≡ opening_own (size_of o)
    install : (view p).install ≡ opening_install (size_of o)
    none : IsBlank p
    unlisted : listed p ≡ []
    path : (whole p).path ≡ new_path

  module _ (passes : List (Pass H S)) (opened : AreOpened b o passes) where
    each_new : (i : ℕ) (p : Pass H S) → get_elem? passes i ≡ some p → IsNew i p
    each_new i p at = let q = opened.1 i p at in let lt : i < length passes = below_length passes i p at in let n : length passes ≡ o.seats = opened.0 in dite (ℕ_discrete (i + 1) o.seats)
        (λ e. let l = q.1 e in let is : whole p ≡ last_whole o i = l.1 in record { of = l.0; seat = ap (λ (x : Whole). x.view.seat) is; fresh = ap (λ (x : Whole). x.view.fresh) is; notes = ap (λ (x : Whole). x.view.notes) is; posted = ap (λ (x : Whole). x.view.posted) is; nothing = ap (λ (x : Whole). x.knows) is ∙ sym (ap (λ (x : Whole). knows_nothing x.view.size x.view.seat) is); attempt = ap (λ (x : Whole). x.view.attempt) is; install = ap (λ (x : Whole). x.view.install) is; none = l.2; unlisted = l.4; path = ap (λ (x : Whole). x.path) is })
        (λ ne. let m = q.0 (omega arith) in let is : whole p ≡ whole_maker (last_whole o i) = m.1 in record { of = m.0; seat = ap (λ (x : Whole). x.view.seat) is; fresh = ap (λ (x : Whole). x.view.fresh) is; notes = ap (λ (x : Whole). x.view.notes) is; posted = ap (λ (x : Whole). x.view.posted) is; nothing = ap (λ (x : Whole). x.knows) is ∙ sym (ap (λ (x : Whole). knows_nothing x.view.size x.view.seat) is); attempt = ap (λ (x : Whole). x.view.attempt) is; install = ap (λ (x : Whole). x.view.install) is; none = m.2; unlisted = m.3; path = ap (λ (x : Whole). x.path) is })

    pub all_opened : 0 < o.seats → board_size b ≡ size_of o → length b.shares.items ≡ o.seats → AreAll b passes
    all_opened one sized shares = let seats : (board_size b).seats ≡ o.seats = ap (λ (z : Size). z.seats) sized in record {
      some = rw seats one;
      count = opened.0 ∙ sym seats;
      shared = shares ∙ sym seats;
      order = λ i p at. let is = each_new i p at in (is.of, is.seat, inl is.fresh);
      last = λ i p at e. let l = (opened.1 i p at).1 (e ∙ seats) in (ap (λ (x : Whole). x.view.last) l.1, ap (λ (x : Whole). x.view.rest) l.1, l.3 (e ∙ seats));
    }

    pub none_noted : AllNoted passes []
    none_noted i p at = (each_new i p at).notes

    pub none_known : KnowNothing passes
    none_known i p at = (each_new i p at).nothing

    -- so it is at rest, and has visited nothing
    visits_none : (l : List Visit) (x : Whole) → x.path ≡ new_path → (path_with l x.path).visits ≡ map visited_of l
        → (path_with l x.path ≡ new_path) × (l ≡ [])
    visits_none [] x is held = (ap dropped is, refl)
    visits_none (v ∷ l) x is held = absurd (let clash : [] ≡ map visited_of (v ∷ l) = sym (ap (λ (p : Path). p.visits) is) ∙ held in cc)

    pub none_visited : NoneVisited passes
    none_visited i p at = visits_none (visits p) (whole p) (each_new i p at).path p.walking.visits

    pub all_shared : (shares : List Share) → b.shares.items ≡ shares → HaveShares shares passes
    all_shared shares same i p at = let is = each_new i p at in (
      subst (λ (n : ℕ). get_elem? shares n ≡ some p.share) is.seat (subst (λ (l : List Share). get_elem? l (view p).seat ≡ some p.share) same is.of.4),
      is.none,
    )

    pub none_tried : board_size b ≡ size_of o → NoneTried passes
    none_tried sized i p at = let is = each_new i p at in
        (is.posted, is.attempt ∙ ap opening_own (sym (is.of.1 ∙ sized)), is.unlisted)

    pub none_installed : board_size b ≡ size_of o → NoneInstalled passes
    none_installed sized i p at = let is = each_new i p at in
        (is.fresh, is.install ∙ ap opening_install (sym (is.of.1 ∙ sized)))
