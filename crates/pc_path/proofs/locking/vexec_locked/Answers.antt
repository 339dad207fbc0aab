-- No node was visited at two versions, so the path can be locked; or it is given up.
use Rattle.std.proofs.Common.{length, subst, ap, List, sym, inl, inr}
use Rattle.pc_exchange_law.specs.Wholes.{Whole}
use Rattle.pc_rule.specs.Passes.{view, visits, path, listed, board_size, whole}
use Rattle.pc_kcas.specs.declared.mode.Mode.TheVariants.{LockedPath}
use Rattle.pc_kcas.specs.Bounds.{most_in_end}
use Rattle.pc_kcas.specs.Locks.{words_by}
use Rattle.pc_path.specs.Adds.{AreAtOneVersion}
use Rattle.pc_path.proofs.Counted.{none_more, none_only}
use Rattle.pc_rule.specs.declared.visit.Visit.{Visit}
use Rattle.pc_kcas.proofs.LockedFits.{locked_fits}
use Rattle.pc_path.specs.Losses.{WasSeenToMove}
use Rattle.pc_path.specs.Tries.{HasTried}
use Rattle.pc_path.proofs.Exchanged.{never_locked}
use Rattle.pc_path.proofs.Tried.{changed_tried}
use Rattle.pc_path.proofs.Moving.{can_lock}
use Rattle.pc_path.proofs.locking.vexec_locked.Goals as goal

pub exchanged-requires-clause-fits : goal.exchanged-requires-clause-fits
exchanged-requires-clause-fits g c κs within = let p = c.args.pass.now in
    locked_fits g.H.Shape.form (view p).size.slots (path p) (visits p) (listed p) p.walking.visits p.walking.fit p.walking.few c.requires.even
    (can_lock (visits p) (listed p) c.requires.few c.requires.visited (subst AreAtOneVersion c.visits.ensures.visits c.in-None.ensures.none)) p.listing c.requires.fits

pub exchanged-requires-clause-locks : goal.exchanged-requires-clause-locks
exchanged-requires-clause-locks g c κs within = let p = c.args.pass.now in
    can_lock (visits p) (listed p) c.requires.few c.requires.visited (subst AreAtOneVersion c.visits.ensures.visits c.in-None.ensures.none)

pub returns-in-None-clause-never_locked : goal.returns-in-None-clause-never_locked
returns-in-None-clause-never_locked g c = never_locked c.exchanged.result c.exchanged.ensures.walked

pub returns-in-Some-clause-attempts : goal.returns-in-Some-clause-attempts
returns-in-Some-clause-attempts g c = none_more (view c.args.pass.now).attempt.number (view c.give_up.new.pass).attempt.number (ap (λ (y : Whole). y.view.attempt.number) c.give_up.ensures.same)

pub returns-in-Some-clause-bounded : goal.returns-in-Some-clause-bounded
returns-in-Some-clause-bounded g c = let p = c.args.pass.now in
    none_only (view p) (view c.give_up.new.pass) (most_in_end (board_size c.args.board.now) (length (words_by LockedPath (path p) (listed p)))) (ap (λ (y : Whole). y.view.install.number) c.give_up.ensures.same)

pub returns-in-None-clause-tried : goal.returns-in-None-clause-tried
returns-in-None-clause-tried g c = let p = c.args.pass.now in
    changed_tried (HasTried LockedPath (path p) (listed p) (view p) (whole c.exchanged.new.pass)) (WasSeenToMove (visits p)) c.exchanged.result c.exchanged.ensures.tried
