-- What was stored is what is published.
use Rattle.std.proofs.Common.{rules, ◌≡◌, ◌<◌, ◌≤◌, ◌+◌, [], ◌∷◌, List, length, map, ap, ap₂, ◌∙◌, subst, refl, sym, arith}
use Rattle.std.proofs.lemmas.List.Sorted.{length_permutation}
use Rattle.std.specs.List.Sorted.{IsPermutation, IsNonDecreasingBy}
use Rattle.pc_protocol.specs.Notes.{Note, clock_was, saw}
use Rattle.pc_exchange_law.specs.Passes.{PassKnows}
use Rattle.pc_exchange_law.specs.Paths.{Path, read_of}
use Rattle.pc_exchange_law.specs.Wholes.{Whole}
use Rattle.pc_rule_law.specs.Past.{Has, Describes}
use Rattle.pc_rule_law.specs.Views.{View, clock_at, word_in, with_notes}
use Rattle.pc_rule_law.proofs.Lists.{has_later}
use Rattle.pc_rule.specs.Listed.{word_number}
use Rattle.pc_rule.specs.Passes.{whole, view, knows, listed, visits, path, board_size}
use Rattle.pc_rule.specs.Starting.{change_of}
use Rattle.pc_rule.specs.Walking.{path_with}
use Rattle.pc_rule.proofs.Calls.{pass_stays}
use Rattle.pc_rule.proofs.Starting.{element}
use Rattle.pc_kcas.specs.Exchanges.{visit_count, FitsByMode, HasPublished, KnowsOwn, KnowsExchange, KnowsAbove, VisitsHeld, attempt_with, exchange_by, mode_word, visits_by, reads_by, own_exchange}
use Rattle.pc_kcas.specs.Locks.{words_by, WhereLocked, CanLock}
use Rattle.pc_kcas.proofs.Attempts.{only_published, may_publish, has_published, knows_place}
use Rattle.pc_kcas.proofs.Locks.{raises_by, known_by, known_all, visit_known, touched_all, touched_by, more_words}
use Rattle.pc_kcas.proofs.Owning.{own_exchange_noted, own_published, above_fewer, noted_published, told_published}
use Rattle.pc_kcas.proofs.PathVisits.{goes_by, covers_by, reads_go, visits_inside}
use Rattle.pc_kcas.proofs.publishing.publish.Goals as goal

pub step_11-requires-clause-may : goal.step_11-requires-clause-may
step_11-requires-clause-may g c = λ _ _.
    let b = c.args.board.now in let first = c.args.pass.now in let p = c.prepare.new.pass in let mode = c.args.mode in let r = c.prepare.result in
    let only = c.prepare.ensures.only in let seen = saw r (read_of (whole first).path) in
    let size : (view p).size ≡ (view first).size = c.prepare.ensures.seated.1 in
    let same_path : path p ≡ path first = ap₂ path_with (ap (λ v. v.items) c.prepare.ensures.path.1) c.prepare.ensures.path.0 in
    let more : (m : Note) → Has (knows first).told m → Has (knows p).told m =
    λ m h. subst (λ l. Has l m) (sym only.told) (has_later (clock_was r) (seen ∷ (knows first).told) m (has_later seen (knows first).told m h)) in
    let saw_path : Has (knows p).told (saw r (read_of (whole p).path)) =
    subst (λ (w : Path). Has (knows p).told (saw r (read_of w))) (sym c.prepare.ensures.path.0) (subst (λ l. Has l seen) (sym only.told) (1, refl)) in
    let goes = goes_by (knows p) (whole p).path (visits p) r mode (map change_of (listed p))
    (covers_by mode (path p) (visits p) (listed first) (listed p) p.walking.visits
    (subst (λ (w : Path). IsPermutation (words_by mode w (listed first)) (listed p)) (sym same_path) c.prepare.ensures.each)
    (subst (λ l. WhereLocked mode (CanLock l (listed first))) (sym (ap (λ v. v.items) c.prepare.ensures.path.1)) c.requires.locks)) saw_path p.walking.visits in
    let fit : FitsByMode g.H.Shape.form (view p).size.slots mode (path p) (listed first) =
    subst (λ (q : Path). FitsByMode g.H.Shape.form (view p).size.slots mode q (listed first)) (sym same_path)
    (subst (λ z. FitsByMode g.H.Shape.form z.slots mode (path first) (listed first)) (sym size) c.requires.fits) in
    may_publish g.H.Shape.form (board_size b) (whole p) (knows p) (mode_word mode (path p).visits) (visits_by mode (path p)) (reads_by mode (path p))
    (words_by mode (path p) (listed first)) (listed p) r c.pack-status.result p.one_attempt (search rules) (size ∙ c.requires.pass.1) (search rules)
    p.listing (subst (λ (w : Path). IsPermutation (words_by mode w (listed first)) (listed p)) (sym same_path) c.prepare.ensures.each)
    (raises_by mode (path p) (listed first) c.requires.raises) fit
    (known_by (board_size b) (knows p) mode (path p) (listed first) (visit_known (board_size b) (knows p) (whole p).path (visits p) r saw_path)
    (known_all (board_size b) (knows p) (knows first) (listed first) more c.requires.old))
    (touched_by (knows p) mode (visits p) (whole p).path (listed first) (touched_all (knows p) (whole p).path.visits (board_size b) (knows first) (listed first) more c.requires.old))
    (λ m h. h)
    (subst (λ l. Has l (clock_was r)) (sym only.told) (0, refl)) only.above
    (visits_inside (view p).size.slots (path p) (visits p) p.walking.visits mode p.walking.fit p.walking.few) c.prepare.ensures.described goes (search rules)

pub returns-clause-only : goal.returns-clause-only
returns-clause-only g c = let first = c.args.pass.now in let p = c.prepare.new.pass in
    only_published (view first) (with_notes (view first) (clock_at c.prepare.result ∷ [])) (view p) (view c.step_11.new.pass) c.prepare.result (view p).attempt.words
    refl c.prepare.ensures.only.view c.step_11.ensures.told

pub returns-clause-published : goal.returns-clause-published
returns-clause-published g c =
    let first = c.args.pass.now in let p = c.prepare.new.pass in let q = c.step_11.new.pass in let mode = c.args.mode in
    let is = sym (ap (λ v. v.items) c.step_11.ensures.pass.1) in
    let known = own_exchange_noted (whole p) (whole q) (mode_word mode (path p).visits) (visits_by mode (path p)) (reads_by mode (path p)) (listed p) p.one_attempt c.step_11.ensures.told
    c.step_11.ensures.learnt c.prepare.ensures.described (reads_go mode (whole p).path (visits p) p.walking.visits) in
    let more = more_words mode (path first) (listed first) in
    let count = length_permutation (words_by mode (path first) (listed first)) (listed p) c.prepare.ensures.each in (
      subst (λ l. HasPublished (view q) l) is
          (has_published (view p) (view q) (mode_word mode (path p).visits) (visits_by mode (path p)) (reads_by mode (path p)) (listed p) c.step_11.ensures.told (search rules) (search rules)
          c.prepare.ensures.described (let some = c.requires.some in omega arith)),
      subst (λ l. KnowsOwn (whole q) l) is (own_published (whole p) (whole q) (mode_word mode (path p).visits) (visits_by mode (path p)) (reads_by mode (path p)) (listed p) c.step_11.ensures.learnt
          (subst (λ (u : View). Describes u.size.slots (attempt_with (mode_word mode (path p).visits) (visits_by mode (path p)) (reads_by mode (path p)) (map change_of (listed p))) (word_in u.attempt.words))
          (sym c.step_11.ensures.told) c.prepare.ensures.described) (known.0, known.1)),
      subst (λ (u : View). VisitsHeld u (visits q)) (sym c.step_11.ensures.told)
          (let h = subst (VisitsHeld (view p)) (sym (ap (λ v. v.items) c.step_11.ensures.pass.2.1)) c.prepare.ensures.visits in record { within = h.within; each = h.each }),
    )

pub returns-clause-above : goal.returns-clause-above
returns-clause-above g c =
    let first = c.args.pass.now in let p = c.prepare.new.pass in let q = c.step_11.new.pass in let mode = c.args.mode in let r = c.prepare.result in
    let seen = saw r (read_of (whole first).path) in let only = c.prepare.ensures.only in
    let same_path : path p ≡ path first = ap₂ path_with (ap (λ v. v.items) c.prepare.ensures.path.1) c.prepare.ensures.path.0 in
    let known = own_exchange_noted (whole p) (whole q) (mode_word mode (path p).visits) (visits_by mode (path p)) (reads_by mode (path p)) (listed p) p.one_attempt c.step_11.ensures.told
    c.step_11.ensures.learnt c.prepare.ensures.described (reads_go mode (whole p).path (visits p) p.walking.visits) in
    subst (λ l. KnowsAbove (knows first).told (whole q) (exchange_by mode (path first) l)) (sym (ap (λ v. v.items) c.step_11.ensures.pass.1))
    (subst (λ (w : Path). KnowsAbove (knows first).told (whole q) (exchange_by mode w (listed p))) same_path (
      known.0,
      known.1,
      above_fewer (knows first).told (knows p).told known.0
          (λ m h. subst (λ l. Has l m) (sym only.told) (has_later (clock_was r) (seen ∷ (knows first).told) m (has_later seen (knows first).told m h))) known.2,
    ))

pub returns-clause-noted : goal.returns-clause-noted
returns-clause-noted g c =
    let first = c.args.pass.now in let p = c.prepare.new.pass in let q = c.step_11.new.pass in let mode = c.args.mode in
    let same_path : path p ≡ path first = ap₂ path_with (ap (λ v. v.items) c.prepare.ensures.path.1) c.prepare.ensures.path.0 in
    let known = own_exchange_noted (whole p) (whole q) (mode_word mode (path p).visits) (visits_by mode (path p)) (reads_by mode (path p)) (listed p) p.one_attempt c.step_11.ensures.told
    c.step_11.ensures.learnt c.prepare.ensures.described (reads_go mode (whole p).path (visits p) p.walking.visits) in
    subst (λ l. KnowsExchange (whole q) (exchange_by mode (path first) l)) (sym (ap (λ v. v.items) c.step_11.ensures.pass.1))
    (subst (λ (w : Path). KnowsExchange (whole q) (exchange_by mode w (listed p))) same_path (known.0, known.1))

pub returns-clause-visits : goal.returns-clause-visits
returns-clause-visits g c = let first = c.args.pass.now in let p = c.prepare.new.pass in
    let same_path : path p ≡ path first = ap₂ path_with (ap (λ v. v.items) c.prepare.ensures.path.1) c.prepare.ensures.path.0 in
    ap visit_count c.step_11.ensures.told ∙ (c.prepare.ensures.described.visits ∙ ap (λ (w : Path). length (visits_by c.args.mode w)) same_path)

pub returns-clause-path : goal.returns-clause-path
returns-clause-path g c = (c.step_11.ensures.pass.2.0 ∙ c.prepare.ensures.path.0, c.step_11.ensures.pass.2.1 ∙ c.prepare.ensures.path.1)

pub returns-clause-kept : goal.returns-clause-kept
returns-clause-kept g c = let first = c.args.pass.now in let p = c.prepare.new.pass in let q = c.step_11.new.pass in let r = c.prepare.result in
    let seen = saw r (read_of (whole first).path) in let prepared = c.prepare.ensures.only in
    let only = only_published (view first) (with_notes (view first) (clock_at r ∷ [])) (view p) (view q) r (view p).attempt.words refl prepared.view c.step_11.ensures.told in record {
      notes = (clock_at only.clock.0 ∷ [], only.clock.1);
      noted = λ n h. noted_published (whole p) (whole q) c.step_11.ensures.learnt n (subst (λ l. Has l n) (sym prepared.noted) h);
      told = λ n h. told_published (whole p) (whole q) c.step_11.ensures.learnt n
          (subst (λ l. Has l n) (sym prepared.told) (has_later (clock_was r) (seen ∷ (knows first).told) n (has_later seen (knows first).told n h)));
    }

pub returns-clause-each : goal.returns-clause-each
returns-clause-each g c = let first = c.args.pass.now in subst (IsPermutation (words_by c.args.mode (path first) (listed first))) (sym (ap (λ v. v.items) c.step_11.ensures.pass.1)) c.prepare.ensures.each

pub returns-clause-rising : goal.returns-clause-rising
returns-clause-rising g c = subst (λ l. IsNonDecreasingBy word_number l) (sym (ap (λ v. v.items) c.step_11.ensures.pass.1)) c.prepare.ensures.rising

pub returns-clause-known : goal.returns-clause-known
returns-clause-known g c =
    let b = c.args.board.now in let first = c.args.pass.now in let p = c.prepare.new.pass in let q = c.step_11.new.pass in let mode = c.args.mode in
    let four = pass_stays b p q (pass_stays b first p c.requires.pass c.prepare.ensures.seated) c.step_11.ensures.pass.0 in
    let more = more_words mode (path first) (listed first) in
    let count = length_permutation (words_by mode (path first) (listed first)) (listed p) c.prepare.ensures.each in
    let has = subst (λ l. HasPublished (view q) l) (sym (ap (λ v. v.items) c.step_11.ensures.pass.1))
    (has_published (view p) (view q) (mode_word mode (path p).visits) (visits_by mode (path p)) (reads_by mode (path p)) (listed p) c.step_11.ensures.told (search rules) (search rules)
    c.prepare.ensures.described (let some = c.requires.some in omega arith)) in
    λ k d lt. knows_place (view q) (listed q) has q.listing (subst (λ z. (view q).seat < z.seats) (sym four.1) four.2) (own_exchange q) k _ refl refl (element (listed q) k d lt)
